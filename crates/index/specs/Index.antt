-- The index of the names that a buffer holds: slots in lent words, which a put probes where 02 (viii)'s put walks the
-- earlier entries.
use Rattle.std.specs.Prelude.{ℕ, ◌+◌, ◌*◌, ◌/◌, ◌≤◌, ◌≡◌, Bool, true, cond, ◌&&◌, List, map, length, get_or, set}
use Rattle.std.specs.Prelude.{eqb, ltb, leb}
use Rattle.jhash.specs.NameHash.{hash_of}
use Rattle.image.specs.Tables.{Bucket, start, probe_sequence, first_empty, Filled}
use Rattle.image.specs.Image.{Entry, head_size, placed, bucket_of}
use Rattle.writer.specs.State.{State, refuses_repeats}
use Rattle.writer.specs.Put.{put_refusal, appended}
use Rattle.writer.specs.Close.{recorded, close_refusal}
use Rattle.jhash.specs.Refusals as refused

-- the lent words are slots of two words each: a hash, then the offset of an entry; offset 0 marks an empty slot. An odd
-- last word has no meaning
abbrev pub slot_count : List ℕ → ℕ
slot_count words = length words / 2

abbrev pub slot_at : List ℕ → ℕ → Bucket
slot_at words k = record { hash = get_or words (2 * k) 0; at = get_or words (2 * k + 1) 0 }

-- the slots that a hash is looked for in, one after the other: those of the image's own tables
abbrev pub slot_sequence : List ℕ → ℕ → List ℕ
slot_sequence words h = probe_sequence (slot_count words) (slot_count words) (start h (slot_count words))

abbrev pub first_empty_slot : List ℕ → ℕ → ℕ
first_empty_slot words h = first_empty (λ (k : ℕ). (slot_at words k).at) (slot_sequence words h)

-- hash and offset stored in slot k; inserted: in the first empty slot of the hash's probe sequence
abbrev pub slot_stored : List ℕ → ℕ → ℕ → ℕ → List ℕ
slot_stored words k h at = set (set words (2 * k) h) (2 * k + 1) at

abbrev pub slot_inserted : List ℕ → ℕ → ℕ → List ℕ
slot_inserted words h at = slot_stored words (first_empty_slot words h) h at

-- hash and offset of each entry, in put order
abbrev pub entry_buckets : List Entry → List Bucket
entry_buckets es = map bucket_of (placed head_size es)

-- the slots are what inserting these into empty ones leaves, by the rule of the image's own tables
abbrev pub FilledWith : List ℕ → List Bucket → Type 0
FilledWith words bs = Filled (slot_count words) (slot_at words) bs

-- a put looks for its name with repeats off; with repeats on it needs no slots
abbrev pub seeks : State → Bool
seeks s = refuses_repeats s.writer.repeats

-- the index is right: close would accept record and buffer, and there are 256 counts; with repeats off there are at
-- least as many slots as entries, and the slots are filled with the entries in put order
pub record Right (s : State) (words : List ℕ) : Type 0 where
  pub closes : close_refusal s ≡ 0
  pub tables : length s.counts ≡ 256
  pub capacity : seeks s ≡ true → s.writer.entries ≤ slot_count words
  pub slots : seeks s ≡ true → FilledWith words (entry_buckets (recorded s))

-- a put by the index: put's refusal; where put would accept, with repeats off, 24 when every slot is taken
unfoldable pub indexed_refusal : State → List ℕ → Entry → ℕ
indexed_refusal s words e =
    cond (seeks s && (eqb (put_refusal s e) 0 && leb (slot_count words) s.writer.entries)) refused.index_full
    (put_refusal s e)

-- the slots after an accepted put: with repeats off one is inserted
abbrev pub slots_after : State → List ℕ → Entry → List ℕ
slots_after s words e = cond (seeks s) (slot_inserted words (hash_of e.name) s.writer.end) words

unfoldable pub after_indexed : State → List ℕ → Entry → State
after_indexed s words e = cond (eqb (indexed_refusal s words e) 0) (appended s e) s

-- making an index: close's refusal; where close would accept, 24 when there are more entries than slots
unfoldable pub index_refusal : State → List ℕ → ℕ
index_refusal s words =
    cond (eqb (close_refusal s) 0 && ltb (slot_count words) s.writer.entries) refused.index_full (close_refusal s)

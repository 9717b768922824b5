-- An index stays right: with the same entries in another state, after an accepted put whose slot is inserted, after a close and in a longer buffer.
-- Cleared slots are a right index of a fresh record. Assumes nothing.
use Prim.Native.Nat.{ℕ, ◌+◌, ◌^◌, ◌<◌, ◌*◌, ◌≤◌}
use native.Mathlib.Omega.{arith}
use mathlib.Core.Path.{◌≡◌, refl, sym, ap, subst, ◌∙◌}
use mathlib.Core.Bool.{Bool, true, cond}
use mathlib.Core.List.{List, [], ◌∷◌, ◌++◌}
use lib.ListN.{length, length-append, get_or}
use Rattle.jhash.specs.NameHash.{hash_of}
use Rattle.image.specs.declared.Mode.{Mode}
use Rattle.image.specs.declared.Mode.TheVariants.{Twoway, Oneway}
use Rattle.image.specs.Tables.{Bucket, insert_all, filled}
use Rattle.image.specs.Image.{Entry, head_size, placed}
use Rattle.image.proofs.EntryArea.{AllBytes}
use Rattle.image.proofs.Bools.{false_not_true}
use Rattle.image.proofs.Buckets.{get_or_empties}
use Rattle.writer.specs.declared.Repeats.{Repeats}
use Rattle.writer.specs.State.{State, refuses_repeats, state_with, fresh}
use Rattle.writer.specs.Put.{put_refusal, appended}
use Rattle.writer.specs.Close.{recorded}
use Rattle.writer.specs.declared.CQDBWriter.{CQDBWriter}
use Rattle.writer.specs.declared.Repeats.TheVariants.{On}
use Rattle.writer.proofs.Longer.{longer_accepted}
use Rattle.lists.specs.Calls.{put, WordId}
use Rattle.lists.specs.Theorems.LongerBuffer.{moved_to, Longer}
use Rattle.lists.proofs.Closable.{number, written, ends}
use Rattle.lists.proofs.ListWritten.{Written}
use Rattle.lists.proofs.ListPuts.{put_due_lem, appended_written, fresh_written}
use Rattle.lists.proofs.ListCloses.{close_accepted, close_written}
use Rattle.lists.proofs.WrittenRecord.{written_recorded}
use Rattle.lists.proofs.LongerBuffer.{written_there}
use Rattle.index.specs.Index.{slot_count, first_empty_slot, slot_inserted, entry_buckets, FilledWith, seeks, slots_after, Right}
use Rattle.index.specs.Theorems.KeptRight.{KeptRight}
use Rattle.index.proofs.Insert.{buckets_snoc, filled_stored, length_stored, same_slot}

-- the same entries with the same choice of repeats
pub right_written : {s t : State} {words : List ℕ} {mode : Mode} {repeats : Repeats} {n k : ℕ} {es : List Entry} → Right s words
    → Written mode repeats k es s → Written mode repeats n es t → Right t words
right_written {s} {t} {words} {mode} {repeats} {n} {k} {es} right v w =
    let choice : seeks t ≡ seeks s = ap refuses_repeats (w.repeats_is ∙ sym v.repeats_is) in
    let same = written_recorded mode repeats k es s v ∙ sym (written_recorded mode repeats n es t w) in
    record {
      closes = close_accepted mode repeats n es t w;
      tables = w.tables;
      capacity = λ off. omega (arith, right.capacity (sym choice ∙ off), v.entries, w.entries);
      slots = λ off. subst (λ (fs : List Entry). FilledWith words (entry_buckets fs)) same (right.slots (sym choice ∙ off));
    }

-- ---- after an accepted put

word_of : (mode : Mode) (e : Entry) → e.id < 2 ^ 32 → WordId mode (put e)
word_of Twoway e h = tt
word_of Oneway e h = h

module _ {s : State} {words : List ℕ} (bytes : AllBytes s.buffer) (right : Right s words) (e : Entry) (word : e.id < 2 ^ 32)
    (due : put_refusal s e ≡ 0) where
  abbrev mode : Mode
  mode = s.writer.mode

  abbrev repeats : Repeats
  repeats = s.writer.repeats

  abbrev n : ℕ
  n = s.writer.length

  abbrev h : ℕ
  h = hash_of e.name

  abbrev b : Bucket
  b = record { hash = hash_of e.name; at = s.writer.end }

  now : Written mode repeats n (recorded s ++ (e ∷ [])) (appended s e)
  now =
      let was = written s bytes right.closes right.tables in
      appended_written mode repeats n (recorded s) s was e (sym (put_due_lem mode repeats n (recorded s) s was e) ∙ due) (word_of mode e word)

  same_choice : seeks (appended s e) ≡ seeks s
  same_choice = ap refuses_repeats now.repeats_is

  more : entry_buckets (recorded (appended s e)) ≡ entry_buckets (recorded s) ++ (b ∷ [])
  more =
      ap entry_buckets (written_recorded mode repeats n (recorded s ++ (e ∷ [])) (appended s e) now)
      ∙ buckets_snoc (recorded s) e
      ∙ ap (λ (o : ℕ). entry_buckets (recorded s) ++ (record { hash = hash_of e.name; at = o } ∷ [])) (sym (ends s bytes right.closes))

  one_more : (appended s e).writer.entries ≡ s.writer.entries + 1
  one_more = now.entries ∙ length-append (recorded s) (e ∷ []) ∙ ap (λ (k : ℕ). k + 1) (number s bytes right.closes)

  inserted : seeks (appended s e) ≡ true → slot_inserted words h s.writer.end ≡ slots_after s words e
  inserted off = sym (ap (λ (c : Bool). cond c (slot_inserted words h s.writer.end) words) (sym same_choice ∙ off))

  -- its slot is inserted, where names are sought
  pub right_after_put : (seeks s ≡ true → s.writer.entries < slot_count words) → (seeks s ≡ true → first_empty_slot words (hash_of e.name) < slot_count words)
      → Right (appended s e) (slots_after s words e)
  right_after_put spare inside =
      record {
        closes = close_accepted mode repeats n (recorded s ++ (e ∷ [])) (appended s e) now;
        tables = now.tables;
        capacity = λ off. omega (arith, one_more, spare (sym same_choice ∙ off), ap length (inserted off), length_stored words k h s.writer.end);
        slots = λ off. subst (λ (l : List ℕ). FilledWith l (entry_buckets (recorded (appended s e)))) (inserted off)
            (subst (FilledWith (slot_inserted words h s.writer.end)) (sym more)
            (filled_stored words (right.slots (sym same_choice ∙ off)) b k (inside (sym same_choice ∙ off)) refl));
      }
    where
      k : ℕ
      k = first_empty_slot words (hash_of e.name)

-- ---- a fresh record, a close and a longer buffer

-- a fresh record has no entry: slots that are filled with none are its index
right_begun : (mode : Mode) (repeats : Repeats) (buffer words : List ℕ) → head_size ≤ length buffer
    → (seeks (fresh mode repeats buffer) ≡ true → FilledWith words (entry_buckets [])) → Right (fresh mode repeats buffer) words
right_begun mode repeats buffer words room slots =
    let w = fresh_written mode repeats buffer room in
    record {
      closes = close_accepted mode repeats (length buffer) [] (fresh mode repeats buffer) w;
      tables = w.tables;
      capacity = λ off. omega (arith, w.entries);
      slots = λ off. subst (λ (es : List Entry). FilledWith words (entry_buckets es))
          (sym (written_recorded mode repeats (length buffer) [] (fresh mode repeats buffer) w)) (slots off);
    }

pub right_fresh : (mode : Mode) (repeats : Repeats) (buffer words : List ℕ) → head_size ≤ length buffer → ((i : ℕ) → get_or words i 0 ≡ 0)
    → Right (fresh mode repeats buffer) words
unfolding filled insert_all placed
right_fresh mode repeats buffer words room clear =
    right_begun mode repeats buffer words room
    (λ off. record { each = λ k h. same_slot (clear (2 * k)) (clear (2 * k + 1)) ∙ sym (get_or_empties (slot_count words) k) })

-- with repeats on any words are
right_any : (mode : Mode) (buffer words : List ℕ) → head_size ≤ length buffer → Right (fresh mode On buffer) words
unfolding fresh
right_any mode buffer words room = right_begun mode On buffer words room (λ off. absurd (false_not_true off))

-- where the entries stand in a longer buffer
pub right_moved : {s : State} {words : List ℕ} {mode : Mode} {repeats : Repeats} {n : ℕ} {es : List Entry} → Right s words
    → Written mode repeats n es s → (longer : List ℕ) → Longer longer s → Right (moved_to longer s) words
right_moved {s} {words} {mode} {repeats} {n} {es} right w longer l =
    subst (λ (x : CQDBWriter). Right (state_with x s.counts longer) words) (longer_accepted s.writer (length longer) l.long).1
    (right_written right w (written_there mode repeats n es s w longer l))

-- what close would accept is written
was : {s : State} {words : List ℕ} → AllBytes s.buffer → Right s words → Written s.writer.mode s.writer.repeats s.writer.length (recorded s) s
was {s} bytes right = written s bytes right.closes right.tables

pub kept_right : KeptRight
kept_right =
    record {
      fresh_right = right_fresh;
      fresh_any = right_any;
      close_right = λ s words bytes right.
          right_written right (was bytes right) (close_written s.writer.mode s.writer.repeats s.writer.length (recorded s) s (was bytes right));
      longer_right = λ s words longer bytes l right. right_moved right (was bytes right) longer l;
    }

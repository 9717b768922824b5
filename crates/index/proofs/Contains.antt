-- Names read where entries stand; and a probe of a right index for a name: whether an entry has the name, and whether a slot is empty. Assumes nothing.
use Prim.Native.Nat.{ℕ, ◌≤◌, ◌<◌, ◌+◌, ◌^◌}
use native.Mathlib.Omega.{arith}
use native.Mathlib.Decide.{ℕ_discrete}
use mathlib.Core.Path.{◌≡◌, refl, sym, subst, ◌∙◌, ap}
use mathlib.Core.Bool.{Bool, true, false, cond, ◌&&◌, ◌||◌, or-true}
use mathlib.Core.List.{List, [], ◌∷◌, map}
use mathlib.Core.Logic.{inl, inr}
use borrow.Author.Tests.{eq-eqb, ne_eqb, lt-ltb, le-ltb, le-leb, lt-leb, eqb-false}
use lib.Dec.{eqb, ltb, leb}
use lib.ListN.{length, take, length-take}
use Rattle.jhash.specs.NameHash.{hash_of}
use Rattle.image.specs.Bytes.{same, cat}
use Rattle.image.specs.Tables.{Bucket}
use Rattle.image.specs.Image.{Entry, Placed, head_size, placed, bucket_of, contains_name, entry_bytes, entry_size, has_name}
use Rattle.image.proofs.Bools.{false_not_true}
use Rattle.image.proofs.Buckets.{filled_all}
use Rattle.image.proofs.EntryArea.{AllBytes}
use Rattle.image.proofs.AllOfList.{All, all_map, all_both, all_image}
use Rattle.image.proofs.Equal.{same_lengths, same_true}
use Rattle.image.proofs.At.{At}
use Rattle.image.proofs.EntryAt.{EntryAt, placed_at, all_placed}
use Rattle.reader.specs.Lookup.{Hit, hit, pass}
use Rattle.lookup_laws.proofs.EntriesOf.{names_short}
use Rattle.lookup_laws.specs.Steps.HasMatch.{has_match}
use Rattle.lookup_laws.proofs.SlotSearch.{none_empty, some_empty, none_equal}
use Rattle.lookup_laws.proofs.TableContents.{NotEmpty}
use Rattle.lookup_laws.proofs.EntryProbe.{probe_entry_at}
use Rattle.writer.specs.State.{State}
use Rattle.writer.specs.Close.{recorded, close_refusal}
use Rattle.lists.proofs.Closable.{number, end_small, entries_stand, ids_are, ends}
use Rattle.index.specs.Index.{slot_count, slot_at, slot_sequence, entry_buckets, seeks, Right}
use Rattle.index.specs.Probe.{has_name_at, probe_slots, is_hit}
use Rattle.index.proofs.Probing.{Result, result, sequence_below}
use Rattle.index.proofs.Insert.{length_buckets, buckets_occupied}

-- ---- names read where entries stand

-- at the entry's offset, v says whether the entry has the name
abbrev Decides : List ℕ → (ℕ → Bool) → Placed → Type 0
Decides name v p = v p.at ≡ same p.entry.name name

all_decided : (img name : List ℕ) → length img ≤ 4294967295 → (es : List Entry) → At img head_size (cat entry_bytes es)
    → All (λ (e : Entry). e.id < 2 ^ 32) es → All (Decides name (has_name_at img name)) (placed head_size es)
all_decided img name small es stands ids =
    all_map one (placed head_size es)
    (all_both (EntryAt img) (λ (p : Placed). p.entry.id < 2 ^ 32) (placed head_size es)
    (placed_at img head_size es (omega arith) stands) (all_placed (λ (e : Entry). e.id < 2 ^ 32) head_size es ids))
  where
    hit_is : (t : Bool) (x : Hit) → is_hit (cond t (hit x) pass) ≡ t
    hit_is true x = refl
    hit_is false x = refl

    one : (p : Placed) → EntryAt img p × (p.entry.id < 2 ^ 32) → Decides name (has_name_at img name) p
    one p w = ap is_hit (probe_entry_at p.entry w.0.there small name w.1) ∙ hit_is (same p.entry.name name) _

-- ---- entries and names

module _ (name : List ℕ) (v : ℕ → Bool) where
  -- no entry of the name's hash has the name: none has it
  holds_none : (o : ℕ) (es : List Entry) → All (Decides name v) (placed o es)
      → All (λ (b : Bucket). b.hash ≡ hash_of name → v b.at ≡ false) (map bucket_of (placed o es)) → contains_name name es ≡ false
  unfolding placed contains_name
  holds_none o [] decided others = refl
  holds_none o (e ∷ es) decided others = by_equality (same e.name name) refl (holds_none (o + entry_size e) es decided.1 others.1)
    where
      by_equality : (t : Bool) → same e.name name ≡ t → contains_name name es ≡ false → (t || contains_name name es) ≡ false
      by_equality true p rest = absurd (false_not_true (sym (others.0 (ap hash_of (same_true e.name name p))) ∙ decided.0 ∙ p))
      by_equality false p rest = rest

  -- one has the name: an entry has it
  has_one : (o : ℕ) (es : List Entry) → All (λ (p : Placed). same p.entry.name name ≡ true → contains_name name es ≡ true) (placed o es)
  unfolding placed contains_name
  has_one o [] = tt
  has_one o (e ∷ es) = (
    λ t. ap (λ (x : Bool). x || contains_name name es) t,
    all_map (λ p later t. ap (λ (x : Bool). has_name name e || x) (later t) ∙ or-true (has_name name e)) (placed (o + entry_size e) es)
        (has_one (o + entry_size e) es),
  )

  -- a probe with a match has passed a slot whose entry has the name
  matches_some : (b : ℕ → Bucket) (h : ℕ) {X : Type 0} (ks : List ℕ) → All (λ (k : ℕ). NotEmpty (b k) → v (b k).at ≡ true → X) ks
      → has_match b h v ks ≡ true → X
  unfolding has_match
  matches_some b h [] told e = absurd (false_not_true e)
  matches_some b h {X} (k ∷ ks) told e =
      by_bucket (eqb (b k).at 0) refl (eqb (b k).hash h) (v (b k).at) refl (matches_some b h ks told.1) e
    where
      by_bucket : (p : Bool) → eqb (b k).at 0 ≡ p → (q t : Bool) → v (b k).at ≡ t → (has_match b h v ks ≡ true → X)
          → cond p false (cond (q && t) true (has_match b h v ks)) ≡ true → X
      by_bucket true p q t r rest e = absurd (false_not_true e)
      by_bucket false p true true r rest e = told.0 (eqb-false (b k).at 0 p) r
      by_bucket false p true false r rest e = rest e
      by_bucket false p false t r rest e = rest e

-- no entry has a name that is longer than all entries
holds_longer : (name : List ℕ) (es : List Entry) → All (λ (e : Entry). length e.name < length name) es → contains_name name es ≡ false
unfolding contains_name
holds_longer name [] all = refl
holds_longer name (e ∷ es) all = rw (same_lengths e.name name (λ z. omega (arith, all.0, z))) (holds_longer name es all.1)

pub long_absent : (s : State) → AllBytes s.buffer → close_refusal s ≡ 0 → (name : List ℕ) → 4294967295 ≤ length name
    → contains_name name (recorded s) ≡ false
long_absent s bytes closes name h =
    holds_longer name (recorded s) (names_short (length name) (recorded s) (omega (arith, end_small s bytes closes, ends s bytes closes)))

-- ---- a right index

-- what the result r of a put's probe says
pub record PutProbe (s : State) (words name : List ℕ) (r : ℕ) : Type 0 where
  pub found : ltb (slot_count words) r ≡ contains_name name (recorded s)
  pub full : ltb (slot_count words) r ≡ false → eqb r (slot_count words) ≡ leb (slot_count words) s.writer.entries

module _ {s : State} {words : List ℕ} (bytes : AllBytes s.buffer) (right : Right s words) (off : seeks s ≡ true) (name : List ℕ) where
  abbrev es : List Entry
  es = recorded s

  abbrev m : ℕ
  m = slot_count words

  abbrev h : ℕ
  h = hash_of name

  abbrev v : ℕ → Bool
  v = has_name_at (take s.writer.end s.buffer) name

  abbrev ks : List ℕ
  ks = slot_sequence words h

  abbrev k : ℕ
  k = probe_slots words h v

  stored : length (entry_buckets es) ≡ s.writer.entries
  stored = length_buckets es ∙ number s bytes right.closes

  fit : length (entry_buckets es) ≤ m
  fit = omega (arith, stored, right.capacity off)

  decided : All (Decides name v) (placed head_size es)
  decided =
      all_decided (take s.writer.end s.buffer) name
      (omega (arith, length-take s.writer.end s.buffer, end_small s bytes right.closes)) es
      (entries_stand s bytes right.closes) (ids_are s bytes right.closes)

  none_has : has_match (slot_at words) h v ks ≡ false → contains_name name es ≡ false
  none_has e = holds_none name v head_size es decided (others (ℕ_discrete m 0))
    where
      no_bucket : (bs : List Bucket) → length bs ≡ 0 → All (λ (b : Bucket). b.hash ≡ h → v b.at ≡ false) bs
      no_bucket [] z = tt
      no_bucket (b ∷ bs) z = absurd (omega arith)

      others : Dec (m ≡ 0) → All (λ (b : Bucket). b.hash ≡ h → v b.at ≡ false) (entry_buckets es)
      others (yes z) = no_bucket (entry_buckets es) (omega (arith, z, fit))
      others (no z) = none_equal (right.slots off) (omega (arith, z)) h v fit (buckets_occupied es) e

  abbrev Held : Bucket → Type 0
  Held b = NotEmpty b → v b.at ≡ true → contains_name name es ≡ true

  held : (i : ℕ) → i < m → Held (slot_at words i)
  held i l =
      subst Held (sym ((right.slots off).each i l))
      (filled_all Held m (entry_buckets es) (λ full t. absurd (full refl))
      (all_image Held bucket_of (λ p w full t. w.1 (sym w.0 ∙ t)) (placed head_size es)
      (all_both (Decides name v) (λ (p : Placed). same p.entry.name name ≡ true → contains_name name es ≡ true) (placed head_size es) decided
      (has_one name v head_size es))) i)

  some_has : has_match (slot_at words) h v ks ≡ true → contains_name name es ≡ true
  some_has = matches_some name v (slot_at words) h ks (all_map held ks (sequence_below words h))

  pub put_probe : PutProbe s words name (probe_slots words (hash_of name) (has_name_at (take s.writer.end s.buffer) name))
  put_probe = by_result (result words h v)
    where
      by_result : Result words h v ks → PutProbe s words name (probe_slots words h v)
      by_result (inl o) =
          let above = lt-ltb m k (omega (arith, o.is)) in
          record { found = above ∙ sym (some_has o.matching); full = λ f. absurd (false_not_true (sym f ∙ above)) }
      by_result (inr (inl o)) =
          let fewer = some_empty (right.slots off) fit (buckets_occupied es) h o.some in
          record {
            found = le-ltb m k (omega (arith, o.below)) ∙ sym (none_has o.matching);
            full = λ f. ne_eqb k m (λ z. omega (arith, z, o.below)) ∙ sym (lt-leb m s.writer.entries (omega (arith, stored, fewer)));
          }
      by_result (inr (inr o)) =
          let all = none_empty (right.slots off) fit (buckets_occupied es) h o.full in
          record {
            found = le-ltb m k (omega (arith, o.is)) ∙ sym (none_has o.matching);
            full = λ f. eq-eqb k m o.is ∙ sym (le-leb m s.writer.entries (omega (arith, stored, all)));
          }

-- One entry more in tables and back array: one bucket of one table changes, and one word of the back array. Assumes nothing.
use Rattle.std.proofs.Common.{◌≡◌, ℕ, zero, suc, ◌+◌, ◌*◌, ◌/◌, ◌^◌, ◌<◌, ◌≤◌, false, eqb, List, [], ◌∷◌, ◌++◌, map, length, sym, refl, ap, ◌∙◌, append-nil}
use Rattle.std.proofs.Common.{mod-lt, arith, lit<, eq-eqb, ne_eqb}
use mathlib.Core.List.{map-append}
use lib.Seq.{sets}
use Rattle.jhash.specs.NameHash.{hash_of}
use Rattle.image.specs.Bytes.{le32, cat, filter, range}
use Rattle.image.specs.Tables.{Bucket, table_of, start, next, probe_sequence, first_empty, at_of, insert, filled}
use Rattle.image.specs.Image.{Placed, in_table, of_table, count, bucket_of, bucket_bytes, entries_before, has_id, placed_of_id, last_from, back_word}
use Rattle.image.specs.Image.{back_words}
use Rattle.image.proofs.Words.{length_le32}
use Rattle.image.proofs.Lists.{length_cat, filter_yes, filter_no, filter-append, length_range}
use Rattle.image.proofs.Sizes.{of_table-append, filled_more, length-bucket_bytes}
use Rattle.image.proofs.Stores.{sets_part, sets_run}
use Rattle.image.proofs.Parts.{buckets_of, length_tables_of_to}
use Rattle.serialize.proofs.Choices.{cond_holds}
use Rattle.serialize.proofs.PartialImage.{table_with, tables_with, length_table_with}
use Rattle.image.proofs.At.{At, at_left, at_word, at_second}
use Rattle.serialize.specs.Steps.Meeting.{bucket_at}

-- ---- the first empty bucket of a search

-- it is one of the buckets
pub first_empty_below : (f : ℕ → ℕ) (n m k : ℕ) → k < n → first_empty f (probe_sequence n m k) < n
unfolding first_empty probe_sequence
first_empty_below f n zero k h = omega arith
first_empty_below f n (suc m) k h =
    cond_holds (λ (j : ℕ). j < n) (eqb (f k) 0) h (first_empty_below f n m (next n k) (mod-lt (k + 1) (omega arith)))

-- ---- a bucket as it is read

abbrev pub Words : Bucket → Type 0
Words b = (b.hash < 2 ^ 32) × (b.at < 2 ^ 32)

pub bucket_read : {img : List ℕ} (o k : ℕ) (b : Bucket) → At img (o + 8 * k) (bucket_bytes b) → Words b → bucket_at img o k ≡ b
unfolding bucket_bytes
bucket_read o k b there small =
    let hash = at_word b.hash (at_left (le32 b.hash) (le32 b.at) there) small.0 in
    let at = at_word b.at (at_second b.hash b.at there) small.1 in
    λ i. record { hash = hash i; at = at i }

-- ---- tables

-- an entry's table, and the bucket for it where the entries rs are inserted
abbrev pub own_table : Placed → ℕ
own_table p = table_of (hash_of p.entry.name)

unfoldable pub place : List Placed → List Placed → Placed → ℕ
place ps rs p =
    let n = 2 * count (own_table p) ps in
    first_empty (at_of (table_with ps rs (own_table p))) (probe_sequence n n (start (hash_of p.entry.name) n))

-- the entries of a table, with one entry more
module _ (rs : List Placed) (p : Placed) where
  pub of_table_own : of_table (own_table p) (rs ++ p ∷ []) ≡ of_table (own_table p) rs ++ p ∷ []
  unfolding of_table filter
  of_table_own =
      of_table-append (own_table p) rs (p ∷ [])
      ∙ ap (λ (l : List Placed). of_table (own_table p) rs ++ l) (filter_yes (in_table (own_table p)) p [] (eq-eqb (own_table p) (own_table p) refl))

  pub of_table_other : (t : ℕ) → (t ≡ own_table p → ⊥) → of_table t (rs ++ p ∷ []) ≡ of_table t rs
  unfolding of_table filter
  of_table_other t h =
      of_table-append t rs (p ∷ [])
      ∙ ap (λ (l : List Placed). of_table t rs ++ l) (filter_no (in_table t) p [] (ne_eqb (own_table p) t (λ z. h (sym z))))
      ∙ append-nil (of_table t rs)

module _ (ps rs : List Placed) (p : Placed) where
  own : ℕ
  own = own_table p

  table_other : (t : ℕ) → (t ≡ own → ⊥) → table_with ps rs t ≡ table_with ps (rs ++ p ∷ []) t
  unfolding table_with own
  table_other t h = sym (ap (λ (l : List Placed). filled (2 * count t ps) (map bucket_of l)) (of_table_other rs p t h))

  table_own : table_with ps (rs ++ p ∷ []) own ≡ insert (2 * count own ps) (table_with ps rs own) (bucket_of p)
  unfolding table_with own
  table_own =
      ap (λ (l : List Placed). filled (2 * count own ps) (map bucket_of l)) (of_table_own rs p)
      ∙ ap (filled (2 * count own ps)) (map-append bucket_of (of_table own rs) (p ∷ []))
      ∙ filled_more (2 * count own ps) (map bucket_of (of_table own rs)) (bucket_of p)

  pub place_below : 0 < count (own_table p) ps → place ps rs p < 2 * count (own_table p) ps
  unfolding place
  place_below h =
      let n = 2 * count (own_table p) ps in
      first_empty_below (at_of (table_with ps rs (own_table p))) n n (start (hash_of p.entry.name) n)
      (mod-lt (hash_of p.entry.name / 256) (omega arith))

  stored : 0 < count own ps
      → sets (cat bucket_bytes (table_with ps rs own)) (8 * place ps rs p) (bucket_bytes (bucket_of p)) ≡ cat bucket_bytes (table_with ps (rs ++ p ∷ []) own)
  unfolding own place insert
  stored h =
      sets_part bucket_bytes 8 length-bucket_bytes (table_with ps rs own) (place ps rs p) (bucket_of p) (rw (length_table_with ps rs own) (place_below h))
      ∙ ap (cat bucket_bytes) (sym table_own)

  pub tables_more : 0 < count (own_table p) ps
      → sets (tables_with ps rs) (16 * entries_before (own_table p) ps + 8 * place ps rs p) (bucket_bytes (bucket_of p)) ≡ tables_with ps (rs ++ p ∷ [])
  unfolding tables_with own
  tables_more h =
      sets_run (buckets_of (table_with ps rs)) (buckets_of (table_with ps (rs ++ p ∷ []))) (bucket_bytes (bucket_of p)) 256 (own_table p) (8 * place ps rs p)
      (16 * entries_before (own_table p) ps + 8 * place ps rs p)
      (mod-lt (hash_of p.entry.name) (lit< tt))
      (ap (λ (n : ℕ). n + 8 * place ps rs p) (sym (length_tables_of_to ps (table_with ps rs) (length_table_with ps rs) (own_table p))))
      inside
      (stored h)
      (λ t k. ap (cat bucket_bytes) (table_other t k))
    where
      inside : 8 * place ps rs p + length (bucket_bytes (bucket_of p)) ≤ length (cat bucket_bytes (table_with ps rs (own_table p)))
      inside =
          let b = place_below h in
          let T = table_with ps rs (own_table p) in
          omega (arith, length-bucket_bytes (bucket_of p), length_cat bucket_bytes 8 length-bucket_bytes T, length_table_with ps rs (own_table p))

-- ---- the back array

over : (v w : ℕ) → sets (le32 v) 0 (le32 w) ≡ le32 w
unfolding le32
over v w = refl

last_more : (o : ℕ) (ps : List Placed) (p : Placed) → last_from o (ps ++ p ∷ []) ≡ p.at
unfolding last_from
last_more o [] p = refl
last_more o (q ∷ ps) p = last_more q.at ps p

module _ (rs : List Placed) (p : Placed) where
  id_more : (i : ℕ) (k : List Placed) → placed_of_id i (p ∷ []) ≡ k → placed_of_id i (rs ++ p ∷ []) ≡ placed_of_id i rs ++ k
  unfolding placed_of_id
  id_more i k e = filter-append (λ (q : Placed). has_id i q.entry) rs (p ∷ []) ∙ ap (λ (l : List Placed). placed_of_id i rs ++ l) e

  back_word_other : (i : ℕ) → (i ≡ p.entry.id → ⊥) → back_word rs i ≡ back_word (rs ++ p ∷ []) i
  unfolding back_word placed_of_id filter
  back_word_other i h =
      let no : has_id i p.entry ≡ false = ne_eqb p.entry.id i (λ z. h (sym z)) in
      sym (ap (last_from 0) (id_more i [] (filter_no (λ (q : Placed). has_id i q.entry) p [] no) ∙ append-nil (placed_of_id i rs)))

  back_word_own : back_word (rs ++ p ∷ []) p.entry.id ≡ p.at
  unfolding back_word placed_of_id filter
  back_word_own =
      let i = p.entry.id in
      ap (last_from 0) (id_more i (p ∷ []) (filter_yes (λ (q : Placed). has_id i q.entry) p [] (eq-eqb i i refl))) ∙ last_more 0 (placed_of_id i rs) p

  pub back_words_more : (n : ℕ) → p.entry.id < n → sets (back_words rs n) (4 * p.entry.id) (le32 p.at) ≡ back_words (rs ++ p ∷ []) n
  unfolding back_words
  back_words_more n h =
      let i = p.entry.id in
      sets_run (λ (j : ℕ). le32 (back_word rs j)) (λ (j : ℕ). le32 (back_word (rs ++ p ∷ []) j)) (le32 p.at) n i 0 (4 * i) h
      (omega (arith, length_cat (λ (j : ℕ). le32 (back_word rs j)) 4 (λ j. length_le32 (back_word rs j)) (range 0 i), length_range 0 i))
      (omega (arith, length_le32 p.at, length_le32 (back_word rs i)))
      (over (back_word rs i) p.at ∙ ap le32 (sym back_word_own))
      (λ j k. ap le32 (back_word_other j k))

-- What the next bucket of a search says, for all names that have the hash at once. Assumes nothing.
use Prim.Native.Nat.{ℕ, ◌+◌, ◌*◌, ◌-◌, ◌/◌, ◌%◌, ◌≤◌, ◌<◌}
use native.Mathlib.Omega.{arith}
use native.Mathlib.Nat.{mod-add-mod}
use native.Mathlib.Decide.{ℕ_discrete}
use mathlib.Core.Path.{◌≡◌, refl, sym, ap, ◌∙◌}
use mathlib.Core.Bool.{Bool, true, false, not, ◌&&◌}
use mathlib.Core.List.{List}
use Rattle.std.proofs.lemmas.Bool.{not-true}
use borrow.Author.Tests.{eq-eqb, ne_eqb, eqb-false}
use lib.Dec.{eqb}
use lib.ListN.{length}
use Rattle.image.specs.Bytes.{word}
use Rattle.image.specs.Tables.{table_of, next}
use Rattle.image.specs.Image.{head_size}
use Rattle.image.specs.Head.{table_at, bucket_number}
use Rattle.image.proofs.Bools.{false_not_true, and_first, and_second}
use Rattle.reader.specs.Lookup.{Probe, pass, ends, probe_entry, probe_bucket, decide, unsearched, lookup_hash}
use Rattle.reader.specs.Steps.Resume.{search_rest, bucket_after, search_from}
use Rattle.reader.proofs.Searches.{probe_bucket_by, rest_step, from_over, from_read, from_start}
use Rattle.batch.specs.Steps.Probing.{SearchOpen, SearchDecided, passes, NextProbed}

-- ---- where a search stands

-- before the first bucket
pub open_first : (image : List ℕ) (h : ℕ) → SearchOpen image h 0
open_first image h name = from_start image name h

-- a table of m buckets, 0 where none is read, has no more than c
pub open_past : (image : List ℕ) (h c m : ℕ) → (m ≡ 0 → unsearched image (table_of h) ≡ true)
    → (0 < m → (unsearched image (table_of h) ≡ false) × (m ≡ bucket_number image (table_of h))) → m ≤ c → SearchOpen image h c → SearchOpen image h (c + 1)
open_past image h c m none some l before name =
    sym (from_over image name h (c + 1) m none some (omega arith)) ∙ from_over image name h c m none some l ∙ before name

-- the bucket that the search for h reads after c others: bucket k of the table of n buckets at `at`
pub record BucketRead (image : List ℕ) (h c at n k hash offset : ℕ) : Type 0 where
  pub head : head_size ≤ length image
  pub searched : unsearched image (table_of h) ≡ false
  pub table : at ≡ table_at image (table_of h)
  pub number : n ≡ bucket_number image (table_of h)
  pub more : c < n
  pub bucket : k ≡ bucket_after h n c
  pub of_offset : offset ≡ word image (at + 8 * k + 4)
  pub of_hash : hash ≡ word image (at + 8 * k)
  pub is_open : SearchOpen image h c

module _ {image : List ℕ} {h c at n k hash offset : ℕ} (b : BucketRead image h c at n k hash offset) where
  abbrev o : ℕ
  o = table_at image (table_of h)

  abbrev size : ℕ
  size = bucket_number image (table_of h)

  abbrev place : ℕ
  place = o + 8 * bucket_after h size c

  here : at + 8 * k ≡ place
  here = λ i. b.table i + 8 * (b.bucket ∙ ap (λ (m : ℕ). bucket_after h m c) b.number) i

  offset_here : offset ≡ word image (place + 4)
  offset_here = b.of_offset ∙ ap (λ (p : ℕ). word image (p + 4)) here

  hash_here : hash ≡ word image place
  hash_here = b.of_hash ∙ ap (word image) here

  -- what is left behind this bucket
  left_then : (name : List ℕ) → search_rest image name h o size (next size (bucket_after h size c)) (size - c - 1) ≡ search_from image name h (c + 1)
  left_then name =
      let x : h / 256 + c + 1 ≡ h / 256 + (c + 1) = omega arith in
      let e : next size (bucket_after h size c) ≡ bucket_after h size (c + 1) = mod-add-mod (h / 256 + c) size 1 ∙ ap (λ (v : ℕ). v % size) x in
      let f : size - c - 1 ≡ size - (c + 1) = omega arith in
      (λ i. search_rest image name h o size (e i) (f i)) ∙ from_read image name h (c + 1) o size b.searched refl refl

  by_bucket : (name : List ℕ) → decide (probe_bucket image name h place) (c + 1) (search_from image name h (c + 1)) ≡ lookup_hash image name h
  by_bucket name =
      let some : 0 < size - c = omega (arith, b.number, b.more) in
      let all : size - c ≤ size = omega arith in
      let r : c + 1 ≡ size - (size - c - 1) = omega (arith, b.number, b.more) in
      (λ i. decide (probe_bucket image name h place) (r i) (sym (left_then name) i))
      ∙ rest_step image name h o size (bucket_after h size c) (size - c) (probe_bucket image name h place) some all refl
      ∙ from_read image name h c o size b.searched refl refl
      ∙ b.is_open name

  -- whatever the bucket says decides
  decides : {s : Probe} (name : List ℕ) → s ≡ probe_bucket image name h place → decide s (c + 1) (search_from image name h (c + 1)) ≡ lookup_hash image name h
  decides name e = ap (λ (s : Probe). decide s (c + 1) (search_from image name h (c + 1))) e ∙ by_bucket name

  -- another hash: the search goes on
  passed_on : (hash ≡ h → ⊥) → 0 < offset → SearchOpen image h (c + 1)
  passed_on differs some name =
      let other : eqb (word image place) h ≡ false = ne_eqb (word image place) h (λ e. differs (hash_here ∙ e)) in
      decides {s = pass} name (probe_bucket_by image name offset h place false false offset_here (ne_eqb offset 0 (λ z. omega arith)) other)

  -- an empty bucket, or one with the hash
  decided_here : (0 < offset → hash ≡ h) → SearchDecided image h (c + 1) offset
  decided_here same =
      record {
        head = b.head;
        empty = λ z name. decides {s = ends} name (probe_bucket_by image name offset h place true _ offset_here (eq-eqb offset 0 z) refl);
        by_entry = λ some name.
            decides {s = probe_entry image name offset} name
            (probe_bucket_by image name offset h place false true offset_here (ne_eqb offset 0 (λ z. omega arith))
            (eq-eqb (word image place) h (sym hash_here ∙ same some)));
      }

  pub probed : {stays : Bool} → stays ≡ passes hash h offset → NextProbed image h (c + 1) offset stays
  probed {stays} p =
      record {
        is_open = λ e.
            let both : (not (eqb hash h) && not (eqb offset 0)) ≡ true = sym p ∙ e in
            let some : offset ≡ 0 → ⊥ = eqb-false offset 0 (not-true (eqb offset 0) (and_second (not (eqb hash h)) (not (eqb offset 0)) both)) in
            passed_on (eqb-false hash h (not-true (eqb hash h) (and_first (not (eqb hash h)) (not (eqb offset 0)) both))) (omega arith);
        decided = λ e. decided_here (λ some. same_hash some (sym p ∙ e));
      }
    where
      same_hash : 0 < offset → (not (eqb hash h) && not (eqb offset 0)) ≡ false → hash ≡ h
      same_hash some ends_it =
          elim (ℕ_discrete hash h) [
            | yes e ↦ e
            | no n ↦
                absurd (false_not_true (sym ends_it ∙ (λ i. not (ne_eqb hash h n i) && not (ne_eqb offset 0 (λ z. omega arith) i))))
          ]

-- The buckets that a search meets, and those of a filled table, one by one. Assumes nothing.
use Rattle.std.proofs.Common.{◌≡◌, ℕ, zero, suc, ◌+◌, ◌-◌, ◌<◌, ◌≤◌, List, [], ◌∷◌, length, get_or, set, replicate, refl, ap, mod-lt, arith, get_or-set_other}
use Rattle.std.proofs.Common.{get_or-set_same}
use native.Mathlib.Decide.{ℕ_discrete, dec_lt}
use lib.Seq.{set_out}
use Rattle.image.specs.Tables.{Bucket, empty, at_of, start, next, probe_sequence, first_empty, insert, insert_all, filled}
use Rattle.image.proofs.AllOfList.{All}

-- a search of m steps meets m buckets
pub length-probe_sequence : (n m k : ℕ) → length (probe_sequence n m k) ≡ m
unfolding probe_sequence
length-probe_sequence n zero k = refl
length-probe_sequence n (suc m) k = ap suc (length-probe_sequence n m (next n k))

-- the first of them, and the rest
pub probe_sequence_step : (n left k : ℕ) → 0 < left → probe_sequence n left k ≡ k ∷ probe_sequence n (left - 1) (next n k)
unfolding probe_sequence
probe_sequence_step n left k h = let e : left ≡ suc (left - 1) = omega arith in ap (λ (m : ℕ). probe_sequence n m k) e

-- searches that see the same in each bucket find the same
pub first_empty_ext : (f g : ℕ → ℕ) (n : ℕ) → ((k : ℕ) → k < n → f k ≡ g k) → (m k : ℕ) → k < n
    → first_empty f (probe_sequence n m k) ≡ first_empty g (probe_sequence n m k)
unfolding first_empty probe_sequence
first_empty_ext f g n alike zero k h = refl
first_empty_ext f g n alike (suc m) k h =
    rw (alike k h, first_empty_ext f g n alike m (next n k) (mod-lt (k + 1) (omega arith)))

pub get_or_empties : (n k : ℕ) → get_or (replicate n empty) k empty ≡ empty
get_or_empties zero k = refl
get_or_empties (suc n) zero = refl
get_or_empties (suc n) (suc k) = get_or_empties n k

-- what holds of the empty bucket and of every entry holds of every bucket of a filled table
module _ (P : Bucket → Type 0) where
  set_all : (table : List Bucket) (i : ℕ) (b : Bucket) → ((k : ℕ) → P (get_or table k empty)) → P b → (k : ℕ) → P (get_or (set table i b) k empty)
  set_all table i b all one k = by_place (ℕ_discrete k i) (dec_lt i (length table))
    where
      by_place : Dec (k ≡ i) → Dec (i < length table) → P (get_or (set table i b) k empty)
      by_place (no e) d = rw (get_or-set_other table i k b empty e) (all k)
      by_place (yes e) (yes h) = rw (e, get_or-set_same table i b empty h) one
      by_place (yes e) (no h) = let q : length table ≤ i = omega arith in rw (set_out table i b q) (all k)

  insert_all_all : (n : ℕ) (table bs : List Bucket) → ((k : ℕ) → P (get_or table k empty)) → All P bs → (k : ℕ) → P (get_or (insert_all n table bs) k empty)
  unfolding insert_all insert
  insert_all_all n table [] all each = all
  insert_all_all n table (b ∷ bs) all each =
      insert_all_all n (insert n table b) bs
      (set_all table (first_empty (at_of table) (probe_sequence n n (start b.hash n))) b all each.0)
      each.1

  pub filled_all : (n : ℕ) (bs : List Bucket) → P empty → All P bs → (k : ℕ) → P (get_or (filled n bs) k empty)
  unfolding filled
  filled_all n bs none each = insert_all_all n (replicate n empty) bs (λ k. rw (get_or_empties n k) none) each

-- A test of a run of numbers, one by one. Assumes nothing.
use Rattle.std.proofs.Common.{◌≡◌, ℕ, zero, suc, ◌+◌, ◌-◌, ◌<◌, Bool, true, false, ◌&&◌, sym, refl, ap, ◌∙◌, ap₂, arith}
use mathlib.Core.Bool.{and_assoc}
use Rattle.image.specs.Bytes.{all}
use Rattle.image.proofs.Bools.{and_first, and_second, and_both}

module _ (f : ℕ → Bool) where
  pub all_step : (t n : ℕ) → t < n → all f t (n - t) ≡ (f t && all f (t + 1) (n - (t + 1)))
  unfolding all
  all_step t n h =
      let p : n - t ≡ suc (n - (t + 1)) = omega arith in
      let q : suc t ≡ t + 1 = omega arith in
      ap (λ (m : ℕ). all f t m) p ∙ ap (λ (k : ℕ). f t && all f k (n - (t + 1))) q

  -- one turn of a loop that joins what it found
  pub all_more : (t n : ℕ) (b x : Bool) → t < n → (b && all f t (n - t)) ≡ x → ((b && f t) && all f (t + 1) (n - (t + 1))) ≡ x
  all_more t n b x h p =
      and_assoc b (f t) (all f (t + 1) (n - (t + 1))) ∙ ap (λ (c : Bool). b && c) (sym (all_step t n h)) ∙ p

  pub all_end : (t : ℕ) (b x : Bool) → (b && all f t 0) ≡ x → b ≡ x
  unfolding all
  all_end t true x p = p
  all_end t false x p = p

  -- what it says of each number
  pub all_each : (t m i : ℕ) → all f t m ≡ true → i < m → f (t + i) ≡ true
  unfolding all
  all_each t zero i h k = absurd (omega arith)
  all_each t (suc m) zero h k =
      let z : t + 0 ≡ t = omega arith in
      rw z (and_first (f t) (all f (suc t) m) h)
  all_each t (suc m) (suc i) h k =
      let z : t + suc i ≡ suc t + i = omega arith in
      let l : i < m = omega arith in
      rw z (all_each (suc t) m i (and_second (f t) (all f (suc t) m) h) l)

  pub all_true : (t m : ℕ) → ((i : ℕ) → i < m → f (t + i) ≡ true) → all f t m ≡ true
  unfolding all
  all_true t zero h = refl
  all_true t (suc m) h =
      let z : t + 0 ≡ t = omega arith in
      let p : f t ≡ true = rw z at (h 0 (omega arith)) in
      and_both (f t) (all f (suc t) m) p (all_true (suc t) m (λ i k. shift i (h (suc i) (omega arith))))
    where
      shift : (i : ℕ) → f (t + suc i) ≡ true → f (suc t + i) ≡ true
      shift i e = let z : t + suc i ≡ suc t + i = omega arith in rw z at e

-- tests that agree on the run
pub all_ext : (f g : ℕ → Bool) (t m : ℕ) → ((i : ℕ) → i < m → f (t + i) ≡ g (t + i)) → all f t m ≡ all g t m
unfolding all
all_ext f g t zero h = refl
all_ext f g t (suc m) h =
    let z : t + 0 ≡ t = omega arith in
    let p : f t ≡ g t = rw z at (h 0 (omega arith)) in
    ap₂ ◌&&◌ p (all_ext f g (suc t) m (λ i k. shift i (h (suc i) (omega arith))))
  where
    shift : (i : ℕ) → f (t + suc i) ≡ g (t + suc i) → f (suc t + i) ≡ g (suc t + i)
    shift i e = let z : t + suc i ≡ suc t + i = omega arith in rw z at e

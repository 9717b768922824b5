-- Values in cells: each element of a list has a cell and a value, and the values rise. If as many cells are used as elements have their value in
-- their cell, every used cell has the value of exactly one of its elements. Assumes nothing.
use Prim.Native.Nat.{ℕ, suc, ◌+◌, ◌≤◌, ◌<◌}
use native.Mathlib.Omega.{arith}
use native.Mathlib.Decide.{ℕ_discrete}
use mathlib.Core.Path.{◌≡◌, refl, sym, ◌∙◌}
use mathlib.Core.Bool.{Bool, true, false, cond}
use mathlib.Core.List.{List, [], ◌∷◌, map}
use lib.ListN.{length}
use lib.Dec.{eqb}
use borrow.Author.Tests.{eq-eqb, ne_eqb}
use Rattle.image.proofs.AllOfList.{All}
use Rattle.canonical.specs.Steps.HiddenBuckets.{sum_to, bit, used_to, Rising, in_cells}
use Rattle.canonical.proofs.Sums.{bit_yes, bit_no, bit_mono, one_at_most, sum_zero, sum_more, sum_equal}

module _ {A : Type 0} (cell value : A → ℕ) (f : ℕ → ℕ) where
  -- how many elements of cell i have its value
  abbrev one : A → ℕ → ℕ
  one x i = cond (eqb (cell x) i) (cond (eqb (f i) (value x)) 1 0) 0

  unfoldable pub own : ℕ → List A → ℕ
  own i [] = 0
  own i (x ∷ xs) = one x i + own i xs

  pub own_none : (i : ℕ) → own i [] ≡ 0
  unfolding own
  own_none i = refl

  pub own_other : (i : ℕ) (x : A) (xs : List A) → (cell x ≡ i → ⊥) → own i (x ∷ xs) ≡ own i xs
  unfolding own
  own_other i x xs d = rw (ne_eqb (cell x) i d) (omega arith)

  pub own_here : (i : ℕ) (x : A) (xs : List A) → cell x ≡ i → own i (x ∷ xs) ≡ cond (eqb (f i) (value x)) 1 0 + own i xs
  unfolding own
  own_here i x xs e = rw (eq-eqb (cell x) i e)

  pub own_most : (i a : ℕ) (xs : List A) → Rising a (map value xs) → own i xs ≤ bit a (f i)
  unfolding own
  own_most i a [] r = omega arith
  own_most i a (x ∷ xs) r =
      let le = r.0 in
      let rest = own_most i (suc (value x)) xs r.1 in
      elim (ℕ_discrete (f i) (value x)) [
        | yes e ↦ omega (arith, most (eqb (cell x) i) (eqb (f i) (value x)), bit_no (suc (value x)) (f i) (omega arith), bit_yes a (f i) (omega arith))
        | no d ↦ omega (arith, none (eqb (cell x) i) d, bit_mono a (suc (value x)) (f i) (omega arith))
      ]
    where
      most : (s t : Bool) → cond s (cond t 1 0) 0 ≤ 1
      most true t = one_at_most t
      most false t = omega arith

      none : (s : Bool) → (f i ≡ value x → ⊥) → ◌≡◌ {A = ℕ} (cond s (cond (eqb (f i) (value x)) 1 0) 0) 0
      none true d = rw (ne_eqb (f i) (value x) d)
      none false d = refl

  pub own_sum : (n : ℕ) (xs : List A) → All (λ (x : A). cell x < n) xs → sum_to (λ (i : ℕ). own i xs) n ≡ in_cells cell value f xs
  unfolding own in_cells
  own_sum n [] inside = sum_zero (λ (i : ℕ). 0) n (λ k. refl)
  own_sum n (x ∷ xs) inside =
      let hit : ℕ = cond (eqb (f (cell x)) (value x)) 1 0 in
      let more = sum_more (λ (i : ℕ). own i xs) (λ (i : ℕ). own i (x ∷ xs)) (cell x) hit n inside.0
      (own_here (cell x) x xs refl ∙ (let swap : hit + own (cell x) xs ≡ own (cell x) xs + hit = omega arith in swap))
      (λ k d. sym (own_other k x xs (λ e. d (sym e)))) in
      omega (arith, own_sum n xs inside.1)

  -- every used cell is owned
  pub owned : (n : ℕ) (xs : List A) → Rising 1 (map value xs) → All (λ (x : A). cell x < n) xs → used_to f n ≡ in_cells cell value f xs
      → (i : ℕ) → i < n → own i xs ≡ bit 1 (f i)
  owned n xs r inside e =
      sum_equal (λ (i : ℕ). own i xs) (λ (i : ℕ). bit 1 (f i)) n (λ i h. own_most i 1 xs r) (own_sum n xs inside ∙ sym e)

  -- all elements have their value in their cell
  pub all_in_cells : (xs : List A) → All (λ (x : A). f (cell x) ≡ value x) xs → in_cells cell value f xs ≡ length xs
  unfolding in_cells
  all_in_cells [] h = refl
  all_in_cells (x ∷ xs) h = rw (eq-eqb (f (cell x)) (value x) h.0) (omega (arith, all_in_cells xs h.1))

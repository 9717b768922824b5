-- The lengths of the months, by the arms of the match in `month_length`. Assumes nothing.
use mathlib.Core.Path.{◌≡◌, refl, sym, ap, subst, ◌∙◌}
use mathlib.Core.Logic.{◌⊎◌, inl, inr}
use Prim.Native.Nat.{ℕ, ◌≤◌, ◌<◌}
use native.Mathlib.Omega.{arith}
use native.Mathlib.Decide.{ℕ_discrete, dec_lt}
use mathlib.Core.Bool.{Bool, true, false, not}
use mathlib.Core.List.{List, [], ◌∷◌}
use types.Run.{OneOf, hit, miss}
use mir.Val.{has_key}
use borrow.Author.Tests.{ne_eqb}
use lib.Dec.{T as Active, eqb}
use Rattle.validity.specs.Calendar.{leap, one_of, month_length}

module _ (year : ℕ) where
  pub months_30 : (m : ℕ) → OneOf (4 ∷ 6 ∷ 9 ∷ 11 ∷ []) m → 30 ≡ month_length year m
  unfolding month_length one_of
  months_30 m (inl e) = sym (ap (month_length year) e)
  months_30 m (inr (inl e)) = sym (ap (month_length year) e)
  months_30 m (inr (inr (inl e))) = sym (ap (month_length year) e)
  months_30 m (inr (inr (inr e))) = sym (ap (month_length year) e)

  pub months_31 : (m : ℕ) → OneOf (1 ∷ 3 ∷ 5 ∷ 10 ∷ 12 ∷ []) m → 31 ≡ month_length year m
  unfolding month_length one_of
  months_31 m (inl e) = sym (ap (month_length year) e)
  months_31 m (inr (inl e)) = sym (ap (month_length year) e)
  months_31 m (inr (inr (inl e))) = sym (ap (month_length year) e)
  months_31 m (inr (inr (inr (inl e)))) = sym (ap (month_length year) e)
  months_31 m (inr (inr (inr (inr e)))) = sym (ap (month_length year) e)

  pub july_august : (m : ℕ) → (m ≡ 7) ⊎ (m ≡ 8) → 31 ≡ month_length year m
  unfolding month_length one_of
  july_august m (inl e) = sym (ap (month_length year) e)
  july_august m (inr e) = sym (ap (month_length year) e)

  pub leap_february : (m : ℕ) → m ≡ 2 → leap year ≡ true → 29 ≡ month_length year m
  unfolding month_length one_of
  leap_february m e l = sym (ap (month_length year) e ∙ simp l)

  pub february : (m : ℕ) → m ≡ 2 → leap year ≡ false → 28 ≡ month_length year m
  unfolding month_length one_of
  february m e l = sym (ap (month_length year) e ∙ simp l)

  pub no_month : (m : ℕ) → (m < 1) ⊎ (12 < m) → 0 ≡ month_length year m
  unfolding month_length one_of
  no_month m (inl h) = let e : m ≡ 0 = omega arith in sym (ap (month_length year) e)
  no_month m (inr h) =
      sym (simp (
        off 1 (omega arith),
        off 2 (omega arith),
        off 3 (omega arith),
        off 4 (omega arith),
        off 5 (omega arith),
        off 6 (omega arith),
        off 7 (omega arith),
        off 8 (omega arith),
        off 9 (omega arith),
        off 10 (omega arith),
        off 11 (omega arith),
        off 12 (omega arith),
      ))
    where
      off : (k : ℕ) → k < m → eqb m k ≡ false
      off k b = ne_eqb m k (λ e. omega arith)

-- which numbers are left behind the arms of single numbers
module _ (m : ℕ) (no-31 : ¬ OneOf (1 ∷ 3 ∷ 5 ∷ 10 ∷ 12 ∷ []) m) (no-30 : ¬ OneOf (4 ∷ 6 ∷ 9 ∷ 11 ∷ []) m) (no-2 : ¬ (m ≡ 2)) where
  up : (k : ℕ) → ¬ (m ≡ k) → k ≤ m → k < m
  up k n h = omega arith

  pub seven_eight : 1 ≤ m → m < 9 → (m ≡ 7) ⊎ (m ≡ 8)
  seven_eight h l =
      elim (ℕ_discrete m 7) [
        | yes e ↦ inl e
        | no n ↦ inr (let above = up 7 n above_6 in omega arith)
      ]
    where
      above_3 : 3 < m
      above_3 = up 3 (λ e. no-31 (inr (inl e))) (up 2 no-2 (up 1 (λ e. no-31 (inl e)) h))

      above_6 : 6 < m
      above_6 = up 6 (λ e. no-30 (inr (inl e))) (up 5 (λ e. no-31 (inr (inr (inl e)))) (up 4 (λ e. no-30 (inl e)) above_3))

  pub above_12 : 9 ≤ m → 12 < m
  above_12 h =
      up 12 (λ e. no-31 (inr (inr (inr (inr e)))))
      (up 11 (λ e. no-30 (inr (inr (inr e)))) (up 10 (λ e. no-31 (inr (inr (inr (inl e))))) (up 9 (λ e. no-30 (inr (inr (inl e)))) h)))

-- ---- the lengths run from 28 to 31
hit_or_miss : (ks : List ℕ) (m : ℕ) → OneOf ks m ⊎ (¬ OneOf ks m)
hit_or_miss ks m = by_key (has_key ks m) refl
  where
    by_key : (t : Bool) → has_key ks m ≡ t → OneOf ks m ⊎ (¬ OneOf ks m)
    by_key true e = inl (hit ks m (subst Active (sym e) tt))
    by_key false e = inr (miss ks m (subst (λ (b : Bool). Active (not b)) (sym e) tt))

within : (year m : ℕ) (k : ℕ) → k ≡ month_length year m → 28 ≤ k → k ≤ 31 → (28 ≤ month_length year m) × (month_length year m ≤ 31)
within year m k e low high = (omega arith, omega arith)

pub month_lengths : (year m : ℕ) → 1 ≤ m → m ≤ 12 → (28 ≤ month_length year m) × (month_length year m ≤ 31)
month_lengths year m low high =
    elim (hit_or_miss (1 ∷ 3 ∷ 5 ∷ 10 ∷ 12 ∷ []) m) [
      | inl e ↦ within year m 31 (months_31 year m e) (omega arith) (omega arith)
      | inr no-31 ↦
          elim (hit_or_miss (4 ∷ 6 ∷ 9 ∷ 11 ∷ []) m) [
            | inl e ↦ within year m 30 (months_30 year m e) (omega arith) (omega arith)
            | inr no-30 ↦
                elim (ℕ_discrete m 2) [
                  | yes e ↦ short (leap year) refl e
                  | no n ↦
                      elim (dec_lt m 9) [
                        | yes l ↦ within year m 31 (july_august year m (seven_eight m no-31 no-30 n low l)) (omega arith) (omega arith)
                        | no g ↦ absurd (let above = above_12 m no-31 no-30 n (omega arith) in omega arith)
                      ]
                ]
          ]
    ]
  where
    short : (t : Bool) → leap year ≡ t → m ≡ 2 → (28 ≤ month_length year m) × (month_length year m ≤ 31)
    short true l e = within year m 29 (leap_february year m e l) (omega arith) (omega arith)
    short false l e = within year m 28 (february year m e l) (omega arith) (omega arith)

-- The place of the first id of a round that passes a test, and whether an id is in a list. Assumes nothing.
use Prim.Native.Nat.{ℕ, zero, suc, ◌+◌, ◌<◌}
use native.Mathlib.Omega.{arith}
use mathlib.Core.Path.{◌≡◌, refl, sym, ap, ◌∙◌}
use mathlib.Core.Bool.{Bool, true, false, cond, ◌||◌}
use mathlib.Core.List.{List, [], ◌∷◌}
use lib.ListN.{length, get_or}
use Rattle.std.specs.Prelude.{Option, Some, None, MatchOption, nat_eq}
use Rattle.std.specs.List.{list_any}
use Rattle.preflight.specs.Ids.{occurs, first_place}
use Rattle.preflight.specs.Answers.Place.{Place, At, Nothing}
use Rattle.preflight.specs.Cases.{place_of}

-- r is the place of the first id that passes a test
abbrev pub IsFirst : (ℕ → Bool) → List ℕ → Option ℕ → Type 0
IsFirst test xs r =
    MatchOption r ((k : ℕ) → k < length xs → test (get_or xs k 0) ≡ false)
    (λ p. (p < length xs) × (test (get_or xs p 0) ≡ true) × ((k : ℕ) → k < p → test (get_or xs k 0) ≡ false))

module _ (test : ℕ → Bool) where
  none_first : (n : ℕ) (xs : List ℕ) → ((k : ℕ) → k < length xs → test (get_or xs k 0) ≡ false) → first_place test n xs ≡ Nothing
  unfolding first_place
  none_first n [] h = refl
  none_first n (x ∷ xs) h =
      ap (λ (t : Bool). cond t (At n) (first_place test (suc n) xs)) (h 0 (omega arith)) ∙ none_first (suc n) xs (λ k l. h (suc k) (omega arith))

  this_first : (n p : ℕ) (xs : List ℕ) → p < length xs → test (get_or xs p 0) ≡ true → ((k : ℕ) → k < p → test (get_or xs k 0) ≡ false)
      → first_place test n xs ≡ At (n + p)
  unfolding first_place
  this_first n p [] h here before = absurd (omega arith)
  this_first n zero (x ∷ xs) h here before =
      let e : n ≡ n + 0 = omega arith in
      ap (λ (t : Bool). cond t (At n) (first_place test (suc n) xs)) here ∙ ap At e
  this_first n (suc p) (x ∷ xs) h here before =
      let e : suc n + p ≡ n + suc p = omega arith in
      ap (λ (t : Bool). cond t (At n) (first_place test (suc n) xs)) (before 0 (omega arith))
      ∙ this_first (suc n) p xs (omega arith) here (λ k l. before (suc k) (omega arith))
      ∙ ap At e

  pub first_so : (xs : List ℕ) (r : Option ℕ) → IsFirst test xs r → place_of r ≡ first_place test 0 xs
  first_so xs None h = sym (none_first 0 xs h)
  first_so xs (Some p) h = let e : 0 + p ≡ p = omega arith in sym (this_first 0 p xs h.0 h.1 h.2 ∙ ap At e)

-- whether an id is in a list, by the library's own test
pub occurs_so : (id : ℕ) (ids : List ℕ) → list_any (λ y. nat_eq y id) ids ≡ occurs id ids
unfolding occurs
occurs_so id [] = refl
occurs_so id (x ∷ xs) = ap (λ (t : Bool). nat_eq x id || t) (occurs_so id xs) ∙ chosen (nat_eq x id) _
  where
    chosen : (t u : Bool) → (t || u) ≡ cond t true u
    chosen true u = refl
    chosen false u = refl

-- The ids of a list: whether one is in it, how often, and the first that passes a test. Assumes nothing.
use Prim.Native.Nat.{ℕ, suc, ◌+◌}
use native.Mathlib.Omega.{arith}
use mathlib.Core.Path.{◌≡◌, refl, sym, ap, ◌∙◌}
use mathlib.Core.Logic.{◌⊎◌, inl, inr}
use mathlib.Core.Bool.{Bool, true, false, cond}
use mathlib.Core.List.{List, [], ◌∷◌, ◌++◌}
use lib.Dec.{eqb}
use borrow.Author.Tests.{eqb-true, eqb-false}
use Rattle.image.proofs.Bools.{false_not_true}
use Rattle.preflight.specs.Ids.{occurs, passing, count, first_place}
use Rattle.preflight.specs.Theorems.Asked.{In}
use Rattle.preflight.specs.Answers.Place.{At, Nothing}

pub at_nothing : {P : Type 0} (p : ℕ) → At p ≡ Nothing → P
at_nothing p e = let z : ◌≡◌ {A = ℕ} 0 1 = cc in absurd (omega arith)

-- ---- in the list
pub occurs_in : (id : ℕ) (xs : List ℕ) → occurs id xs ≡ true → In id xs
unfolding occurs
occurs_in id [] h = absurd (false_not_true h)
occurs_in id (x ∷ xs) h = by_first (occurs_in id xs) (eqb x id) refl h
  where
    by_first : (occurs id xs ≡ true → In id xs) → (t : Bool) → eqb x id ≡ t → cond t true (occurs id xs) ≡ true → (x ≡ id) ⊎ In id xs
    by_first ih true e q = inl (eqb-true x id e)
    by_first ih false e q = inr (ih q)

pub in_occurs : (id : ℕ) (xs : List ℕ) → In id xs → occurs id xs ≡ true
unfolding occurs
in_occurs id [] m = absurd m
in_occurs id (x ∷ xs) m = by_first (in_occurs id xs) (eqb x id) refl m
  where
    by_first : (In id xs → occurs id xs ≡ true) → (t : Bool) → eqb x id ≡ t → (x ≡ id) ⊎ In id xs → cond t true (occurs id xs) ≡ true
    by_first ih true e q = refl
    by_first ih false e (inl q) = absurd (eqb-false x id e q)
    by_first ih false e (inr q) = ih q

-- ---- how often
pub passing_append : (test : ℕ → Bool) (xs ys : List ℕ) → passing test (xs ++ ys) ≡ passing test xs + passing test ys
unfolding passing
passing_append test [] ys = omega arith
passing_append test (x ∷ xs) ys = by_first (test x) (passing_append test xs ys)
  where
    by_first : (t : Bool) → passing test (xs ++ ys) ≡ passing test xs + passing test ys
        → cond t (suc (passing test (xs ++ ys))) (passing test (xs ++ ys)) ≡ cond t (suc (passing test xs)) (passing test xs) + passing test ys
    by_first true e = omega (arith, e)
    by_first false e = e

pub none_counted : (id : ℕ) (xs : List ℕ) → ¬ In id xs → count id xs ≡ 0
unfolding passing
none_counted id [] n = refl
none_counted id (x ∷ xs) n = by_first (none_counted id xs (λ m. n (inr m))) (eqb x id) refl
  where
    by_first : count id xs ≡ 0 → (t : Bool) → eqb x id ≡ t → cond t (suc (count id xs)) (count id xs) ≡ 0
    by_first ih true e = absurd (n (inl (eqb-true x id e)))
    by_first ih false e = ih

pub counted_none : (id : ℕ) (xs : List ℕ) → count id xs ≡ 0 → ¬ In id xs
unfolding passing
counted_none id [] h m = m
counted_none id (x ∷ xs) h m = by_first (counted_none id xs) (eqb x id) refl h m
  where
    by_first : (count id xs ≡ 0 → ¬ In id xs) → (t : Bool) → eqb x id ≡ t → cond t (suc (count id xs)) (count id xs) ≡ 0 → (x ≡ id) ⊎ In id xs → ⊥
    by_first ih true e q m = omega (arith, q)
    by_first ih false e q (inl m) = eqb-false x id e m
    by_first ih false e q (inr m) = ih q m

-- ---- no id passes the test
module _ (test : ℕ → Bool) where
  pub none_passes : (n : ℕ) (xs : List ℕ) → first_place test n xs ≡ Nothing → (i : ℕ) → In i xs → test i ≡ false
  unfolding first_place
  none_passes n [] h i m = absurd m
  none_passes n (x ∷ xs) h i m = by_first (λ q. none_passes (suc n) xs q i) (test x) refl h m
    where
      by_first : (first_place test (suc n) xs ≡ Nothing → In i xs → test i ≡ false) → (t : Bool) → test x ≡ t
          → cond t (At n) (first_place test (suc n) xs) ≡ Nothing → (x ≡ i) ⊎ In i xs → test i ≡ false
      by_first ih true e q m = at_nothing n q
      by_first ih false e q (inl m) = ap test (sym m) ∙ e
      by_first ih false e q (inr m) = ih q m

  pub passes_none : (n : ℕ) (xs : List ℕ) → ((i : ℕ) → In i xs → test i ≡ false) → first_place test n xs ≡ Nothing
  unfolding first_place
  passes_none n [] h = refl
  passes_none n (x ∷ xs) h =
      ap (λ (t : Bool). cond t (At n) (first_place test (suc n) xs)) (h x (inl refl)) ∙ passes_none (suc n) xs (λ i m. h i (inr m))

-- Ids of a list: whether one is in it, how many pass a test, and the place of the first that does.
use Rattle.std.specs.Prelude.{ℕ, suc, Bool, true, false, cond, List, [], ◌∷◌, eqb}
use Rattle.preflight.specs.Answers.Place.{Place}
use Rattle.preflight.specs.Answers.Place.{At, Nothing}

-- is x this id?
abbrev pub is_id : ℕ → ℕ → Bool
is_id id x = eqb x id

-- is the id in the list?
unfoldable pub occurs : ℕ → List ℕ → Bool
occurs id [] = false
occurs id (x ∷ xs) = cond (is_id id x) true (occurs id xs)

-- how many ids pass a test
unfoldable pub passing : (ℕ → Bool) → List ℕ → ℕ
passing test [] = 0
passing test (x ∷ xs) = cond (test x) (suc (passing test xs)) (passing test xs)

-- how often an id is in a list
abbrev pub count : ℕ → List ℕ → ℕ
count id xs = passing (is_id id) xs

-- the place of the first id that passes a test, where the list's first id has the place n
unfoldable pub first_place : (ℕ → Bool) → ℕ → List ℕ → Place
first_place test n [] = Nothing
first_place test n (x ∷ xs) = cond (test x) (At n) (first_place test (suc n) xs)

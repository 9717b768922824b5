-- References before walls: 02 (xii). "A lent list of pair records says that a reference must be sighted before a wall
-- prism." A round is a list of ids.
use Rattle.std.specs.Prelude.{ℕ, suc, Bool, true, false, cond, List, [], ◌∷◌, eqb}
use Rattle.order.specs.declared.Pair.{Pair}

-- does the id occur in the list?
unfoldable pub occurs : ℕ → List ℕ → Bool
occurs id [] = false
occurs id (x ∷ xs) = cond (eqb x id) true (occurs id xs)

-- what stands before the id's first occurrence: the whole list where it does not occur
unfoldable pub before : ℕ → List ℕ → List ℕ
before id [] = []
before id (x ∷ xs) = cond (eqb x id) [] (x ∷ before id xs)

-- of one pair: if its "wall prism occurs, the reference occurs before its first occurrence"
unfoldable pub kept : Pair → List ℕ → Bool
kept p round = cond (occurs p.wall round) (occurs p.reference (before p.wall round)) true

-- the answer: yes, every pair is kept; or the place of the first that fails
pub data Verdict : Type 0 where
  all_kept : Verdict
  fails_at : ℕ → Verdict

-- "the first pair in the list for which this fails", where the list's first pair has the place n
unfoldable pub ordered_from : ℕ → List Pair → List ℕ → Verdict
ordered_from n [] round = all_kept
ordered_from n (p ∷ ps) round = cond (kept p round) (ordered_from (suc n) ps round) (fails_at n)

-- "say yes exactly when for every pair ..", "otherwise give the place, counted from 0"
abbrev pub ordered : List Pair → List ℕ → Verdict
ordered pairs round = ordered_from 0 pairs round

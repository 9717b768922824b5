-- Laws of the rule over plain lists: one id of the round, and one pair of the list. Assumes nothing.
use mathlib.Core.Path.{◌≡◌, refl, sym, ap, ◌∙◌}
use Prim.Native.Nat.{ℕ, zero, suc, ◌+◌, ◌<◌, ◌≤◌}
use native.Mathlib.Omega.{arith}
use mathlib.Core.Bool.{Bool, true, false, cond}
use mathlib.Core.List.{List, [], ◌∷◌}
use lib.ListN.{length, get_or, drop, drop_of_length-le}
use Rattle.std.specs.Prelude.{Option, Some, None, MatchOption}
use Rattle.std.specs.List.{AllWithin, HoldsAt}
use lib.Seq.{drop-cons}
use borrow.Author.Tests.{eq-eqb, ne_eqb}
use Rattle.order.specs.Rule.{occurs, before, kept, all_kept, fails_at, ordered_from, ordered}
use Rattle.order.specs.Cases.{verdict_of}
use Rattle.order.specs.declared.Pair.{Pair}

either : (b : Bool) → cond b true true ≡ true
either true = refl
either false = refl

-- ---- the round's first id
module _ (p : Pair) (x : ℕ) (xs : List ℕ) where
  pub at_wall : x ≡ p.wall → kept p (x ∷ xs) ≡ false
  unfolding kept occurs before
  at_wall e = simp (eq-eqb x p.wall e)

  pub at_reference : ¬ (x ≡ p.wall) → x ≡ p.reference → kept p (x ∷ xs) ≡ true
  unfolding kept occurs before
  at_reference n e = simp (ne_eqb x p.wall n, eq-eqb x p.reference e, either (occurs p.wall xs))

  pub at_other : ¬ (x ≡ p.wall) → ¬ (x ≡ p.reference) → kept p (x ∷ xs) ≡ kept p xs
  unfolding kept occurs before
  at_other n m = simp (ne_eqb x p.wall n, ne_eqb x p.reference m)

-- ---- the round from the place i on
module _ (p : Pair) (round : List ℕ) (i : ℕ) where
  pub kept_end : length round ≤ i → kept p (drop i round) ≡ true
  unfolding kept occurs
  kept_end h = simp (drop_of_length-le round h)

  module _ (h : i < length round) where
    abbrev id : ℕ
    id = get_or round i 0

    abbrev rest : List ℕ
    rest = drop (suc i) round

    from_here : kept p (drop i round) ≡ kept p (id ∷ rest)
    from_here = ap (kept p) (drop-cons round i 0 h)

    pub kept_wall : id ≡ p.wall → kept p (drop i round) ≡ false
    kept_wall e = from_here ∙ at_wall p id rest e

    pub kept_reference : ¬ (id ≡ p.wall) → id ≡ p.reference → kept p (drop i round) ≡ true
    kept_reference n e = from_here ∙ at_reference p id rest n e

    pub kept_on : ¬ (id ≡ p.wall) → ¬ (id ≡ p.reference) → kept p (drop i round) ≡ kept p rest
    kept_on n m = from_here ∙ at_other p id rest n m

-- ---- the list's first pair, which has the place n
module _ (n : ℕ) (p : Pair) (ps : List Pair) (round : List ℕ) where
  pub ordered_kept : kept p round ≡ true → ordered_from n (p ∷ ps) round ≡ ordered_from (suc n) ps round
  unfolding ordered_from
  ordered_kept k = simp k

  pub ordered_fails : kept p round ≡ false → ordered_from n (p ∷ ps) round ≡ fails_at n
  unfolding ordered_from
  ordered_fails k = simp k

-- ---- the first pair that is not kept, by its place: what a search for it answers

module _ (round : List ℕ) where
  abbrev Kept : Pair → Type 0
  Kept p = kept p round ≡ true

  abbrev Fails : Pair → Type 0
  Fails p = kept p round ≡ false

  all_from : (n : ℕ) (pairs : List Pair) → AllWithin Kept pairs 0 (length pairs) → ordered_from n pairs round ≡ all_kept
  unfolding ordered_from
  all_from n [] h = refl
  all_from n (p ∷ ps) h =
      ordered_kept n p ps round (h 0 p (omega arith) (omega arith)) ∙ all_from (suc n) ps (λ k d l u. h (suc k) d (omega arith) (omega arith))

  first_from : (n : ℕ) (pairs : List Pair) (i : ℕ) → i < length pairs → HoldsAt Fails pairs i → AllWithin Kept pairs 0 i
      → ordered_from n pairs round ≡ fails_at (n + i)
  first_from n [] i h f k = absurd (omega arith)
  first_from n (p ∷ ps) zero h f k = ordered_fails n p ps round (f p) ∙ ap fails_at (omega arith)
  first_from n (p ∷ ps) (suc i) h f k =
      ordered_kept n p ps round (k 0 p (omega arith) (omega arith))
      ∙ first_from (suc n) ps i (omega arith) f (λ j d l u. k (suc j) d (omega arith) (omega arith))
      ∙ ap fails_at (omega arith)

  pub by_first : (pairs : List Pair) (r : Option ℕ)
      → MatchOption r (AllWithin Kept pairs 0 (length pairs)) (λ i. (i < length pairs) × HoldsAt Fails pairs i × AllWithin Kept pairs 0 i)
      → verdict_of r ≡ ordered pairs round
  by_first pairs None h = sym (all_from 0 pairs h)
  by_first pairs (Some i) h = sym (first_from 0 pairs i h.0 h.1 h.2 ∙ ap fails_at (omega arith))

-- Worked examples of 02 (xii): pairs, a round, and what is answered.
use Rattle.std.specs.Prelude.{ℕ, List, [], ◌∷◌}
use Rattle.order.specs.Rule.{Verdict, all_kept, fails_at}
use Rattle.order.specs.declared.Pair.{Pair}

pub record OrderRow : Type 0 where
  pub pairs : List Pair
  pub round : List ℕ
  pub answer : Verdict

abbrev row : List Pair → List ℕ → Verdict → OrderRow
row pairs round answer = record { pairs = pairs; round = round; answer = answer }

-- the reference r must be sighted before the wall prism w
abbrev pair : ℕ → ℕ → Pair
pair r w = record { reference = r; wall = w }

abbrev pub order_rows : List OrderRow
order_rows =
    -- no pairs; an empty round; a wall prism that does not occur
    row [] (7 ∷ 8 ∷ []) all_kept
    ∷ row (pair 1 2 ∷ []) [] all_kept
    ∷ row (pair 1 2 ∷ []) (3 ∷ 1 ∷ []) all_kept
    -- the reference before, behind, and not at all
    ∷ row (pair 1 2 ∷ []) (1 ∷ 3 ∷ 2 ∷ []) all_kept
    ∷ row (pair 1 2 ∷ []) (2 ∷ 1 ∷ []) (fails_at 0)
    ∷ row (pair 1 2 ∷ []) (3 ∷ 2 ∷ []) (fails_at 0)
    -- repeated ids: the wall prism's first occurrence counts, and any earlier one of the reference is enough
    ∷ row (pair 1 2 ∷ []) (2 ∷ 1 ∷ 2 ∷ []) (fails_at 0)
    ∷ row (pair 1 2 ∷ []) (1 ∷ 2 ∷ 1 ∷ 2 ∷ []) all_kept
    -- a pair of an id with itself
    ∷ row (pair 5 5 ∷ []) (5 ∷ 5 ∷ []) (fails_at 0)
    ∷ row (pair 5 5 ∷ []) (4 ∷ []) all_kept
    -- the first of two that fail, counted from 0; the round's places do not matter
    ∷ row (pair 1 2 ∷ pair 3 4 ∷ pair 5 5 ∷ []) (1 ∷ 4 ∷ 2 ∷ 3 ∷ 5 ∷ []) (fails_at 1)
    ∷ row (pair 1 2 ∷ pair 3 4 ∷ pair 5 5 ∷ []) (1 ∷ 3 ∷ 2 ∷ 4 ∷ 5 ∷ []) (fails_at 2)
    ∷ row (pair 1 2 ∷ pair 1 2 ∷ []) (2 ∷ []) (fails_at 0)
    -- the smallest and the largest id
    ∷ row (pair 4294967295 0 ∷ pair 0 4294967295 ∷ []) (4294967295 ∷ 0 ∷ []) (fails_at 1)
    ∷ []

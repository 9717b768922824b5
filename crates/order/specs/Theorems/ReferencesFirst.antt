-- What is proved of the rule (`references_first` in proofs/Theorem): the sentences of 02 (xii), and what a caller
-- asks next. For all pairs and rounds.
use Rattle.std.specs.Prelude.{ℕ, ◌≡◌, ◌↔◌, true, false, List, [], ◌∷◌, ◌++◌}
use Rattle.order.specs.Rule.{kept, all_kept, fails_at, ordered}
use Rattle.order.specs.Theorems.Places.{At, Occurs, PairKept, AllKept, FailsFirst}
use Rattle.order.specs.declared.Pair.{Pair}

-- a pair of an id with itself
abbrev pub twice : ℕ → Pair
twice id = record { reference = id; wall = id }

pub record ReferencesFirst : Type 0 where
  -- the rule as it is computed is the rule by places
  pub same : (p : Pair) (round : List ℕ) → (kept p round ≡ true) ↔ PairKept p round
  -- "say yes exactly when for every pair whose wall prism occurs, the reference occurs before its first occurrence"
  pub yes_exactly : (pairs : List Pair) (round : List ℕ) → (ordered pairs round ≡ all_kept) ↔ AllKept pairs round
  -- "otherwise give the place, counted from 0, of the first pair in the list for which this fails": the least place
  pub place_exactly : (pairs : List Pair) (round : List ℕ) (k : ℕ)
      → (ordered pairs round ≡ fails_at k) ↔ FailsFirst pairs round k
  -- "a pair of an id with itself fails if that id occurs", and only then
  pub itself : (id : ℕ) (round : List ℕ) → (kept (twice id) round ≡ false) ↔ Occurs round id
  -- yes for a list exactly when yes for each pair alone
  pub alone : (pairs : List Pair) (round : List ℕ)
      → (ordered pairs round ≡ all_kept)
      ↔ ((k : ℕ) (p : Pair) → At pairs p k → ordered (p ∷ []) round ≡ all_kept)
  -- once the wall prism has occurred, a longer round that begins with this one keeps the pair exactly when this one
  -- does
  pub longer : (p : Pair) (round more : List ℕ) → Occurs round p.wall → kept p (round ++ more) ≡ kept p round

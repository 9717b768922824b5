-- The same rule told by places, in 02's own words and without a computation.
use Rattle.std.specs.Prelude.{ℕ, ◌<◌, ◌≡◌, List}
use Rattle.std.proofs.Math.Option.{some}
use Rattle.std.proofs.Math.ListN.{get_elem?}
use Rattle.order.specs.declared.Pair.{Pair}

-- x stands at the place i
abbrev pub At : {A : Type 0} → List A → A → ℕ → Type 0
At xs x i = get_elem? xs i ≡ some x

-- an id occurs; its first occurrence is at the place j
abbrev pub Occurs : List ℕ → ℕ → Type 0
Occurs round id = (i : ℕ) × At round id i

abbrev pub FirstAt : List ℕ → ℕ → ℕ → Type 0
FirstAt round id j = At round id j × ((i : ℕ) → i < j → ¬ At round id i)

-- wherever the wall prism's first occurrence is, at j, the reference occurs at a place i < j
abbrev pub PairKept : Pair → List ℕ → Type 0
PairKept p round = (j : ℕ) → FirstAt round p.wall j → (i : ℕ) × (i < j) × At round p.reference i

-- every pair of the list is kept
abbrev pub AllKept : List Pair → List ℕ → Type 0
AllKept pairs round = (k : ℕ) (p : Pair) → At pairs p k → PairKept p round

-- the pair at the place k fails, and none before it does
pub record FailsFirst (pairs : List Pair) (round : List ℕ) (k : ℕ) : Type 0 where
  pub pair : Pair
  pub here : At pairs pair k
  pub fails : ¬ PairKept pair round
  pub least : (i : ℕ) (p : Pair) → i < k → At pairs p i → PairKept p round

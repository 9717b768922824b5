-- What is proved of changes and moved names (`compared` in proofs/Theorem), for all bytes.
use Rattle.std.specs.Prelude.{ℕ, zero, suc, ◌+◌, ◌-◌, ◌≤◌, ◌<◌, ◌≡◌, ◌↔◌, true, false, List, [], ◌∷◌}
use Rattle.std.proofs.Math.Option.{none, some}
use Rattle.image.specs.Bytes.{filter, range, word}
use Rattle.image.specs.Stored.{name_at, broken}
use Rattle.reader.specs.Naming.{name_given}
use Rattle.reader.specs.Lookup.{found, lookup}
use Rattle.reader.specs.Lookup.{Found}
use Rattle.changes.specs.Changes.{upper, differs, first_change, Change, changed, unchanged, next_change}
use Rattle.changes.specs.Moves.{moved}

-- k is the first id from `from` on that the two images name differently
pub record FirstDiffering (old new : List ℕ) (from k : ℕ) : Type 0 where
  pub from_there : from ≤ k
  pub below : k < upper old new
  pub unlike : ¬ (name_given old k ≡ name_given new k)
  pub alike_before : (i : ℕ) → from ≤ i → i < k → name_given old i ≡ name_given new i

-- the ids that m calls answer at most, each call from behind the id that the one before it answered
unfoldable pub calls : List ℕ → List ℕ → ℕ → ℕ → List ℕ
calls old new from zero = []
calls old new from (suc m) =
    elim (first_change old new from) [ some id ↦ id ∷ calls old new (id + 1) m | none ↦ [] ]

-- an answer with the images exchanged
abbrev pub exchanged : Change → Change
exchanged (changed id before after) = changed id after before
exchanged unchanged = unchanged

-- where an id's old name moved: it is the name of an entry of the new image, which has the other id
pub record MovesTo (old new : List ℕ) (id other : ℕ) : Type 0 where
  pub name : List ℕ
  pub at : Found
  pub old_name : name_given old id ≡ some name
  pub looked_up : lookup new name ≡ found at
  pub has_id : at.id ≡ other
  pub another : ¬ (other ≡ id)
  pub unbroken : broken new at.offset ≡ false
  pub name_there : name_at new at.offset ≡ name
  pub id_there : word new at.offset ≡ other

pub record Compared : Type 0 where
  -- "what is not listed is named alike by both, byte for byte; what is listed is not"
  pub differs_exactly : (old new : List ℕ) (id : ℕ)
      → (differs old new id ≡ true) ↔ ¬ (name_given old id ≡ name_given new id)
  pub alike_exactly : (old new : List ℕ) (id : ℕ)
      → (differs old new id ≡ false) ↔ (name_given old id ≡ name_given new id)
  -- the id of an answer is the first that differs; where none is answered, no id from there on differs, however large
  pub first_exactly : (old new : List ℕ) (from k : ℕ)
      → (first_change old new from ≡ some k) ↔ FirstDiffering old new from k
  pub none_exactly : (old new : List ℕ) (from : ℕ)
      → (first_change old new from ≡ none) ↔ ((id : ℕ) → from ≤ id → name_given old id ≡ name_given new id)
  -- at the upper bound and above it both name nothing
  pub none_above : (old new : List ℕ) (id : ℕ) → upper old new ≤ id
      → (name_given old id ≡ none) × (name_given new id ≡ none)
  -- "Repeated calls list every change once, in rising order": as many calls as there are ids list those that differ
  pub lists_changes : (old new : List ℕ) (from m : ℕ) → upper old new - from ≤ m
      → calls old new from m ≡ filter (differs old new) (range from (upper old new - from))
  -- "equal images have none"
  pub none_equal : (image : List ℕ) (from : ℕ) → next_change image image from ≡ unchanged
  -- "swapping the images swaps the answers"
  pub swaps : (old new : List ℕ) (from : ℕ) → next_change new old from ≡ exchanged (next_change old new from)
  -- "this id's old name is now another id's name (looked up in the new image), with that id"
  pub moved_exactly : (old new : List ℕ) (id other : ℕ)
      → (moved old new id ≡ some other) ↔ MovesTo old new id other

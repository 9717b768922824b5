-- Changes: the ids that two images, any bytes, name differently. An added call, by 01's naming and upper hint.
use Rattle.std.specs.Prelude.{ℕ, zero, suc, ◌+◌, ◌-◌, max, Bool, true, false, not, List}
use Rattle.std.proofs.Math.Option.{Option, none, some}
use Rattle.image.specs.Bytes.{same}
use Rattle.reader.specs.Naming.{Naming, naming, name_given}
use Rattle.reader.specs.IdWalk.{upper_hint}

-- the larger of the two upper hints at 0
unfoldable pub upper : List ℕ → List ℕ → ℕ
upper old new = max (upper_hint old 0) (upper_hint new 0)

-- are two namings equal: both nothing, or names of the same bytes?
abbrev pub equal_namings : Option (List ℕ) → Option (List ℕ) → Bool
equal_namings none none = true
equal_namings none (some b) = false
equal_namings (some a) none = false
equal_namings (some a) (some b) = same a b

-- do the two name the id differently: by a name against another, or a name against nothing?
unfoldable pub differs : List ℕ → List ℕ → ℕ → Bool
differs old new id = not (equal_namings (name_given old id) (name_given new id))

-- the first of m ids from `from` on that they name differently, or none
unfoldable pub first_among : List ℕ → List ℕ → ℕ → ℕ → Option ℕ
first_among old new from zero = none
first_among old new from (suc m) =
    elim (differs old new from) [ true ↦ some from | false ↦ first_among old new (from + 1) m ]

-- the first id from `from` on, below the upper bound
unfoldable pub first_change : List ℕ → List ℕ → ℕ → Option ℕ
first_change old new from = first_among old new from (upper old new - from)

-- the answer: an id with both namings, of the old image and of the new one; or none
pub data Change : Type 0 where
  changed : ℕ → Naming → Naming → Change
  unchanged : Change

abbrev pub change_at : List ℕ → List ℕ → Option ℕ → Change
change_at old new (some id) = changed id (naming old id) (naming new id)
change_at old new none = unchanged

abbrev pub next_change : List ℕ → List ℕ → ℕ → Change
next_change old new from = change_at old new (first_change old new from)

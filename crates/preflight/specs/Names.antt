-- Names of ids, and the first id of a round that fails a question about its own name. What an image names the ids is a
-- function: an id to its name, or to none.
use Rattle.std.specs.Prelude.{ℕ, Bool, true, false, cond, not, List, eqb, length}
use Rattle.std.proofs.Math.Option.{Option, none, some}
-- is it this name?
pub use Rattle.one_to_one.specs.OneToOne.{is_name}
use Rattle.preflight.specs.Ids.{is_id, occurs, first_place}
use Rattle.preflight.specs.Answers.Place.{Place}
use Rattle.preflight.specs.Answers.Place.{Nothing}

abbrev pub Names : Type 0
Names = ℕ → Option (List ℕ)

-- is it no name, or the empty one?
abbrev pub is_empty : Option (List ℕ) → Bool
is_empty (some name) = eqb (length name) 0
is_empty none = true

-- is there an old name, and is it the name now?
abbrev pub kept_name : Option (List ℕ) → Option (List ℕ) → Bool
kept_name (some name) given = is_name given name
kept_name none given = false

abbrev pub kept : Names → Names → ℕ → Bool
kept old new id = kept_name (old id) (new id)

-- is there an old name, and is it not the name now?
abbrev pub lost_name : Option (List ℕ) → Option (List ℕ) → Bool
lost_name (some name) given = not (is_name given name)
lost_name none given = false

abbrev pub lost : Names → Names → ℕ → Bool
lost old new id = lost_name (old id) (new id)

-- has the id lost its old name, and is it not in the list of intended renames?
abbrev pub renamed : Names → Names → List ℕ → ℕ → Bool
renamed old new accepted id = cond (lost old new id) (not (occurs id accepted)) false

-- 5: "each id of the round has a name in `new` that is not empty"
abbrev pub nameless : Names → ℕ → Bool
nameless new id = is_empty (new id)

abbrev pub first_nameless : Names → List ℕ → Place
first_nameless new round = first_place (nameless new) 0 round

-- 9: "each id of the round that `old` names has the same name in `new`, unless it is in the lent list `accepted`"
abbrev pub first_renamed : Names → Names → List ℕ → List ℕ → Place
first_renamed old new accepted round = first_place (renamed old new accepted) 0 round

-- the first id of the round, other than this one, that has a name
abbrev pub other_has : Names → List ℕ → ℕ → ℕ → Bool
other_has new name id x = cond (is_id id x) false (is_name (new x) name)

abbrev pub first_with_name : Names → List ℕ → ℕ → List ℕ → Place
first_with_name new name id round = first_place (other_has new name id) 0 round

abbrev pub first_other : Names → Option (List ℕ) → ℕ → List ℕ → Place
first_other new (some name) id round = first_with_name new name id round
first_other new none id round = Nothing

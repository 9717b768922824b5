-- Moved names: whether an id's old name is now another id's name, looked up in the new image by 01's rule.
use Rattle.std.specs.Prelude.{ℕ, cond, List, eqb}
use Rattle.std.proofs.Math.Option.{Option, none, some}
use Rattle.reader.specs.Lookup.{Lookup, found, nothing, lookup}
use Rattle.reader.specs.Naming.{name_given}

-- the id that a lookup finds, where it is another than this one
abbrev pub other_id : ℕ → Lookup → Option ℕ
other_id id (found f) = cond (eqb f.id id) none (some f.id)
other_id id (nothing reads) = none

-- an old name, or none, looked up in the new image
abbrev pub moved_name : List ℕ → ℕ → Option (List ℕ) → Option ℕ
moved_name new id (some name) = other_id id (lookup new name)
moved_name new id none = none

abbrev pub moved : List ℕ → List ℕ → ℕ → Option ℕ
moved old new id = moved_name new id (name_given old id)

-- The answers' cases: the values of each case of what the calls answer.
use Rattle.std.specs.Prelude.{ℕ, Option, Some, None}
use Rattle.std.proofs.Math.Option as math
use Rattle.reader.specs.Cases.{naming_of}
use Rattle.changes.specs.Changes as rule
use Rattle.changes.specs.declared.Change.{Change}

-- an id with both namings, or none
abbrev pub change_of : Option Change → rule.Change
change_of (Some c) = rule.changed c.id (naming_of c.before) (naming_of c.after)
change_of None = rule.unchanged

-- the other id, or none
abbrev pub moved_of : Option ℕ → math.Option ℕ
moved_of (Some id) = math.some id
moved_of None = math.none

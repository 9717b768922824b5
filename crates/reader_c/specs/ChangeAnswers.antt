-- The exported calls: each rule's answer as numbers, zeros where nothing is found. Assumes nothing.
use Rattle.std.specs.Prelude.{ℕ}
use Rattle.std.proofs.Math.Option.{Option, none, some}
use Rattle.reader.specs.Naming.{Naming, place, unnamed}
use Rattle.changes.specs.Changes.{Change, changed, unchanged}
use Rattle.reader_c.specs.declared.change.NameAnswer.{NameAnswer}
use Rattle.reader_c.specs.declared.change.ChangeAnswer.{ChangeAnswer}
use Rattle.reader_c.specs.declared.change.MovedAnswer.{MovedAnswer}

-- 1 and the place of the name, or three zeros
abbrev pub name_answer : Naming → NameAnswer
name_answer (place s n) = record { found = 1; len = n; start = s }
name_answer unnamed = record { found = 0; len = 0; start = 0 }

-- 1, the id and both namings, or zeros
abbrev pub change_answer : Change → ChangeAnswer
change_answer (changed id before after) =
    record { found = 1; id = id; before = name_answer before; after = name_answer after }
change_answer unchanged = record { found = 0; id = 0; before = name_answer unnamed; after = name_answer unnamed }

-- 1 and the other id, or two zeros
abbrev pub moved_answer : Option ℕ → MovedAnswer
moved_answer (some id) = record { found = 1; id = id }
moved_answer none = record { found = 0; id = 0 }

-- The postconditions of the crate's functions that have several facts, as records whose fields are their parts.
use Rattle.std.specs.Prelude.{ℕ, ◌<◌, ◌≡◌, List, drop, set}
use Rattle.writer.specs.declared.CQDBWriter.{CQDBWriter}
use Rattle.catalogue.specs.declared.Intake.{Intake}
use Rattle.catalogue.specs.Lines.{decimal, parse_line, entry}
use Rattle.catalogue.specs.Steps.Pieces.{have_after}

-- digits write a number that is no word
abbrev pub TooLarge : List ℕ → Type 0
TooLarge digits = 4294967295 < decimal digits

-- digits write v
abbrev pub IsDecimal : List ℕ → ℕ → Type 0
IsDecimal digits v = v ≡ decimal digits

-- a line has this id, and this name, which is the line from some place on
pub record Parsed (line : List ℕ) (id : ℕ) (name : List ℕ) : Type 0 where
  pub at : ℕ
  pub form : parse_line line ≡ entry id at
  pub named : name ≡ drop at line

-- one byte more of the line at hand, stored while there is room
pub record ByteGathered (t : Intake) (room : List ℕ) (b : ℕ) (after : Intake) (room' : List ℕ) : Type 0 where
  pub written : after.writer ≡ t.writer
  pub counted : after.have ≡ have_after room t.have
  pub stored : room' ≡ set room t.have b

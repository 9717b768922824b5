-- The answer's cases: for each case that the call answers, 02's number and values.
use Rattle.std.specs.Prelude.{Option, Result, Ok, Err}
use Rattle.jhash.specs.Outcome.{Outcome, value, refusal}
use Rattle.jhash.specs.Refusals.{number_of}
use Rattle.jhash.specs.declared.refusals.Refusal.{Refusal}
use Rattle.reader.specs.Cases.{naming_of}
use Rattle.reader.specs.Naming.{Naming}
use Rattle.reader.specs.declared.Place.{Place}

-- the place of the name or nothing, or the number of the refusal
abbrev pub named_on_of : Result (Option Place) Refusal → Outcome Naming
named_on_of (Ok place) = value (naming_of place)
named_on_of (Err r) = refusal (number_of r)

-- The specs' values for each case of the code's answers.
use Rattle.std.specs.Prelude.{ℕ, Option, Some, None, Result, Ok, Err}
use Rattle.jhash.specs.Refusals.{number_of}
use Rattle.preflight.specs.declared.Shared as code
use Rattle.preflight.specs.declared.Taken as code_taken
use Rattle.preflight.specs.declared.Objection.{Objection}
use Rattle.preflight.specs.declared.Objection.TheVariants as objection
use Rattle.preflight.specs.declared.Cleared.{Cleared}
use Rattle.preflight.specs.declared.dates.DatesObjection.{DatesObjection}
use Rattle.preflight.specs.declared.dates.DatesObjection.TheVariants as dates
use Rattle.preflight.specs.Answers.Place.{Place, At, Nothing}
use Rattle.preflight.specs.Answers.Shared as shared
use Rattle.preflight.specs.Answers.Taken as taken
use Rattle.preflight.specs.Answers.Verdict.{Verdict}
use Rattle.preflight.specs.Answers.Verdict as verdict
use Rattle.preflight.specs.Answers.Answer.{Answer}
use Rattle.preflight.specs.Answers.DatesAnswer.{DatesAnswer, Yes, Refused, Outside}

abbrev pub place_of : Option ℕ → Place
place_of (Some p) = At p
place_of None = Nothing

abbrev pub shared_of : Option code.Shared → shared.Shared
shared_of (Some s) = shared.Places s.place s.other
shared_of None = shared.Nothing

abbrev pub taken_of : Option code_taken.Taken → taken.Taken
taken_of (Some t) = taken.By t.id t.place
taken_of None = taken.Nothing

abbrev pub objection_of : Objection → Verdict
objection_of objection.NewRefused = verdict.NewRefused
objection_of (objection.SheetRefused r) = verdict.SheetRefused (number_of r)
objection_of (objection.OffSheet p) = verdict.OffSheet p
objection_of objection.EmptyRound = verdict.EmptyRound
objection_of (objection.Nameless p) = verdict.Nameless p
objection_of (objection.OneName s) = verdict.OneName s.place s.other
objection_of objection.OldRefused = verdict.OldRefused
objection_of objection.NothingAlike = verdict.NothingAlike
objection_of (objection.Renamed p) = verdict.Renamed p
objection_of (objection.NameTaken t) = verdict.NameTaken t.id t.place

-- whatever a yes gives
abbrev pub verdict_of : {A : Type 0} → Result A Objection → Verdict
verdict_of (Ok x) = verdict.Yes
verdict_of (Err o) = objection_of o

-- a no has no counts
abbrev pub answered : Result Cleared Objection → Answer
answered (Ok c) = record { verdict = verdict.Yes; compared = c.compared; added = c.added; unsighted = c.unsighted }
answered (Err o) = record { verdict = objection_of o; compared = 0; added = 0; unsighted = 0 }

abbrev pub dates_of : {A : Type 0} → Result A DatesObjection → DatesAnswer
dates_of (Ok x) = Yes
dates_of (Err (dates.Refused r)) = Refused (number_of r)
dates_of (Err (dates.Outside p)) = Outside p

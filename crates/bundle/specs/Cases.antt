-- The answers' cases: for each type that a call answers, 02's number and values of its cases.
use Rattle.std.specs.Prelude.{Result, Ok, Err}
use Rattle.jhash.specs.Outcome.{Outcome, value, refusal}
use Rattle.jhash.specs.Refusals.{number_of}
use Rattle.jhash.specs.declared.refusals.Refusal.{Refusal}
use Rattle.bundle.specs.FileWalk.{Place}
use Rattle.bundle.specs.Opening.{OpenedImage}
use Rattle.bundle.specs.declared.ImagePlace.{ImagePlace}
use Rattle.bundle.specs.declared.OpenedImage as code

-- where the image at a position stands, or a refusal by its number
abbrev pub placed_of : Result ImagePlace Refusal → Outcome Place
placed_of (Ok p) = value (record { start = p.start; size = p.size })
placed_of (Err r) = refusal (number_of r)

-- num, and where the image stands; or a refusal
abbrev pub opened_at_of : Result code.OpenedImage Refusal → Outcome OpenedImage
opened_at_of (Ok o) = value (record { num = o.num; place = record { start = o.start; size = o.size } })
opened_at_of (Err r) = refusal (number_of r)

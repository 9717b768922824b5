-- The round beside the sheet.
use Rattle.std.specs.Prelude.{ℕ, ◌+◌, Bool, true, cond, not, List, eqb}
use Rattle.jhash.specs.Outcome.{Outcome, value, refusal}
use Rattle.sheet.specs.Format.{Lists}
use Rattle.preflight.specs.Ids.{count, first_place}
use Rattle.preflight.specs.Answers.Place.{Place}
use Rattle.preflight.specs.Answers.Place as place
use Rattle.preflight.specs.Answers.Verdict.{Verdict}
use Rattle.preflight.specs.Answers.Verdict.{Yes, SheetRefused, OffSheet}

-- 3: "each id of the round occurs exactly once in the whole sheet, and as a reference or a wall"
unfoldable pub off_sheet : List ℕ → List ℕ → List ℕ → ℕ → Bool
off_sheet references walls retired id =
    cond (eqb (count id references + count id walls) 1) (not (eqb (count id retired) 0)) true

abbrev pub first_off : List ℕ → List ℕ → List ℕ → List ℕ → Place
first_off references walls retired round = first_place (off_sheet references walls retired) 0 round

abbrev pub of_off : Place → Verdict
of_off (place.At p) = OffSheet p
of_off place.Nothing = Yes

-- 2: "the sheet reads", or 19 or 20
abbrev pub of_sheet : Outcome Lists → List ℕ → Verdict
of_sheet (value l) round = of_off (first_off l.references l.walls l.retired round)
of_sheet (refusal k) round = SheetRefused k

-- May this report leave? The verdict, and how much a yes is about.
use Rattle.std.specs.Prelude.{ℕ, cond, List}
use Rattle.reader.specs.Naming.{name_given}
use Rattle.sheet.specs.SheetReading.{read_lists}
use Rattle.preflight.specs.Verdicts.{is_yes, verdict_first, verdict}
use Rattle.preflight.specs.Counts.{compared_in, added_in, unsighted_in}
use Rattle.preflight.specs.Answers.Answer.{Answer}
use Rattle.preflight.specs.Answers.Verdict.{Verdict}

-- a no has no counts
abbrev pub if_yes : Verdict → ℕ → ℕ
if_yes v n = cond (is_yes v) n 0

abbrev pub answer_of : Verdict → ℕ → ℕ → ℕ → Answer
answer_of v compared added unsighted =
    record { verdict = v; compared = if_yes v compared; added = if_yes v added; unsighted = if_yes v unsighted }

-- a first report: nothing is compared
abbrev pub preflight_first : List ℕ → List ℕ → List ℕ → Answer
preflight_first new sheet round =
    answer_of (verdict_first new sheet round) 0 0 (unsighted_in (read_lists sheet) round)

abbrev pub preflight : List ℕ → List ℕ → List ℕ → List ℕ → List ℕ → Answer
preflight old new sheet round accepted =
    answer_of (verdict old new sheet round accepted) (compared_in (name_given old) round)
    (added_in (name_given old) round) (unsighted_in (read_lists sheet) round)

-- The exported call about dates: the rule's answer as a struct of numbers.
use Rattle.std.specs.Prelude.{ℕ}
use Rattle.preflight.specs.Answers.DatesAnswer.{DatesAnswer}
use Rattle.preflight.specs.Answers.DatesAnswer.{Yes, Refused, Outside}
use Rattle.preflight_c.specs.declared.dates.PreflightDatesAnswer.{PreflightDatesAnswer}

abbrev dated : ℕ → ℕ → ℕ → PreflightDatesAnswer
dated question refusal place = record { question = question; refusal = refusal; place = place }

-- 0 for yes, 11 for no
abbrev pub dates_answer : DatesAnswer → PreflightDatesAnswer
dates_answer Yes = dated 0 0 0
dates_answer (Refused k) = dated 0 k 0
dates_answer (Outside p) = dated 11 0 p

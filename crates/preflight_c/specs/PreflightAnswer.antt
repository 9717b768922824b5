-- The exported calls: the rule's answer as a struct of numbers.
use Rattle.std.specs.Prelude.{ℕ}
use Rattle.preflight.specs.Answers.Answer.{Answer}
use Rattle.preflight.specs.Answers.Verdict.{Verdict}
use Rattle.preflight.specs.Answers.Verdict as verdict
use Rattle.preflight_c.specs.declared.reports.PreflightAnswer.{PreflightAnswer}

-- a question with what shows it, and the counts of an answer
abbrev pub made : Answer → ℕ → ℕ → ℕ → ℕ → ℕ → PreflightAnswer
made a question refusal id place other =
    record {
      question = question;
      refusal = refusal;
      id = id;
      place = place;
      other = other;
      compared = a.compared;
      added = a.added;
      unsighted = a.unsighted;
    }

-- a question that fails, with what shows it; a no has no counts
abbrev pub objected : ℕ → ℕ → ℕ → ℕ → ℕ → PreflightAnswer
objected question refusal id place other =
    record {
      question = question;
      refusal = refusal;
      id = id;
      place = place;
      other = other;
      compared = 0;
      added = 0;
      unsighted = 0;
    }

-- the number of the first question that fails, 0 for yes
abbrev pub numbered : Answer → Verdict → PreflightAnswer
numbered a verdict.Yes = made a 0 0 0 0 0
numbered a verdict.NewRefused = made a 1 0 0 0 0
numbered a (verdict.SheetRefused k) = made a 2 k 0 0 0
numbered a (verdict.OffSheet p) = made a 3 0 0 p 0
numbered a verdict.EmptyRound = made a 4 0 0 0 0
numbered a (verdict.Nameless p) = made a 5 0 0 p 0
numbered a (verdict.OneName p q) = made a 6 0 0 p q
numbered a verdict.OldRefused = made a 7 0 0 0 0
numbered a verdict.NothingAlike = made a 8 0 0 0 0
numbered a (verdict.Renamed p) = made a 9 0 0 p 0
numbered a (verdict.NameTaken id p) = made a 10 0 id p 0

abbrev pub preflight_answer : Answer → PreflightAnswer
preflight_answer a = numbered a a.verdict

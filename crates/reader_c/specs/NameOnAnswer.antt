-- The exported call: the rule's answer as numbers. Where a call is refused, every other number is 0. Assumes nothing.
use Rattle.jhash.specs.Outcome.{Outcome, value, refusal}
use Rattle.reader.specs.Naming.{Naming, place, unnamed}
use Rattle.reader_c.specs.declared.windows.OnAnswer.{OnAnswer}

abbrev pub on_answer : Outcome Naming → OnAnswer
on_answer (value (place s n)) = record { refusal = 0; found = 1; len = n; start = s }
on_answer (value unnamed) = record { refusal = 0; found = 0; len = 0; start = 0 }
on_answer (refusal k) = record { refusal = k; found = 0; len = 0; start = 0 }

-- The exported average: the outcome as a struct of four numbers. Assumes nothing.
use Rattle.std.specs.Prelude.{ℕ, List}
use Rattle.jhash.specs.Outcome.{Outcome, value, refusal}
use Rattle.search_length.specs.Average.{averaging}
use Rattle.search_length.specs.declared.AverageLength.{AverageLength}
use Rattle.lists_c.specs.declared.lengths.AverageAnswer.{AverageAnswer}

-- an average is accepted, 0, and its three numbers stand beside it; a refusal has its number, and 0 for the others
abbrev pub average_answer_of : Outcome AverageLength → AverageAnswer
average_answer_of (value m) =
    record { refusal = 0; entries = m.entries; quotient = m.quotient; remainder = m.remainder }
average_answer_of (refusal k) = record { refusal = k; entries = 0; quotient = 0; remainder = 0 }

-- the rule of the call, so answered
abbrev pub average_answer : List ℕ → AverageAnswer
average_answer image = average_answer_of (averaging image)

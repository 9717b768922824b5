-- The exported round: the bucket count, or the refusal's number with 0 for the count. Assumes nothing.
use Rattle.std.specs.Prelude.{ℕ}
use Rattle.jhash.specs.Outcome.{Outcome, value, refusal}
use Rattle.batch_c.specs.declared.RoundAnswer.{RoundAnswer}

abbrev pub round_answer : Outcome ℕ → RoundAnswer
round_answer (value n) = record { refusal = 0; buckets = n }
round_answer (refusal k) = record { refusal = k; buckets = 0 }

-- The verdict, and how much a yes is about.
use Rattle.std.specs.Prelude.{ℕ}
use Rattle.preflight.specs.Answers.Verdict.{Verdict}

pub record Answer : Type 0 where
  pub verdict : Verdict
  pub compared : ℕ
  pub added : ℕ
  pub unsighted : ℕ

-- What a call gives: a value, or a refusal by its number (01, "When a call is refused"). One type for all calls.
-- Assumes nothing.
use Rattle.std.specs.Prelude.{ℕ, Result, Ok, Err}
use Rattle.jhash.specs.declared.refusals.Refusal.{Refusal}
use Rattle.jhash.specs.Refusals.{number_of}

pub data Outcome (A : Type 0) : Type 0 where
  value : A → Outcome A
  refusal : ℕ → Outcome A

-- what a call gives whose code answers a `Result`
abbrev pub outcome_of : {A : Type 0} → Result A Refusal → Outcome A
outcome_of (Ok x) = value x
outcome_of (Err r) = refusal (number_of r)

-- the number of the refusal that such a call gives, 0 where it is accepted
abbrev pub refusal_of : {A : Type 0} → Result A Refusal → ℕ
refusal_of (Ok x) = 0
refusal_of (Err r) = number_of r

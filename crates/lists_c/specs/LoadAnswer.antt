-- The exported load: the outcome as a struct of two numbers. Assumes nothing.
use Rattle.std.specs.Prelude.{ℕ, List}
use Rattle.jhash.specs.Outcome.{Outcome, value, refusal}
use Rattle.load.specs.Load.{loading}
use Rattle.lists_c.specs.declared.loads.LoadAnswer.{LoadAnswer}

-- a load is accepted, 0, and the number of its entries stands beside it; a refusal has its number, and 0 for the
-- entries
abbrev pub load_answer_of : Outcome ℕ → LoadAnswer
load_answer_of (value n) = record { refusal = 0; accepted = n }
load_answer_of (refusal k) = record { refusal = k; accepted = 0 }

-- the rule of the call, so answered
abbrev pub load_answer : ℕ → List ℕ → LoadAnswer
load_answer seed buffer = load_answer_of (loading seed buffer)

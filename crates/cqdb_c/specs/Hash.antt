-- The exported name hash: the outcome as a struct of two numbers. Assumes nothing.
use Rattle.std.specs.Prelude.{ℕ, List}
use Rattle.cqdb_c.specs.declared.hash.HashAnswer.{HashAnswer}
use Rattle.jhash.specs.Outcome.{Outcome, value, refusal}
use Rattle.jhash.specs.NameHash.{hash_outcome}

-- A hash is accepted, 0, and stands beside it; a refusal has its number, and 0 for the hash.
abbrev pub answer_of : Outcome ℕ → HashAnswer
answer_of (value h) = record { refusal = 0; hash = h }
answer_of (refusal n) = record { refusal = n; hash = 0 }

-- The rule of the name hash, so answered.
abbrev pub hash_answer : List ℕ → ℕ → HashAnswer
hash_answer name start = answer_of (hash_outcome name start)

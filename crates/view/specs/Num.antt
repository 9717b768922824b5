-- The number of an opened image: 01, "Opening".
use Rattle.std.specs.Prelude.{ℕ}
use Rattle.jhash.specs.Outcome.{Outcome, value, refusal}

-- the number that opening answers, 0 where it is refused
abbrev pub num_of : Outcome ℕ → ℕ
num_of (value n) = n
num_of (refusal k) = 0

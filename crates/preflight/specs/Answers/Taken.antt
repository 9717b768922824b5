-- An id that lost its old name, and the place in the round of the id that has it now; or none.
use Rattle.std.specs.Prelude.{ℕ}

pub data Taken : Type 0 where
  By : ℕ → ℕ → Taken
  Nothing : Taken

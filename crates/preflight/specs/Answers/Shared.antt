-- Two places in the round, of different ids with one name; or none.
use Rattle.std.specs.Prelude.{ℕ}

pub data Shared : Type 0 where
  Places : ℕ → ℕ → Shared
  Nothing : Shared

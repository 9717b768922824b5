-- A place in the round, counted from 0; or none.
use Rattle.std.specs.Prelude.{ℕ}

pub data Place : Type 0 where
  At : ℕ → Place
  Nothing : Place

-- What the functions of the head ask of their callers and promise, by name.
use Rattle.std.specs.Prelude.{ℕ, ◌≤◌, List, length}

-- the bytes between two places, which lie in the buffer
pub record ClearBytesPre (buf : List ℕ) (from to : ℕ) : Type 0 where
  pub order : from ≤ to
  pub inside : to ≤ length buf

-- What reading a byte promises. Assumes nothing.
use Rattle.std.specs.Prelude.{◌≡◌, ℕ, ◌<◌}

-- r is the byte x, as a number
pub record ByteRead (x r : ℕ) : Type 0 where
  pub is : r ≡ x
  pub small : r < 256

-- What writing an accepted close leaves.
use Rattle.std.specs.Prelude.{ℕ, ◌≡◌, List}
use Rattle.writer.specs.State.{State}
use Rattle.writer.specs.Close.{closed_size, after_close}

-- its size, and the buffer afterwards
pub record WriteClosedPost (s : State) (size : ℕ) (bufferThen : List ℕ) : Type 0 where
  pub gives : size ≡ closed_size s
  pub leaves : bufferThen ≡ (after_close s).buffer

-- A buffer that grows: the record after it. Assumes nothing.
use Prim.Native.Nat.{ℕ, ◌≤◌, ◌<◌}
use mathlib.Core.Path.{◌≡◌, refl}
use borrow.Author.Tests.{lt-ltb, le-ltb}
use Rattle.writer.specs.declared.CQDBWriter.{CQDBWriter}
use Rattle.writer.specs.Grown.{with_length, grown_refusal, grown_writer}

-- a buffer that has become shorter is refused
pub shorter_refused : (w : CQDBWriter) (n : ℕ) → n < w.length → (2 ≡ grown_refusal w n) × (w ≡ grown_writer w n)
shorter_refused w n h = rw (lt-ltb n w.length h) (refl, refl)

-- any other is accepted
pub longer_accepted : (w : CQDBWriter) (n : ℕ) → w.length ≤ n → (0 ≡ grown_refusal w n) × (with_length w n ≡ grown_writer w n)
longer_accepted w n h = rw (le-ltb n w.length h) (refl, refl)

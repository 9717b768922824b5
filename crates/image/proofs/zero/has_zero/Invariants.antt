-- `image::zero::has_zero` meets its contract. The loop's invariant: what is left has a zero byte exactly where the name has. Assumes nothing.
use Rattle.std.proofs.Common.{◌-◌, length}
use Rattle.image.proofs.Zeros.{ZeroInv}
use Rattle.image.proofs.zero.has_zero.Given as goal

abbrev pub invariant-loop-i : goal.invariant-loop-i
invariant-loop-i l = ZeroInv l.name l.i

abbrev pub decreases-loop-i : goal.decreases-loop-i
decreases-loop-i l = length l.name - l.i

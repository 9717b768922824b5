-- `image::equality::same` meets its contract. The loop's invariant: what is left is equal exactly where the whole is. Assumes nothing.
use Rattle.std.proofs.Common.{◌-◌, length}
use Rattle.image.proofs.Equal.{SameInv}
use Rattle.image.proofs.equality.same.Given as goal

abbrev pub invariant-loop-i : goal.invariant-loop-i
invariant-loop-i l = SameInv l.a l.b 0 l.i

abbrev pub decreases-loop-i : goal.decreases-loop-i
decreases-loop-i l = length l.a - l.i

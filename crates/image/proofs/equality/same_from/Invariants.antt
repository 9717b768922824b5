-- `image::equality::same_from` meets its contract. The loop's invariant: what is left from here on is equal exactly where all from the start on is.
-- Assumes nothing.
use Rattle.image.proofs.Equal.{SameInv}
use Rattle.image.proofs.equality.same_from.Given as goal

abbrev pub invariant-loop-i : goal.invariant-loop-i
invariant-loop-i l = SameInv l.a l.b l.from l.i

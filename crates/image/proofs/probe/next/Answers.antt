-- `image::probe::next` meets its contract. Assumes nothing.
use Rattle.std.proofs.Common.{arith}
use Rattle.image.proofs.ProbeStep.{next_inside, next_wraps}
use Rattle.image.proofs.probe.next.Goals as goal

pub returns-then-k-n : goal.returns-then-k-n
returns-then-k-n c = let a = c.args in record { is = next_inside a.n a.k c.if-k-n.true; inside = c.if-k-n.true }

pub returns-else-k-n : goal.returns-else-k-n
returns-else-k-n c = let a = c.args in record { is = next_wraps a.n a.k (omega arith); inside = omega arith }

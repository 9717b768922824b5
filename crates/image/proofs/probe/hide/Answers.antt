-- `image::probe::hide` meets its contract. Assumes nothing.
use Rattle.std.proofs.Common.{arith, le-ltb, lt-ltb}
use Rattle.image.proofs.probe.hide.Goals as goal

pub returns-then-w-before : goal.returns-then-w-before
returns-then-w-before c = rw (lt-ltb c.args.w c.args.before (omega (arith, c.if-w-before.true)))

pub returns-else-w-before : goal.returns-else-w-before
returns-else-w-before c = rw (le-ltb c.args.w c.args.before (omega (arith, c.if-w-before.false)))

-- `build::hashed::any_zero` meets its contract. The loop's invariant: what was found or is still to be found is the whole test. Assumes nothing.
use Rattle.std.proofs.Common.{arith}
use Rattle.build.proofs.StoredAll.{any_zero_step, any_zero_end}
use Rattle.build.proofs.hashed.any_zero.Goals as goal

pub loop-b-preserved : goal.loop-b-preserved
loop-b-preserved c = any_zero_step _ c.loop-b.b-index c.loop-b.any _ (omega arith) c.loop-b.invariant

pub returns : goal.returns
returns c = any_zero_end _ c.loop-b.b-index c.loop-b.any _ (omega arith) c.loop-b.invariant

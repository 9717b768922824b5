-- `build::needs::largest` meets its contract. The loop's invariant: it is that of the ids passed. Assumes nothing.
use Rattle.std.proofs.Common.{arith}
use Rattle.build.proofs.Needed.{largest_start, largest_step, largest_end}
use Rattle.build.proofs.needs.largest.Goals as goal

pub loop-id-init : goal.loop-id-init
loop-id-init c = largest_start c.args.ids.now c.requires

pub loop-id-preserved : goal.loop-id-preserved
loop-id-preserved c =
    largest_step c.args.ids.now c.loop-id.id-index c.loop-id.top _ c.loop-id.invariant (omega arith) c.max-top.ensures

pub returns : goal.returns
returns c =
    largest_end c.args.ids.now c.loop-id.id-index c.loop-id.top c.loop-id.invariant (omega arith)

-- `build::needs::largest` meets its contract. The loop's invariant: it is that of the ids passed. Assumes nothing.
use Rattle.build.proofs.Needed.{LargestTo}
use Rattle.build.proofs.needs.largest.Given as goal

abbrev pub invariant-loop-id : goal.invariant-loop-id
invariant-loop-id l = LargestTo l.ids l.id-index l.top

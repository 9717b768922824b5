-- Each step goes on at the next id.
use Rattle.std.proofs.Common.{◌-◌, ◌^◌}
use Rattle.catalogue.proofs.print_walk.Given as goal

abbrev pub invariant-loop-item : goal.invariant-loop-item
invariant-loop-item g l = Unit {0}

abbrev pub decreases-loop-item : goal.decreases-loop-item
decreases-loop-item g l = 2 ^ 32 - l.walk.next

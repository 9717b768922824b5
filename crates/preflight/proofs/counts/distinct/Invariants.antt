-- The places before the one at hand are counted.
use Rattle.preflight.proofs.Distinct.{DistinctInv}
use Rattle.preflight.proofs.counts.distinct.Given as goal

abbrev pub invariant-loop-i : goal.invariant-loop-i
invariant-loop-i l = DistinctInv l.round l.seen l.i

-- The ids before the place at hand are counted.
use Rattle.reader.specs.Naming.{name_given}
use Rattle.preflight.specs.Counts.{names}
use Rattle.preflight.proofs.Tallies.{TallyInv}
use Rattle.preflight.proofs.counts.compared.Given as goal

abbrev pub invariant-loop-id : goal.invariant-loop-id
invariant-loop-id l = TallyInv (names (name_given l.old)) l.round l.seen l.id-index

-- The ids before the one at hand are counted.
use Rattle.preflight.specs.Ids.{is_id}
use Rattle.preflight.proofs.Tallies.{PartInv}
use Rattle.preflight.proofs.on_sheet.count.Given as goal

abbrev pub invariant-loop-i : goal.invariant-loop-i
invariant-loop-i l = PartInv (is_id l.id) l.part l.seen l.i

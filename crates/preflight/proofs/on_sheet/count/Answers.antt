-- `preflight::on_sheet::count` meets its contract. Assumes nothing.
use Rattle.std.proofs.Common.{arith, eq-eqb, ne_eqb}
use Rattle.preflight.specs.Ids.{is_id}
use Rattle.preflight.proofs.Tallies.{tally_starts, part_yes, part_no, part_tallied}
use Rattle.preflight.proofs.on_sheet.count.Goals.{then-id_at-id, else-id_at-id}
use Rattle.preflight.proofs.on_sheet.count.Goals as goal

pub loop-i-init : goal.loop-i-init
loop-i-init c = tally_starts _ _

pub overflow_add-seen : goal.overflow_add-seen
overflow_add-seen c = omega (arith, c.loop-i.invariant.most)

pub loop-i-preserved : goal.loop-i-preserved
loop-i-preserved c =
    let test = is_id c.args.id in
    elim c.if-id_at-id.branch [
      | then-id_at-id w ↦
          part_yes test _ _ _ _ _ c.loop-i.invariant c.loop-i-test.true c.id_at.ensures (eq-eqb _ _ w.if-id_at-id.true) w.seen-is
      | else-id_at-id w ↦
          part_no test _ _ _ _ _ c.loop-i.invariant c.loop-i-test.true c.id_at.ensures (ne_eqb _ _ w.if-id_at-id.false) w.seen-is
    ]

pub returns : goal.returns
returns c = part_tallied _ _ _ _ c.loop-i.invariant c.loop-i-test.false

-- `preflight::counts::compared` meets its contract. Assumes nothing.
use Rattle.std.proofs.Common.{arith, ◌≡◌, Bool, true, false, sym, ap, ◌∙◌}
use Rattle.preflight.specs.Counts.{is_given}
use Rattle.preflight.proofs.Given.{given_so}
use Rattle.preflight.proofs.Tallies.{tally_starts, tally_yes, tally_no, tallied}
use Rattle.preflight.proofs.counts.compared.Goals.{then-is_some, else-is_some}
use Rattle.preflight.proofs.counts.compared.Goals as goal

pub loop-id-init : goal.loop-id-init
loop-id-init c = tally_starts _ _

pub overflow_add-seen : goal.overflow_add-seen
overflow_add-seen c = omega (arith, c.loop-id.invariant.most)

pub loop-id-preserved : goal.loop-id-preserved
loop-id-preserved c =
    let named = sym (ap is_given c.name_given.ensures) ∙ sym (given_so c.name_given.result) ∙ sym c.is_some.ensures in
    elim c.if-is_some.branch [
      | then-is_some w ↦ tally_yes _ _ _ _ _ c.loop-id.invariant c.loop-id-test.true (named ∙ w.if-is_some.true) w.seen-is
      | else-is_some w ↦ tally_no _ _ _ _ _ c.loop-id.invariant c.loop-id-test.true (named ∙ w.if-is_some.false) w.seen-is
    ]

pub returns : goal.returns
returns c = tallied _ _ _ _ c.loop-id.invariant c.loop-id-test.false

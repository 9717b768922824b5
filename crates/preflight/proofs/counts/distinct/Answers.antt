-- `preflight::counts::distinct` meets its contract. Assumes nothing.
use Rattle.std.proofs.Common.{arith, sym, ◌∙◌}
use Rattle.preflight.proofs.Distinct.{distinct_starts, distinct_yes, distinct_no, distinct_ends}
use Rattle.preflight.proofs.counts.distinct.Goals.{then-not-occurs, else-not-occurs}
use Rattle.preflight.proofs.counts.distinct.Goals as goal

pub loop-i-init : goal.loop-i-init
loop-i-init c = distinct_starts _

pub overflow_add-seen : goal.overflow_add-seen
overflow_add-seen c = omega (arith, c.loop-i.invariant.most)

pub loop-i-preserved : goal.loop-i-preserved
loop-i-preserved c =
    elim c.if-not-occurs.branch [
      | then-not-occurs w ↦
          distinct_yes _ _ _ _ c.loop-i.invariant c.loop-i-test.true (sym c.occurs.ensures ∙ w.if-not-occurs.true) w.seen-is
      | else-not-occurs w ↦
          distinct_no _ _ _ _ c.loop-i.invariant c.loop-i-test.true (sym c.occurs.ensures ∙ w.if-not-occurs.false) w.seen-is
    ]

pub returns : goal.returns
returns c = distinct_ends _ _ _ c.loop-i.invariant c.loop-i-test.false

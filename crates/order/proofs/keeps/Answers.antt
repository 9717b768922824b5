-- `order::keeps` meets its contract. Assumes nothing.
use Rattle.std.proofs.Common.{ℕ, ap, sym, ◌∙◌, add-one, arith, drop}
use Rattle.order.specs.Rule.{kept}
use Rattle.order.proofs.PairLaws.{kept_end, kept_wall, kept_reference, kept_on}
use Rattle.order.proofs.keeps.Goals as goal

pub returns-then-id-p : goal.returns-then-id-p
returns-then-id-p c =
    sym (kept_wall c.args.p c.args.round.now c.loop-id.id-index c.loop-id-test.true c.if-id-p.true) ∙ c.loop-id.invariant

pub returns-then-id-p-2 : goal.returns-then-id-p-2
returns-then-id-p-2 c =
    let i = c.loop-id.id-index in
    sym (kept_reference c.args.p c.args.round.now i c.loop-id-test.true c.if-id-p.false c.if-id-p-2.true) ∙ c.loop-id.invariant

-- neither: the rest of the round decides
pub loop-id-preserved : goal.loop-id-preserved
loop-id-preserved c =
    let i = c.loop-id.id-index in
    ap (λ (k : ℕ). kept c.args.p (drop k c.args.round.now)) (add-one i)
    ∙ sym (kept_on c.args.p c.args.round.now i c.loop-id-test.true c.if-id-p.false c.if-id-p-2.false)
    ∙ c.loop-id.invariant

pub returns : goal.returns
returns c = sym (kept_end c.args.p c.args.round.now c.loop-id.id-index (omega arith)) ∙ c.loop-id.invariant

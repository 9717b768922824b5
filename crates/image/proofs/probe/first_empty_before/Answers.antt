-- `image::probe::first_empty_before` meets its contract. Assumes nothing.
use Rattle.std.proofs.Common.{◌≡◌, ◌+◌, ◌-◌, sym, refl, ap, ◌∙◌, arith}
use Rattle.image.specs.Steps.Contracts.{offset_at, hidden}
use Rattle.image.proofs.FirstEmpty.{probing_here, probing_next, probing_none}
use Rattle.image.proofs.probe.first_empty_before.Goals.{After-hide}
use Rattle.image.proofs.probe.first_empty_before.Goals as goal

-- the bucket's offset, as it counts
offset : (c : After-hide) → let a = c.args in
    c.hide.result ≡ hidden a.before (offset_at a.buf.now a.o c.loop.i)
offset c = c.hide.ensures ∙ ap (hidden _) c.word.ensures

pub loop-init : goal.loop-init
loop-init c = let e : c.args.n - 0 ≡ c.args.n = omega arith in record { inside = c.requires.start; same = rw e refl }

pub returns-then-hide-eq0 : goal.returns-then-hide-eq0
returns-then-hide-eq0 c =
    probing_here c.loop.invariant (omega arith) (sym (offset (goal.at.returns-then-hide-eq0 c).After-hide) ∙ c.if-hide-eq0.true)

pub loop-preserved : goal.loop-preserved
loop-preserved c =
    let e : c.args.n - c.loop.counter - 1 ≡ c.args.n - (c.loop.counter + 1) = omega arith in
    rw e at
    (probing_next c.loop.invariant (omega arith) (λ z. c.if-hide-eq0.false (offset (goal.at.loop-preserved c).After-hide ∙ z))
    c.next-i.result c.next-i.ensures)

pub returns : goal.returns
returns c = probing_none c.loop.invariant (omega arith)

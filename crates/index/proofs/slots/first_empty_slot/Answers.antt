-- `index::slots::first_empty_slot` meets its contract. The loop's invariant: the rest of the probe sequence gives the result of the whole. Assumes nothing.
use Rattle.std.proofs.Common.{arith, refl, sym, ◌∙◌}
use Rattle.index.proofs.Probing.{never, rest_start, probe_none, rest_end, rest_empty, rest_next}
use Rattle.index.proofs.slots.first_empty_slot.Goals as goal

pub returns-then-m-eq0 : goal.returns-then-m-eq0
returns-then-m-eq0 c = probe_none c.args.slots.now c.args.h never c.if-m-eq0.true

pub loop-init : goal.loop-init
loop-init c = rest_start c.args.slots.now c.args.h never (omega arith) c.start-k.ensures

pub offset_at-requires : goal.offset_at-requires
offset_at-requires c = c.loop.invariant.inside

pub returns-then-offset_at-eq0 : goal.returns-then-offset_at-eq0
returns-then-offset_at-eq0 c =
    rest_empty c.loop.invariant (omega arith) (sym c.offset_at.ensures ∙ c.if-offset_at-eq0.true)

pub loop-preserved : goal.loop-preserved
loop-preserved c =
    rest_next c.loop.invariant (omega arith) (λ z. c.if-offset_at-eq0.false (c.offset_at.ensures ∙ z)) (λ e. refl) (omega arith)
    c.next-k.ensures

pub returns : goal.returns
returns c = rest_end c.loop.invariant (omega arith)

-- `image::equality::same_from` meets its contract. The loop's invariant: what is left from here on is equal exactly where all from the start on is.
-- Assumes nothing.
use Rattle.std.proofs.Common.{◌+◌, sym, refl, ◌∙◌, arith, rules}
use Rattle.image.proofs.Equal.{other_byte, equal_byte, same_none}
use Rattle.image.proofs.equality.same_from.Goals as goal

pub loop-i-init : goal.loop-i-init
loop-i-init c = record { inside = search rules; rest = refl }

pub returns-then-a-i : goal.returns-then-a-i
returns-then-a-i c =
    let a = c.args in
    other_byte a.a.now a.b.now c.loop-i.i (c.loop-i.i + 1) refl (omega arith) (omega arith) c.if-a-i.true ∙ c.loop-i.invariant.rest

pub loop-i-preserved : goal.loop-i-preserved
loop-i-preserved c =
    let a = c.args in
    record {
      inside = omega arith;
      rest = equal_byte a.a.now a.b.now c.loop-i.i (c.loop-i.i + 1) refl (omega arith) (omega arith) c.if-a-i.false ∙ c.loop-i.invariant.rest;
    }

pub returns : goal.returns
returns c =
    let a = c.args in
    sym (same_none a.a.now a.b.now c.loop-i.i (omega arith) (omega arith)) ∙ c.loop-i.invariant.rest

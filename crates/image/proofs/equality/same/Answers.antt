-- `image::equality::same` meets its contract. The loop's invariant: what is left is equal exactly where the whole is. Assumes nothing.
use Rattle.std.proofs.Common.{sym, refl, ◌∙◌, arith, rules}
use Rattle.jhash.specs.Word.{AllBytes}
use Rattle.image.proofs.Equal.{same_lengths, other_word8, same_word8}
use Rattle.image.proofs.equality.same.Goals.{After-word8-in-loop-i}
use Rattle.image.proofs.equality.same.Goals as goal

pub returns-then-a-b : goal.returns-then-a-b
returns-then-a-b c =
    let a = c.args in
    sym (same_lengths a.a.now a.b.now c.if-a-b.true)

pub loop-i-init : goal.loop-i-init
loop-i-init c = record { inside = search rules; rest = refl }

bytes_a : (c : After-word8-in-loop-i) → AllBytes c.args.a.now
bytes_a c k = (c.type_inv.a k).fits

bytes_b : (c : After-word8-in-loop-i) → AllBytes c.args.b.now
bytes_b c k = (c.type_inv.b k).fits

pub returns-then-word8 : goal.returns-then-word8
returns-then-word8 c =
    let a = c.args in
    sym
    (other_word8 a.a.now a.b.now c.loop-i.i (omega arith) (omega (arith, c.if-a-b.false))
    (bytes_a (goal.at.returns-then-word8 c).After-word8-in-loop-i) (bytes_b (goal.at.returns-then-word8 c).After-word8-in-loop-i)
    (λ e. c.if-word8.true (c.word8.ensures ∙ e ∙ sym c.word8-in-loop-i.ensures)))
    ∙ c.loop-i.invariant.rest

pub loop-i-smaller : goal.loop-i-smaller
loop-i-smaller c = omega arith

pub loop-i-preserved : goal.loop-i-preserved
loop-i-preserved c =
    let a = c.args in
    record {
      inside = omega arith;
      rest = sym
          (same_word8 a.a.now a.b.now c.loop-i.i (omega arith) (omega (arith, c.if-a-b.false))
          (bytes_a (goal.at.loop-i-preserved c).After-word8-in-loop-i) (bytes_b (goal.at.loop-i-preserved c).After-word8-in-loop-i)
          (sym c.word8.ensures ∙ c.if-word8.false ∙ c.word8-in-loop-i.ensures))
          ∙ c.loop-i.invariant.rest;
    }

pub returns : goal.returns
returns c = c.same_last.ensures ∙ c.loop-i.invariant.rest

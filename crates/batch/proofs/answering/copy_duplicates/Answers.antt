-- `batch::answering::copy_duplicates` meets its contract. The loop's invariant: the places passed have their answers, and so have those of unique names.
-- Assumes nothing.
use Prim.Native.Nat.{ℕ, ◌+◌}
use native.Mathlib.Omega.{arith}
use mathlib.Core.Path.{sym, subst, ◌∙◌}
use mathlib.Core.List.{List}
use lib.ListN.{length}
use Rattle.batch.proofs.AnswerPlaces.{Copied, copied_step}
use Rattle.batch.proofs.answering.copy_duplicates.Goals as goal

pub loop-i-preserved : goal.loop-i-preserved
loop-i-preserved c =
    let a = c.args in
    let more = c.loop-i-test.true in
    record {
      long = c.copy_answer.auto.answers ∙ c.loop-i.invariant.long;
      copied = λ image xs u.
          subst (λ (r : List ℕ). Copied image xs a.equals.now r (length a.equals.now) (c.loop-i.i + 1)) (sym c.copy_answer.ensures)
          (copied_step u c.source-from.ensures more (omega (arith, c.requires.places, c.loop-i.invariant.long)) (c.loop-i.invariant.copied image xs u));
    }

pub returns : goal.returns
returns c = let v = c.loop-i.invariant in λ image xs u i h. (v.copied image xs u).passed i (omega (arith, c.loop-i-test.false))

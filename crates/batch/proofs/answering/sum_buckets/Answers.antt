-- `batch::answering::sum_buckets` meets its contract. The loop's invariant: the sum, with the buckets of the names that are left, is that of all. Assumes
-- nothing.
use native.Mathlib.Omega.{arith}
use Rattle.batch.proofs.UniqueSums.{sum_start, sum_step, sum_end}
use Rattle.batch.proofs.answering.sum_buckets.Goals as goal

pub loop-i-init : goal.loop-i-init
loop-i-init c = record { small = omega arith; whole = λ image xs u. sum_start image xs }

pub loop-i-preserved : goal.loop-i-preserved
loop-i-preserved c =
    record {
      small = omega (arith, c.if_zero.type_inv, c.loop-i.invariant.small);
      whole = λ image xs u.
          sum_step u c.loop-i.i c.loop-i.sum c.if_zero.result (omega arith) c.if_zero.ensures.own
          c.if_zero.ensures.none (c.loop-i.invariant.whole image xs u);
    }

pub returns : goal.returns
returns c =
    λ image xs u. sum_end u c.loop-i.i c.loop-i.sum (omega (arith, c.loop-i-test.false)) (c.loop-i.invariant.whole image xs u)

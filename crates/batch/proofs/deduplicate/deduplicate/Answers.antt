-- `batch::deduplicate::deduplicate` meets its contract. The loop's invariant: the slots hold the first i names, and it is known which of them are
-- unique. Assumes nothing.
use Prim.Native.Nat.{ℕ}
use native.Mathlib.Omega.{arith}
use mathlib.Core.Path.{refl}
use lib.ListN.{length-set, replicate, length-replicate, get_or-replicate}
use Rattle.image.proofs.NameEnds.{length_names}
use Rattle.batch.specs.Steps.Duplicates.{round_names}
use Rattle.batch.proofs.Duplicates.{slots_empty, deduplicated_none, deduplicated_step}
use Rattle.batch.proofs.deduplicate.deduplicate.Goals as goal

pub loop-i-init : goal.loop-i-init
loop-i-init c =
    let a = c.args in
    let xs = round_names a.round.now in
    record {
      equals_long = refl;
      unique_long = omega arith;
      holds = slots_empty xs a.round.now.hashes.now (replicate {A = ℕ} 4096 0) (length-replicate {A = ℕ} 4096 0)
          (λ k h. get_or-replicate {A = ℕ} 4096 k 0 0 h);
      deduplicated = deduplicated_none xs a.equals.now a.unique.now;
    }

pub loop-i-preserved : goal.loop-i-preserved
loop-i-preserved c =
    let v = c.loop-i.invariant in
    let r = c.args.round.now in
    record {
      equals_long = simp length-set v.equals_long;
      unique_long = simp length-set v.unique_long;
      holds = c.find_or_insert-q.ensures.holds;
      deduplicated = deduplicated_step (omega (arith, length_names r.names.bytes.now r.names.ends.now)) (omega (arith, v.equals_long))
          (omega (arith, v.unique_long, v.deduplicated.count, r.hashed.few)) c.find_or_insert-q.ensures.equal c.if_zero.ensures v.deduplicated;
    }

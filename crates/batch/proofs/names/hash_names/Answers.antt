-- `batch::names::hash_names` meets its contract. The loop's invariant: the first i hashes are stored. Assumes nothing.
use Rattle.std.proofs.Common.{◌<◌, length, ap, ◌∙◌, arith, length-set}
use Rattle.image.proofs.NameEnds.{length_names}
use Rattle.batch.specs.RoundNames.{names}
use Rattle.batch.specs.Steps.HashedNames.{hash_or_zero}
use Rattle.batch.proofs.Duplicates.{hashes_step}
use Rattle.batch.proofs.names.hash_names.Goals as goal

pub loop-i-preserved : goal.loop-i-preserved
loop-i-preserved c =
    let p = c.args.packed in
    let inside : c.loop-i.i < length c.loop-i.hashes = omega (arith, c.loop-i.invariant.long) in
    record {
      long = simp length-set c.loop-i.invariant.long;
      stored = hashes_step (names p.bytes.now p.ends.now) c.loop-i.hashes c.loop-i.i c.hash_or_zero.result inside c.loop-i.invariant.stored
          (c.hash_or_zero.ensures ∙ ap hash_or_zero c.name.ensures);
    }

pub returns : goal.returns
returns c = let p = c.args.packed in λ i h. c.loop-i.invariant.stored i (omega (arith, length_names p.bytes.now p.ends.now))

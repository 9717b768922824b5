-- `image::packed::invalid_ends` meets its contract. The loop's invariant: what was found or is still to be found is the whole test. Assumes nothing.
use Rattle.std.proofs.Common.{refl, arith}
use Rattle.image.proofs.NameEnds.{invalid_ends_step, invalid_ends_none}
use Rattle.image.proofs.packed.invalid_ends.Goals as goal

pub loop-end-init : goal.loop-end-init
loop-end-init c = refl

pub loop-end-preserved : goal.loop-end-preserved
loop-end-preserved c =
    let s = c.loop-end in
    invalid_ends_step c.args.size s.start c.args.ends.now s.end-index s.bad _ (omega arith) s.invariant

pub returns : goal.returns
returns c =
    let s = c.loop-end in
    invalid_ends_none c.args.size s.start c.args.ends.now s.end-index s.bad _ (omega arith) s.invariant

-- `serialize::counts::each_at_most` meets its contract. Assumes nothing.
use Rattle.std.proofs.Common.{◌≡◌, ℕ, ◌-◌, leb, get_or, arith}
use Rattle.image.proofs.AllOfRange.{all_more, all_end}
use Rattle.serialize.proofs.counts.each_at_most.Goals as goal

pub loop-count-preserved : goal.loop-count-preserved
loop-count-preserved c =
    let s = c.loop-count in
    all_more (λ (k : ℕ). leb (get_or c.args.counts.now k 0) c.args.entries) s.count-index 256 s.none _ (omega arith) s.invariant

pub returns : goal.returns
returns c =
    let s = c.loop-count in
    let z : 256 - s.count-index ≡ 0 = omega arith in
    all_end (λ (k : ℕ). leb (get_or c.args.counts.now k 0) c.args.entries) s.count-index _ _ (rw z at s.invariant)

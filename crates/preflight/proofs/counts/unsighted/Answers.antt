-- `preflight::counts::unsighted` meets its contract. Assumes nothing.
use native.Mathlib.Omega.{arith}
use Rattle.reader.specs.Slices.{slice}
use Rattle.preflight.proofs.Distinct.{unsighted_so}
use Rattle.preflight.proofs.counts.unsighted.Goals as goal

pub overflow_sub-result : goal.overflow_sub-result
overflow_sub-result c =
    let a = c.args in
    let all_but =
    unsighted_so (slice a.file) a.round.now _ _ _ c.requires c.section-references.ensures c.section-walls.ensures
    c.distinct.ensures in
    omega (arith, all_but.enough)

pub returns : goal.returns
returns c =
    let a = c.args in
    (unsighted_so (slice a.file) a.round.now _ _ _ c.requires c.section-references.ensures c.section-walls.ensures
    c.distinct.ensures).is

-- `build::capacity::has_capacity` meets its contract. Assumes nothing.
use native.Mathlib.Omega.{arith}
use mathlib.Core.Path.{sym}
use lib.ListN.{length}
use lib.Seq.{length-take-le}
use Rattle.image.proofs.Bools.{false_not_true}
use Rattle.build.proofs.Needed.{capacity_known}
use Rattle.build.proofs.capacity.has_capacity.Goals as goal

pub returns : goal.returns
returns c =
    let a = c.args in
    λ e.
    capacity_known a.mode a.ends.now a.ids.now c.for_list-needs.result a.room c.for_list-needs.ensures c.if-n-eq0.false c.requires
    (omega (arith, c.if-room-needs.false)) (omega (arith, c.if-needs-gt4294967295.false))

pub returns-then-n-eq0 : goal.returns-then-n-eq0
returns-then-n-eq0 c = λ e. absurd (false_not_true e)

pub overflow_sub-n : goal.overflow_sub-n
overflow_sub-n c = omega (arith, c.if-n-eq0.false)

pub bounds-ends-n : goal.bounds-ends-n
bounds-ends-n c = omega (arith, c.if-n-eq0.false)

pub slice_bounds-for_list-end : goal.slice_bounds-for_list-end
slice_bounds-for_list-end c = sym (length-take-le (length c.args.ends.now) c.args.ids.now c.requires)

pub returns-then-room-needs : goal.returns-then-room-needs
returns-then-room-needs c = λ e. absurd (false_not_true e)

pub returns-then-needs-gt4294967295 : goal.returns-then-needs-gt4294967295
returns-then-needs-gt4294967295 c = λ e. absurd (false_not_true e)

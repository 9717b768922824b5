-- `validity::part_by_state` meets its contract. Assumes nothing.
use Rattle.std.proofs.Common.{arith, sym, rules}
use Rattle.validity.proofs.WindowTests.{part_inside}
use Rattle.validity.proofs.part_by_state.Goals as goal

pub overflow_add-result : goal.overflow_add-result
overflow_add-result c =
    let a = c.args in
    let inside = part_inside a.image.now a.id a.date a.s _ _ (sym (rw c.in-Ok-Some.field-0-is at c.in-Ok-Some.ensures)) in
    omega (arith, inside)

pub slice_bounds-result-end : goal.slice_bounds-result-end
slice_bounds-result-end c =
    let a = c.args in
    let inside = part_inside a.image.now a.id a.date a.s _ _ (sym (rw c.in-Ok-Some.field-0-is at c.in-Ok-Some.ensures)) in
    search (rules, inside)

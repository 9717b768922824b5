-- `catalogue::print_walk` is safe and ends: each step goes on at the next id. Assumes nothing.
use Rattle.std.proofs.Common.{arith, sym}
use Rattle.catalogue.proofs.InputRead.{stepping}
use Rattle.catalogue.proofs.print_walk.Goals as goal

pub overflow_add-place : goal.overflow_add-place
overflow_add-place g c = let s = stepping _ _ _ _ _ _ (sym c.in-Some.ensures) in omega (arith, s.inside)

pub slice_bounds-print_line-end : goal.slice_bounds-print_line-end
slice_bounds-print_line-end g c = let s = stepping _ _ _ _ _ _ (sym c.in-Some.ensures) in omega (arith, s.inside)

pub loop-item-smaller : goal.loop-item-smaller
loop-item-smaller g c = let s = stepping _ _ _ _ _ _ (sym c.in-Some.ensures) in omega (arith, s.onward)

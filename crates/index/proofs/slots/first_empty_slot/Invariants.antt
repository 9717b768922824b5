-- `index::slots::first_empty_slot` meets its contract. The loop's invariant: the rest of the probe sequence gives the result of the whole. Assumes nothing.
use Rattle.std.proofs.Common.{◌-◌}
use Rattle.index.proofs.Probing.{never, Rest}
use Rattle.index.proofs.slots.first_empty_slot.Given as goal

abbrev pub invariant-loop : goal.invariant-loop
invariant-loop l = Rest l.slots l.h never (l.m - l.counter) l.k

-- `index::slots::probe` meets its contract. The loop's invariant: the rest of the probe sequence gives the result of the whole. Assumes nothing.
use Rattle.std.proofs.Common.{◌-◌}
use Rattle.index.specs.Probe.{has_name_at}
use Rattle.index.proofs.Probing.{Rest}
use Rattle.index.proofs.slots.probe.Given as goal

abbrev pub invariant-loop : goal.invariant-loop
invariant-loop l = Rest l.slots l.h (has_name_at l.bytes l.name) (l.m - l.counter) l.k

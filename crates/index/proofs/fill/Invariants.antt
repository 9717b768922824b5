-- `index::fill` meets its contract. The loop's invariant: the slots are those of the entries passed. Assumes nothing.
use Rattle.std.proofs.Common.{◌-◌}
use Rattle.index.proofs.MakeIndex.{Filling}
use Rattle.index.proofs.fill.Given as goal

abbrev pub invariant-loop : goal.invariant-loop
invariant-loop l = Filling l.buf l.end l.entries l.initial.slots l.at (l.entries - l.counter) l.slots

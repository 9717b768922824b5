-- `serialize::insert::insert_entries` meets its contract. Assumes nothing.
use Rattle.std.proofs.Common.{◌-◌}
use Rattle.serialize.proofs.Insertion.{Inserting}
use Rattle.serialize.proofs.insert.insert_entries.Given as goal

abbrev pub invariant-loop : goal.invariant-loop
invariant-loop l = Inserting l.mode l.back_offset l.end l.entries l.initial.buf l.buf l.at (l.entries - l.counter) l.met

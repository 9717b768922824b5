-- `serialize::partition::partition_entries` meets its contract. Assumes nothing.
use Rattle.std.proofs.Common.{◌-◌}
use Rattle.serialize.proofs.PartitionSteps.{Partitioning}
use Rattle.serialize.proofs.partition.partition_entries.Given as goal

abbrev pub invariant-loop : goal.invariant-loop
invariant-loop l = Partitioning l.mode l.back_offset l.end l.entries l.initial.places l.initial.buf l.places l.buf l.at (l.entries - l.counter)

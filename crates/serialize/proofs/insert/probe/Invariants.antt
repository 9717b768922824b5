-- `serialize::insert::probe` meets its contract. The loop's invariant: the probe sequence that is left tells what the whole one tells. Assumes nothing.
use Rattle.std.proofs.Common.{◌-◌, take}
use Rattle.lookup_laws.proofs.SlotSearch.{Remaining}
use Rattle.serialize.specs.Steps.Meeting.{bucket_at, same_names}
use Rattle.serialize.proofs.insert.probe.Given as goal

abbrev pub invariant-loop : goal.invariant-loop
invariant-loop l = Remaining (bucket_at l.buf l.o) (same_names (take l.end l.buf) l.at) l.h l.n (l.n - l.counter) l.k

-- `serialize::insert::first_without_equal` meets its contract. The loop's invariant: the probe sequence that is left tells what the whole one tells,
-- whatever the names. Assumes nothing.
use Rattle.std.proofs.Common.{ℕ, ◌-◌, Bool}
use Rattle.lookup_laws.proofs.SlotSearch.{Remaining}
use Rattle.serialize.specs.Steps.Meeting.{bucket_at}
use Rattle.serialize.proofs.insert.first_without_equal.Given as goal

abbrev pub invariant-loop : goal.invariant-loop
invariant-loop l = (named : ℕ → Bool) → Remaining (bucket_at l.buf l.o) named l.h l.n (l.n - l.counter) l.k

-- `one_to_one::first_failure` meets its contract. The loop's invariant: the entries that are left have the first failure of all. Assumes nothing.
use Rattle.std.proofs.Common.{◌-◌}
use Rattle.canonical.proofs.EntriesAhead.{Ahead}
use Rattle.one_to_one.proofs.Walking.{First}
use Rattle.one_to_one.proofs.first_failure.Given as goal

abbrev pub invariant-loop : goal.invariant-loop
invariant-loop l = Ahead (First l.image) l.image l.at (l.n - l.counter)

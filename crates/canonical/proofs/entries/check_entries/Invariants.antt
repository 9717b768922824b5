-- `canonical::entries::check_entries` meets its contract. Assumes nothing.
use Rattle.std.proofs.Common.{◌-◌}
use Rattle.canonical.specs.Steps.Checks.{is_two}
use Rattle.canonical.proofs.EntryLoop.{Entering}
use Rattle.canonical.proofs.entries.check_entries.Given as goal

abbrev pub invariant-loop : goal.invariant-loop
invariant-loop l =
    Entering l.image l.end l.entries (is_two l.mode) l.o l.initial.counts l.at (l.entries - l.counter) l.back l.lasts l.counts

-- The ids from the one at hand on answer for all.
use Rattle.std.proofs.Common.{◌≡◌, ◌-◌}
use Rattle.reader.specs.Naming.{name_given}
use Rattle.preflight.specs.Exchanges.{first_taken, first_taken_in}
use Rattle.preflight.proofs.names.first_taken.Given as goal

abbrev pub invariant-loop-id : goal.invariant-loop-id
invariant-loop-id l =
    first_taken (name_given l.old) (name_given l.new) l.round l.id (l.end - l.id) ≡ first_taken_in l.old l.new l.round

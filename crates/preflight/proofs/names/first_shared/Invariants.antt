-- What is left of the round, from the place at hand on, answers for all of it.
use Rattle.std.proofs.Common.{◌≡◌, drop}
use Rattle.reader.specs.Naming.{name_given}
use Rattle.preflight.specs.Exchanges.{first_shared, first_shared_in}
use Rattle.preflight.proofs.names.first_shared.Given as goal

abbrev pub invariant-loop-place : goal.invariant-loop-place
invariant-loop-place l =
    first_shared (name_given l.new) l.round l.place (drop l.place l.round) ≡ first_shared_in (name_given l.new) l.round

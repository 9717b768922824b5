-- `preflight::names::first_renamed` meets its contract. Assumes nothing.
use Rattle.std.proofs.Common.{rules, arith}
use Rattle.reader.specs.Naming.{name_given}
use Rattle.preflight.specs.Names.{renamed}
use Rattle.preflight.proofs.Places.{IsFirst, first_so}
use Rattle.preflight.proofs.names.first_renamed.Goals as goal

pub returns : goal.returns
returns c =
    let a = c.args in
    let h : IsFirst (renamed (name_given a.old.now) (name_given a.new.now) a.accepted.now) a.round.now c.position.result = search rules in
    first_so _ _ _ h

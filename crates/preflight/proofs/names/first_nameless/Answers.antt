-- `preflight::names::first_nameless` meets its contract. Assumes nothing.
use Rattle.std.proofs.Common.{rules, arith}
use Rattle.reader.specs.Naming.{name_given}
use Rattle.preflight.specs.Names.{nameless}
use Rattle.preflight.proofs.Places.{IsFirst, first_so}
use Rattle.preflight.proofs.names.first_nameless.Goals as goal

pub returns : goal.returns
returns c =
    let a = c.args in
    let h : IsFirst (nameless (name_given a.new.now)) a.round.now c.position.result = search rules in
    first_so _ _ _ h

-- `preflight::names::first_other` meets its contract. Assumes nothing.
use Rattle.std.proofs.Common.{rules, arith, ap, ◌∙◌, List, ℕ}
use Rattle.std.proofs.Math.Option.{Option}
use Rattle.reader.specs.Naming.{name_given}
use Rattle.preflight.specs.Names.{other_has, first_other}
use Rattle.preflight.proofs.Places.{IsFirst, first_so}
use Rattle.preflight.proofs.names.first_other.Goals as goal

pub returns : goal.returns
returns c =
    let a = c.args in
    let h : IsFirst (other_has (name_given a.new.now) c.in_ok-name.name.now a.id) a.round.now c.position.result = search rules in
    first_so _ _ _ h ∙ ap (λ (x : Option (List ℕ)). first_other (name_given a.new.now) x a.id a.round.now) c.in_ok-name.ensures

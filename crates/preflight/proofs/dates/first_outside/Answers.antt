-- `preflight::dates::first_outside` meets its contract. Assumes nothing.
use Rattle.std.proofs.Common.{rules, arith}
use Rattle.preflight.specs.Dates.{outside, windows_in}
use Rattle.preflight.proofs.Places.{IsFirst, first_so}
use Rattle.preflight.proofs.dates.first_outside.Goals as goal

pub returns : goal.returns
returns c =
    let a = c.args in
    let h : IsFirst (outside (windows_in a.windows.now) a.last a.date) a.round.now c.position.result = search rules in
    first_so _ _ _ h

-- `preflight::on_sheet::first_off` meets its contract. Assumes nothing.
use Rattle.std.proofs.Common.{rules, arith}
use Rattle.sheet.specs.SheetReading.{ids_in}
use Rattle.preflight.specs.OnSheet.{off_sheet}
use Rattle.preflight.proofs.Places.{IsFirst, first_so}
use Rattle.preflight.proofs.on_sheet.first_off.Goals as goal

pub returns : goal.returns
returns c =
    let a = c.args in
    let h : IsFirst (off_sheet (ids_in a.references.now) (ids_in a.walls.now) (ids_in a.retired.now)) a.round.now c.position.result = search rules in
    first_so _ _ _ h

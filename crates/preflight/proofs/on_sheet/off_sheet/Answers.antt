-- `preflight::on_sheet::off_sheet` meets its contract. Assumes nothing.
use Rattle.sheet.specs.SheetReading.{ids_in}
use Rattle.preflight.proofs.Tallies.{not_once, once}
use Rattle.preflight.proofs.on_sheet.off_sheet.Goals as goal

pub returns-then-count-ne1 : goal.returns-then-count-ne1
returns-then-count-ne1 c =
    let a = c.args in
    not_once (ids_in a.references.now) (ids_in a.walls.now) (ids_in a.retired.now) a.id _ _ c.count.ensures.is
    c.count-2.ensures.is c.if-count-ne1.true

pub returns : goal.returns
returns c =
    let a = c.args in
    once (ids_in a.references.now) (ids_in a.walls.now) (ids_in a.retired.now) a.id _ _ c.count.ensures.is
    c.count-2.ensures.is _ c.if-count-ne1.false c.count-3.ensures.is

-- `preflight::on_sheet::of_sheet` meets its contract, by what the sheet reads. Assumes nothing.
use Rattle.reader.specs.Slices.{slice}
use Rattle.preflight.proofs.Answers.{sheet_refused, sheet_whole}
use Rattle.preflight.proofs.on_sheet.of_sheet.Goals as goal

pub returns-in-Err : goal.returns-in-Err
returns-in-Err c = sheet_refused (slice c.args.file) c.args.round.now _ c.in-Err.ensures

pub returns-in-Some : goal.returns-in-Some
returns-in-Some c =
    sheet_whole (slice c.args.file) c.args.round.now _ c.in-Ok.ensures _ _ _ _ c.section-references.ensures c.section-walls.ensures
    c.section-retired.ensures c.in-Some.ensures

pub returns-in-None : goal.returns-in-None
returns-in-None c =
    sheet_whole (slice c.args.file) c.args.round.now _ c.in-Ok.ensures _ _ _ _ c.section-references.ensures c.section-walls.ensures
    c.section-retired.ensures c.in-None.ensures

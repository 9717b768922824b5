-- `sheet::reading::section` meets its contract. Assumes nothing.
use Rattle.std.proofs.Common.{sym, ap, ◌∙◌}
use Rattle.reader.specs.Slices.{slice}
use Rattle.sheet.specs.SheetReading.{cut_part}
use Rattle.sheet.proofs.Parts.{section_there, no_section}
use Rattle.sheet.proofs.reading.section.Goals as goal

pub returns-in-Ok : goal.returns-in-Ok
returns-in-Ok c =
    let a = c.args in
    c.part.ensures
    ∙ ap (cut_part (slice a.file)) c.place_of.ensures
    ∙ section_there (slice a.file) a.which c.in-Ok.s (sym c.in-Ok.ensures)

pub returns-in-Err : goal.returns-in-Err
returns-in-Err c = no_section (slice c.args.file) c.args.which _ (sym c.in-Err.ensures)

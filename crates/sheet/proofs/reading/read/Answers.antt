-- `sheet::reading::read` meets its contract. Assumes nothing.
use Rattle.std.proofs.Common.{◌≡◌, ◌≤◌, length, sym, ap, ◌∙◌, arith}
use Rattle.std.proofs.lemmas.Result.{err_from_is_err_and}
use Rattle.jhash.specs.Outcome.{value}
use Rattle.sheet.specs.SheetReading.{part_end, section_at, sections}
use Rattle.sheet.proofs.Sections.{found_inside}
use Rattle.sheet.proofs.Sheets.{short_references, short_walls, short_retired, all_three}
use Rattle.sheet.proofs.Files.{reading_short, reading_left, reading_whole}
use Rattle.sheet.proofs.reading.read.Goals.{In_ok-references, In_ok-walls, In_ok-retired}
use Rattle.sheet.proofs.reading.read.Goals as goal

-- the three sections that are found
found_1 : (c : In_ok-references) → section_at c.args.file.now 0 ≡ value c.in_ok-references.references
found_1 c = sym c.in_ok-references.ensures

found_2 : (c : In_ok-walls) → section_at c.args.file.now (part_end c.in_ok-references.references) ≡ value c.in_ok-walls.walls
found_2 c = ap (section_at c.args.file.now) (sym c.end_of.ensures) ∙ sym c.in_ok-walls.ensures

found_3 : (c : In_ok-retired) → section_at c.args.file.now (part_end c.in_ok-walls.walls) ≡ value c.in_ok-retired.retired
found_3 c = ap (section_at c.args.file.now) (sym c.end_of-2.ensures) ∙ sym c.in_ok-retired.ensures

three : (c : In_ok-retired) → sections c.args.file.now ≡ value
    (record { references = c.in_ok-references.references; walls = c.in_ok-walls.walls; retired = c.in_ok-retired.retired })
three c =
    let f = c.args.file.now in
    all_three f c.in_ok-references.references (sym c.in_ok-references.ensures) c.in_ok-walls.walls
    (ap (section_at f) (sym c.end_of.ensures) ∙ sym c.in_ok-walls.ensures) c.in_ok-retired.retired (found_3 c)

-- and each ends in the file
inside_1 : (c : In_ok-references) → part_end c.in_ok-references.references ≤ length c.args.file.now
inside_1 c = found_inside c.args.file.now 0 c.in_ok-references.references (found_1 c)

inside_2 : (c : In_ok-walls) → part_end c.in_ok-walls.walls ≤ length c.args.file.now
inside_2 c = found_inside c.args.file.now (part_end c.in_ok-references.references) c.in_ok-walls.walls (found_2 c)

inside_3 : (c : In_ok-retired) → part_end c.in_ok-retired.retired ≤ length c.args.file.now
inside_3 c = found_inside c.args.file.now (part_end c.in_ok-walls.walls) c.in_ok-retired.retired (found_3 c)

pub returns-in_err-references : goal.returns-in_err-references
returns-in_err-references c =
    let p = err_from_is_err_and c.from_residual.result c.from_residual.ensures.1 in
    rw (p.1, p.2) (sym (reading_short c.args.file.now (short_references c.args.file.now (sym c.in_err-references.ensures))))

pub end_of-requires : goal.end_of-requires
end_of-requires c = omega (arith, inside_1 (goal.at.end_of-requires c).In_ok-references)

pub section_at-requires-2 : goal.section_at-requires-2
section_at-requires-2 c = omega (arith, inside_1 (goal.at.section_at-requires-2 c).In_ok-references, c.end_of.ensures)

pub returns-in_err-walls : goal.returns-in_err-walls
returns-in_err-walls c =
    let f = c.args.file.now in
    let one = found_1 (goal.at.returns-in_err-walls c).In_ok-references in
    let short = ap (section_at f) (sym c.end_of.ensures) ∙ sym c.in_err-walls.ensures in
    let p = err_from_is_err_and c.from_residual-in_err-walls.result c.from_residual-in_err-walls.ensures.1 in
    rw (p.1, p.2) (sym (reading_short f (short_walls f c.in_ok-references.references one short)))

pub end_of-requires-2 : goal.end_of-requires-2
end_of-requires-2 c = omega (arith, inside_2 (goal.at.end_of-requires-2 c).In_ok-walls)

pub section_at-requires-3 : goal.section_at-requires-3
section_at-requires-3 c = omega (arith, inside_2 (goal.at.section_at-requires-3 c).In_ok-walls, c.end_of-2.ensures)

pub returns-in_err-retired : goal.returns-in_err-retired
returns-in_err-retired c =
    let f = c.args.file.now in
    let one = found_1 (goal.at.returns-in_err-retired c).In_ok-references in
    let two = found_2 (goal.at.returns-in_err-retired c).In_ok-walls in
    let short = ap (section_at f) (sym c.end_of-2.ensures) ∙ sym c.in_err-retired.ensures in
    let p = err_from_is_err_and c.from_residual-in_err-retired.result c.from_residual-in_err-retired.ensures.1 in
    rw (p.1, p.2) (sym (reading_short f (short_retired f c.in_ok-references.references one c.in_ok-walls.walls two short)))

pub end_of-requires-3 : goal.end_of-requires-3
end_of-requires-3 c = omega (arith, inside_3 (goal.at.end_of-requires-3 c).In_ok-retired)

pub returns-then-end_of-file : goal.returns-then-end_of-file
returns-then-end_of-file c =
    sym (reading_left c.args.file.now _ (three (goal.at.returns-then-end_of-file c).In_ok-retired) (omega (arith, c.end_of-3.ensures)))

pub returns : goal.returns
returns c = sym (reading_whole c.args.file.now _ (three (goal.at.returns c).In_ok-retired) (omega (arith, c.end_of-3.ensures)))

-- `sheet::writing::write` meets its contract. Assumes nothing.
use Rattle.std.proofs.Common.{◌≤◌, ◌<◌, List, ℕ, true, false, length, refl, sym, ap, ◌∙◌, arith, lt-ltb, le-ltb}
use Rattle.std.proofs.lemmas.List.Edits.{sets}
use Rattle.jhash.specs.Outcome.{value, refusal}
use Rattle.sheet.specs.Format.{section_bytes, sheet_bytes}
use Rattle.sheet.specs.SheetWriting.{section_lists}
use Rattle.sheet.proofs.Sheets.{sized}
use Rattle.sheet.proofs.SheetStored.{most, writing_by, left, put_three}
use Rattle.sheet.proofs.writing.write.Goals as goal

pub returns-then-max-gt65535 : goal.returns-then-max-gt65535
returns-then-max-gt65535 c =
    let a = c.args in
    let l = section_lists a.references.now a.walls.now a.retired.now in
    let over : 65535 < most l = omega (arith, c.max.ensures, c.max-2.ensures) in
    let e = writing_by (length a.buf.now) l true _ (lt-ltb 65535 (most l) over) refl in
    record { answer = e; leaves = left a.buf.now l (refusal 21) e }

pub returns-then-buf-size : goal.returns-then-buf-size
returns-then-buf-size c =
    let a = c.args in
    let l = section_lists a.references.now a.walls.now a.retired.now in
    let fits : most l ≤ 65535 = omega (arith, c.max.ensures, c.max-2.ensures) in
    let e = writing_by (length a.buf.now) l false true (le-ltb 65535 (most l) fits)
    (lt-ltb (length a.buf.now) (length (sheet_bytes l)) (omega (arith, sized l))) in
    record { answer = e; leaves = left a.buf.now l (refusal 21) e }

pub returns : goal.returns
returns c =
    let a = c.args in
    let l = section_lists a.references.now a.walls.now a.retired.now in
    let room : length (sheet_bytes l) ≤ length a.buf.now = omega (arith, sized l, c.if-buf-size.false) in
    let fits : most l ≤ 65535 = omega (arith, c.max.ensures, c.max-2.ensures) in
    let e = writing_by (length a.buf.now) l false false (le-ltb 65535 (most l) fits) (le-ltb (length a.buf.now) (length (sheet_bytes l)) room) in
    let one = c.put_section-walls_at in
    let two = c.put_section-retired_at in
    record {
      answer = ap value (sym (sized l)) ∙ e;
      leaves =
          c.put_section.ensures.stored
          ∙ ap (λ (b : List ℕ). sets b two.result (section_bytes l.retired))
          (two.ensures.stored ∙ ap (λ (b : List ℕ). sets b one.result (section_bytes l.walls)) one.ensures.stored)
          ∙ put_three l a.buf.now one.result two.result one.ensures.end two.ensures.end room
          ∙ left a.buf.now l (value (length (sheet_bytes l))) e;
    }

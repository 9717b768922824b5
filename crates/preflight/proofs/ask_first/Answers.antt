-- `preflight::ask_first` meets its contract: one verdict after another. Assumes nothing.
use Rattle.std.proofs.Common.{refl, sym, ◌∙◌}
use Rattle.std.proofs.lemmas.Result.{err_from_is_err_and}
use Rattle.preflight.proofs.Answers.{objects, stops, goes_on, first_refused, first_is}
use Rattle.preflight.proofs.ask_first.Goals as goal

pub returns-then-not-is_whole : goal.returns-then-not-is_whole
returns-then-not-is_whole c =
    let a = c.args in first_refused a.new.now a.sheet.now a.round.now (sym c.if-not-is_whole.ensures)

pub returns-in_err-of_sheet : goal.returns-in_err-of_sheet
returns-in_err-of_sheet c =
    let a = c.args in
    let p = err_from_is_err_and c.from_residual.result c.from_residual.ensures.1 in
    rw (p.1, p.2)
    (stops _ _ _ c.in_err-of_sheet.ensures (objects _) ∙ first_is a.new.now a.sheet.now a.round.now (sym c.if-not-is_whole.ensures))

pub returns : goal.returns
returns c =
    let a = c.args in
    goes_on _ _ _ _ c.in_ok-of_sheet.ensures refl c.of_round.ensures
    ∙ first_is a.new.now a.sheet.now a.round.now (sym c.if-not-is_whole.ensures)

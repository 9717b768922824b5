-- `preflight::ask_all` meets its contract: one verdict after another. Assumes nothing.
use Rattle.std.proofs.Common.{refl, sym, ◌∙◌}
use Rattle.std.proofs.lemmas.Result.{err_from_is_err_and}
use Rattle.preflight.proofs.Answers.{objects, stops, goes_on, verdict_is}
use Rattle.preflight.proofs.ask_all.Goals as goal

pub returns-in_err-ask_first : goal.returns-in_err-ask_first
returns-in_err-ask_first c =
    let a = c.args in
    let p = err_from_is_err_and c.from_residual.result c.from_residual.ensures.1 in
    rw (p.1, p.2)
    (stops _ _ _ c.in_err-ask_first.ensures (objects _) ∙ verdict_is a.old.now a.new.now a.sheet.now a.round.now a.accepted.now)

pub returns : goal.returns
returns c =
    let a = c.args in
    goes_on _ _ _ _ c.in_ok-ask_first.ensures refl c.of_changes.ensures
    ∙ verdict_is a.old.now a.new.now a.sheet.now a.round.now a.accepted.now

-- `writer::check::check_consistent` meets its contract. Assumes nothing.
use Rattle.std.proofs.Common.{Ok, Err}
use Rattle.std.proofs.lemmas.Result.{err_from_is_err_and}
use Rattle.writer.specs.State.{state_with}
use Rattle.writer.proofs.Earlier.{consistent_by}
use Rattle.writer.proofs.check.check_consistent.Goals as goal

pub returns-in_err-contains_name : goal.returns-in_err-contains_name
returns-in_err-contains_name c =
    let a = c.args in
    let p = err_from_is_err_and c.from_residual.result c.from_residual.ensures.1 in
    rw (p.1, p.2) (consistent_by (state_with a.w.now a.counts.now a.buf.now) _ (Err _) c.in_err-contains_name.ensures)

pub returns : goal.returns
returns c =
    let a = c.args in
    consistent_by (state_with a.w.now a.counts.now a.buf.now) _ (Ok _) c.in_ok-contains_name.ensures

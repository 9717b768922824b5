-- `CQDBWriter::close` meets its contract. Assumes nothing.
use mathlib.Core.Path.{sym}
use Rattle.std.proofs.lemmas.Result.{err_from_is_err_and}
use Rattle.jhash.proofs.Outcomes.{number_some}
use Rattle.writer.specs.State.{state_with}
use Rattle.writer.proofs.Closes.{refused, written}
use Rattle.writer.proofs.CQDBWriter.close.Goals as goal

pub returns-in_err-check_close : goal.returns-in_err-check_close
returns-in_err-check_close c =
    let a = c.args in
    let t = refused (state_with a.self.now a.counts.now a.buf.now) _ c.in_err-check_close.ensures (number_some _) in
    let p = err_from_is_err_and c.from_residual.result c.from_residual.ensures.1 in
    record { answer = rw (p.1, p.2) t.0; leaves = t.1 }

pub returns : goal.returns
returns c =
    let a = c.args in
    let done = c.write_closed.ensures in
    let t = written (state_with a.self.now a.counts.now a.buf.now) c.write_closed.result _ (sym c.in_ok-check_close.ensures)
    done.gives done.leaves in
    record { answer = t.0; leaves = t.1 }

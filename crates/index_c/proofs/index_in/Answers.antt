-- `index_c::index_in` meets its contract: what `index` promises, of C's record. Assumes nothing.
use Rattle.std.proofs.lemmas.Result.{err_from_is_err_and}
use Rattle.writer.specs.CRecord.{record_in, lent_state}
use Rattle.index_c.proofs.IndexCalls.{read_known, index_unread, index_known}
use Rattle.index_c.proofs.index_in.Goals as goal

pub returns-in_err-w : goal.returns-in_err-w
returns-in_err-w c =
    let a = c.args in
    let p = err_from_is_err_and c.from_residual.result c.from_residual.ensures.1 in
    rw (p.1, p.2) (index_unread (lent_state a.numbers.now a.sizes.now a.counts.now a.buf.now) a.slots.now c.in_err-w.ensures)

pub returns : goal.returns
returns c =
    let a = c.args in
    let w = read_known (record_in a.numbers.now a.sizes.now) c.in_ok-w.ensures in
    index_known (lent_state a.numbers.now a.sizes.now a.counts.now a.buf.now) w.0 w.1 c.index.ensures

-- `index_c::put_indexed_in` meets its contract: what `put_indexed` promises, of C's record. Assumes nothing.
use Rattle.std.proofs.lemmas.Result.{err_from_is_err_and}
use Rattle.writer.specs.Put.{entry_of}
use Rattle.writer.specs.CRecord.{record_in, lent_state}
use Rattle.writer.proofs.CRecords.{record_stored}
use Rattle.index_c.proofs.IndexCalls.{read_known, put_unread, put_stored}
use Rattle.index_c.proofs.put_indexed_in.Goals as goal

pub returns-in_err-w : goal.returns-in_err-w
returns-in_err-w c = λ four two.
    let a = c.args in
    let p = err_from_is_err_and c.from_residual.result c.from_residual.ensures.1 in
    rw (p.1, p.2)
    (put_unread (lent_state a.numbers.now a.sizes.now a.counts.now a.buf.now) a.slots.now (entry_of a.name.now a.id) c.in_err-w.ensures)

pub returns : goal.returns
returns c = λ four two.
    let a = c.args in
    let w = read_known (record_in a.numbers.now a.sizes.now) c.in_ok-w.ensures in
    let done = c.put_indexed-answer in
    put_stored (lent_state a.numbers.now a.sizes.now a.counts.now a.buf.now) w.0 w.1 done.ensures
    (record_stored a.numbers.now a.sizes.now done.new.w four two)

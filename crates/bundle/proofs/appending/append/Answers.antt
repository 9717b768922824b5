-- `bundle::appending::append` meets its contract: the decision, then the effect. Assumes nothing.
use Rattle.std.proofs.Common.{sym, ◌∙◌, arith}
use Rattle.std.proofs.lemmas.Result.{err_from_is_err_and}
use Rattle.jhash.proofs.Outcomes.{number_some}
use Rattle.bundle.proofs.Appends.{passed, refused, accepted}
use Rattle.bundle.proofs.appending.append.Goals as goal

pub returns-in_err-check_append : goal.returns-in_err-check_append
returns-in_err-check_append c =
    let a = c.args in
    let h = refused a.buf.now a.file_len a.image.now _ c.in_err-check_append.ensures (number_some _) in
    let p = err_from_is_err_and c.from_residual.result c.from_residual.ensures.1 in
    rw (p.1, p.2) (record { answer = h.0; leaves = h.1 })

pub store_bytes-requires : goal.store_bytes-requires
store_bytes-requires c =
    let a = c.args in
    omega (arith, (passed a.buf.now a.file_len a.image.now (sym c.in_ok-check_append.ensures)).room)

pub overflow_add-result : goal.overflow_add-result
overflow_add-result c =
    let a = c.args in
    omega (arith, (passed a.buf.now a.file_len a.image.now (sym c.in_ok-check_append.ensures)).room)

pub returns : goal.returns
returns c =
    let a = c.args in
    let done = accepted a.buf.now a.file_len a.image.now (sym c.in_ok-check_append.ensures) in
    record { answer = done.0; leaves = c.store_bytes.ensures ∙ done.1 }

-- `reader_c::layout::cqdb_table` meets its contract. Assumes nothing.
use Rattle.std.proofs.Common.{true, false, length, refl, ◌∙◌, arith, lt-ltb}
use Rattle.reader.proofs.Images.{headed}
use Rattle.reader_c.specs.LayoutAnswers.{table_answer}
use Rattle.reader_c.proofs.Places.{table_by}
use Rattle.reader_c.proofs.layout.cqdb_table.Goals as goal

pub returns-in_default : goal.returns-in_default
returns-in_default c =
    let a = c.args in
    table_by a.image.now a.hash true _ (lt-ltb (length a.image.now) 2072 c.in_default.ensures) refl

pub returns-then-table-eq0 : goal.returns-then-table-eq0
returns-then-table-eq0 c =
    let a = c.args in
    table_by c.in-Some.image.bytes.now a.hash false true (headed c.in-Some.image) (c.table-table.ensures.unread c.if-table-eq0.true)
    ∙ (λ i. table_answer (c.in-Some.ensures i).now a.hash)

pub returns : goal.returns
returns c =
    let a = c.args in
    let table = c.table-table.ensures.table (omega (arith, c.if-table-eq0.false)) in
    (λ i. record { buckets = table.number i; start = table.offset i })
    ∙ table_by c.in-Some.image.bytes.now a.hash false false (headed c.in-Some.image) table.searched
    ∙ (λ i. table_answer (c.in-Some.ensures i).now a.hash)

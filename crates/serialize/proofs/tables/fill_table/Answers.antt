-- `serialize::tables::fill_table` meets its contract. Assumes nothing.
use Rattle.std.proofs.Common.{arith}
use Rattle.serialize.proofs.TableFill.{table_none, table_left, table_filled_lem}
use Rattle.serialize.proofs.tables.fill_table.Goals as goal

pub returns-then-c-eq0 : goal.returns-then-c-eq0
returns-then-c-eq0 c =
    let a = c.args in
    table_none a.buf.now a.end a.o a.c c.if-c-eq0.true

pub returns-then-buf-o : goal.returns-then-buf-o
returns-then-buf-o c =
    let a = c.args in
    table_left a.buf.now a.end a.o a.c c.if-buf-o.true

pub returns : goal.returns
returns c =
    let a = c.args in
    table_filled_lem a.buf.now a.end a.o a.c (omega (arith, c.if-buf-o.false)) c.copy_pairs.ensures c.insert_pairs.ensures

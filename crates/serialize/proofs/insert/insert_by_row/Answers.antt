-- `serialize::insert::insert_by_row` meets its contract. Assumes nothing.
use Rattle.serialize.proofs.Insertion.{table_in, row_none, row_inserted}
use Rattle.serialize.proofs.insert.insert_by_row.Goals as goal

pub returns-then-not-holds_table : goal.returns-then-not-holds_table
returns-then-not-holds_table c =
    let a = c.args in
    row_none a.buf.now a.h a.at c.of-table.ensures.offset.is
    c.of-table.ensures.buckets.is c.holds_table.ensures a.end c.if-not-holds_table.true

pub returns : goal.returns
returns c =
    let a = c.args in
    row_inserted a.buf.now a.h a.at c.of-table.ensures.offset.is
    c.of-table.ensures.buckets.is c.holds_table.ensures
    a.end c.if-not-holds_table.false c.insert_pair.ensures

pub insert_pair-requires : goal.insert_pair-requires
insert_pair-requires c = table_in c.holds_table.ensures c.if-not-holds_table.false c.requires

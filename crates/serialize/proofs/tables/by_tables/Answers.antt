-- `serialize::tables::by_tables` meets its contract. Assumes nothing.
use Rattle.serialize.proofs.WriteSteps.{by_tables_few, by_tables_many}
use Rattle.serialize.proofs.tables.by_tables.Goals as goal

pub returns-then-entries-lt-FEW_ENTRIES : goal.returns-then-entries-lt-FEW_ENTRIES
returns-then-entries-lt-FEW_ENTRIES c = by_tables_few c.args.counts.now c.args.entries c.if-entries-lt-FEW_ENTRIES.true

pub returns : goal.returns
returns c =
    let a = c.args in
    by_tables_many a.counts.now a.entries c.none_above.result c.if-entries-lt-FEW_ENTRIES.false c.none_above.ensures

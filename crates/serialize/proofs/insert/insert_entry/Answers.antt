-- `serialize::insert::insert_entry` meets its contract. Assumes nothing.
use Rattle.serialize.proofs.Insertion.{entry_inserted_lem}
use Rattle.serialize.proofs.insert.insert_entry.Goals as goal

pub returns : goal.returns
returns c =
    let a = c.args in
    entry_inserted_lem a.mode a.back_offset a.buf.now a.end a.at a.n c.word_or_zero-id.ensures c.entry_hash-h.ensures
    c.insert_by_row-met.ensures c.store_back.ensures

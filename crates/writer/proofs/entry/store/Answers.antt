-- `writer::entry::store` meets its contract. Assumes nothing.
use lib.ListN.{length-set}
use native.Mathlib.Omega.{arith}
use Rattle.writer.proofs.EntryStored.{stored_parts}
use Rattle.writer.proofs.entry.store.Goals as goal

pub shape_of-buf : goal.shape_of-buf
shape_of-buf c =
    simp length-set (omega (arith, c.store_bytes.auto, c.store_word-2.auto, c.store_word.auto))

pub returns : goal.returns
returns c =
    let a = c.args in
    stored_parts a.name.now a.buf.now _ _ _ a.at a.id c.store_word.ensures
    c.store_word-2.ensures c.store_bytes.ensures

-- `serialize::insert::store_pair` meets its contract. Assumes nothing.
use Rattle.serialize.proofs.Insertion.{pair_stored}
use Rattle.serialize.proofs.insert.store_pair.Goals as goal

pub returns : goal.returns
returns c =
    let a = c.args in
    let of-first = c.store_word in
    pair_stored a.buf.now of-first.new.buf c.store_word-2.new.buf a.at a.h a.offset of-first.ensures
    c.store_word-2.ensures

-- `serialize::head::write_head` meets its contract. Assumes nothing.
use Rattle.serialize.proofs.HeadStores.{head_stored}
use Rattle.serialize.proofs.head.write_head.Goals as goal

pub returns : goal.returns
returns c =
    let a = c.args in
    head_stored a.buf.now a.size a.flag a.back a.back_offset c.store_word_clipped.ensures
    c.store_word_clipped-2.ensures c.store_word_clipped-3.ensures
    c.store_word_clipped-4.ensures c.store_word_clipped-5.ensures c.store_word_clipped-6.ensures

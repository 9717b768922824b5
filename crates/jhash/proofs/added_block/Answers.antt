-- `jhash::added_block` meets its contract. Assumes nothing.
use Rattle.jhash.proofs.Mixing.{words_added}
use Rattle.jhash.proofs.added_block.Goals as goal

pub returns : goal.returns
returns c =
    let a = c.args in
    words_added a.w a.s.now
    c.word.ensures
    c.word-2.ensures
    c.word-3.ensures
    c.plus.ensures

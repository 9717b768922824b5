-- `jhash::word::word` meets its contract. Assumes nothing.
use Rattle.jhash.proofs.WordRead.{word_of}
use Rattle.jhash.proofs.word.word.Goals as goal

pub returns : goal.returns
returns c =
    let a = c.args in
    let first = c.byte_as_word in
    let second = c.byte_as_word-2 in
    let third = c.byte_as_word-3 in
    word_of a.s.now a.at _ _ _ _ first.ensures.is second.ensures.is third.ensures.is c.byte_as_word-4.ensures.is

-- `jhash::word::word_near_end` meets its contract. Assumes nothing.
use Rattle.std.proofs.Common.{sym, arith}
use Rattle.jhash.proofs.WordRead.{word_past, word_short}
use Rattle.jhash.proofs.word.word_near_end.Goals as goal

pub returns-then-s-at : goal.returns-then-s-at
returns-then-s-at c = sym (word_past c.args.s.now c.args.at c.if-s-at.true)

pub returns : goal.returns
returns c =
    let a = c.args in
    let first = c.byte_as_word in
    let second = c.byte_or_zero in
    word_short a.s.now a.at _ _ _ (omega arith) first.ensures.is second.ensures.is c.byte_or_zero-2.ensures.is

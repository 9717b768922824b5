-- `jhash::added_tail` meets its contract: a word past the end is 0. Assumes nothing.
use Rattle.std.proofs.Common.{sym, arith}
use Rattle.jhash.proofs.WordRead.{word_past}
use Rattle.jhash.proofs.Mixing.{words_added}
use Rattle.jhash.proofs.added_tail.Goals as goal

pub returns-then-s-ge8 : goal.returns-then-s-ge8
returns-then-s-ge8 c =
    let a = c.args in
    let first = c.word in
    let second = c.word-then-s-ge8 in
    words_added a.w a.s.now first.ensures second.ensures c.word_near_end.ensures c.plus.ensures

pub returns-then-s-ge4 : goal.returns-then-s-ge4
returns-then-s-ge4 c =
    let a = c.args in
    let s = a.s.now in
    words_added a.w s c.word-then-s-ge4.ensures c.word_near_end-then-s-ge4.ensures (sym (word_past s 8 (omega arith))) c.plus-then-s-ge4.ensures

pub returns : goal.returns
returns c =
    let a = c.args in
    let s = a.s.now in
    words_added a.w s c.word_near_end-2.ensures (sym (word_past s 4 (omega arith))) (sym (word_past s 8 (omega arith))) c.plus-2.ensures

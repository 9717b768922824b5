-- `jhash::jhash` meets its contract. Assumes nothing.
use Rattle.jhash.proofs.Limit.{refuses, short, hashes}
use Rattle.jhash.proofs.jhash.Goals as goal

pub returns-then-too_long : goal.returns-then-too_long
returns-then-too_long c =
    let a = c.args in
    refuses a.name.now a.initval c.too_long.result c.too_long.ensures c.if-too_long.true

pub initial_word-requires : goal.initial_word-requires
initial_word-requires c =
    let a = c.args in
    short a.name.now a.initval c.too_long.result c.too_long.ensures c.if-too_long.false

pub returns : goal.returns
returns c =
    let a = c.args in
    hashes a.name.now a.initval c.too_long.result c.too_long.ensures c.if-too_long.false
    c.initial_word.result c.hash_from.result c.initial_word.ensures c.hash_from.ensures

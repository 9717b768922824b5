-- `jhash::name_hash` meets its contract. Assumes nothing.
use Rattle.jhash.proofs.Limit.{refuses, short, hashes}
use Rattle.jhash.proofs.name_hash.Goals as goal

pub returns-then-too_long : goal.returns-then-too_long
returns-then-too_long c = refuses c.args.name.now 0 c.too_long.result c.too_long.ensures c.if-too_long.true

pub initial_word-requires : goal.initial_word-requires
initial_word-requires c = short c.args.name.now 0 c.too_long.result c.too_long.ensures c.if-too_long.false

pub returns : goal.returns
returns c =
    hashes c.args.name.now 0 c.too_long.result
    c.too_long.ensures c.if-too_long.false c.initial_word.result c.hash_from.result
    c.initial_word.ensures c.hash_from.ensures

-- `image::entries::broken` meets its contract. Assumes nothing.
use Rattle.image.proofs.Unbroken.{broken_short, broken_rest}
use Rattle.std.proofs.Common.{rules}
use Rattle.image.proofs.entries.broken.Goals as goal

pub returns-then-image-start : goal.returns-then-image-start
returns-then-image-start c = broken_short c.args.image.now c.args.at c.if-image-start.true

pub returns : goal.returns
returns c =
    let a = c.args in
    broken_rest a.image.now a.at c.word.result c.less_one.result c.if-image-start.false (search rules)
    c.word.ensures c.less_one.ensures

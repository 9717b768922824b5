-- `image::word_or_zero` meets its contract. Assumes nothing.
use Rattle.std.proofs.Common.{sym}
use Rattle.jhash.proofs.WordRead.{word_past}
use Rattle.image.proofs.word_or_zero.Goals as goal

pub returns-then-s-at : goal.returns-then-s-at
returns-then-s-at c = let a = c.args in sym (word_past a.s.now a.at c.if-s-at.true)

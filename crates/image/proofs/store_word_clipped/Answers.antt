-- `image::store_word_clipped` meets its contract. Assumes nothing.
use Rattle.image.proofs.Words.{sets_past}
use Rattle.image.specs.Bytes.{le32}
use Rattle.std.proofs.Common.{sym}
use Rattle.image.proofs.store_word_clipped.Goals as goal

pub returns-then-buf-at : goal.returns-then-buf-at
returns-then-buf-at c =
    let a = c.args in
    sym (sets_past (le32 a.v) a.buf.now a.at c.if-buf-at.true)

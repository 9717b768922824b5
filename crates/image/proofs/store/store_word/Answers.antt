-- `image::store::store_word` meets its contract. Assumes nothing.
use Rattle.image.proofs.Words.{stored}
use Rattle.std.proofs.Common.{arith, length-set}
use Rattle.image.proofs.store.store_word.Goals as goal

pub bounds-buf-at-2 : goal.bounds-buf-at-2
bounds-buf-at-2 c = simp length-set (omega arith)

pub bounds-buf-at-3 : goal.bounds-buf-at-3
bounds-buf-at-3 c = simp length-set (omega arith)

pub bounds-buf-at-4 : goal.bounds-buf-at-4
bounds-buf-at-4 c = simp length-set (omega arith)

pub returns : goal.returns
returns c = stored c.args.buf.now c.args.at c.args.v

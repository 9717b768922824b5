-- `image::store_byte_clipped` meets its contract. Assumes nothing.
use lib.Seq.{set_out}
use Rattle.std.proofs.Common.{sym}
use Rattle.image.proofs.store_byte_clipped.Goals as goal

pub returns-else-at-buf : goal.returns-else-at-buf
returns-else-at-buf c = sym (set_out c.args.buf.now c.args.at c.args.b c.if-at-buf.false)

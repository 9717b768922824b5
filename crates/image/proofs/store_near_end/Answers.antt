-- `image::store_near_end` meets its contract. Assumes nothing.
use Rattle.image.proofs.Words.{stored}
use Rattle.std.proofs.Common.{◌≡◌, ◌+◌, ◌/◌, ◌%◌, set, ◌∙◌}
use Rattle.image.proofs.store_near_end.Goals as goal

pub returns : goal.returns
returns c =
    let a = c.args in
    let e : c.store_byte_clipped-4.new.buf
    ≡ set (set (set (set a.buf.now a.at (a.v % 256)) (a.at + 1) (a.v / 256 % 256)) (a.at + 2) (a.v / 65536 % 256)) (a.at + 3)
    (a.v / 16777216 % 256)
    = cc in
    e ∙ stored a.buf.now a.at a.v

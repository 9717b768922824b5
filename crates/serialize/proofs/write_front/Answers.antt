-- `serialize::write_front` meets its contract. Assumes nothing.
use Rattle.std.proofs.Common.{arith}
use Rattle.serialize.proofs.WriteSteps.{back_offset_le, headed_parts}
use Rattle.serialize.proofs.write_front.Goals as goal

-- the back offset is a word
pub overflow_cast-back_offset : goal.overflow_cast-back_offset
overflow_cast-back_offset c =
    let a = c.args in
    omega (arith, c.back_offset-back_offset.ensures, back_offset_le a.mode a.end a.entries a.back, c.requires.fits_word)

pub write_rows-requires : goal.write_rows-requires
write_rows-requires c =
    omega (arith, c.write_head.auto.buf, c.requires.low, c.requires.fits_buffer)

pub returns : goal.returns
returns c =
    let a = c.args in
    let of-write-rows = c.write_rows in
    let of-write-head = c.write_head in
    let of-flag-word = c.from in
    let of-back-at = c.back_offset-back_offset in
    let of-back-in = c.back_in-back_size in
    let of-finished-size = c.finished_size-size in
    record {
      front = headed_parts a.mode a.end a.entries a.back a.counts.now a.buf.now
          of-write-head.new.buf of-write-rows.new.buf
          of-finished-size.result of-flag-word.result of-back-in.result of-back-at.result
          of-finished-size.ensures of-flag-word.ensures of-back-in.ensures of-back-at.ensures
          of-write-head.ensures of-write-rows.ensures.rows;
      begins = of-write-rows.ensures.begins;
    }

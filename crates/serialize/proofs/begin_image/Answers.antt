-- `serialize::begin_image` meets its contract. Assumes nothing.
use Rattle.std.proofs.Common.{arith}
use Rattle.serialize.proofs.WriteSteps.{begun_parts}
use Rattle.serialize.proofs.begin_image.Goals as goal

pub clear_bytes-requires : goal.clear_bytes-requires
clear_bytes-requires c =
    let size = c.finished_size-size.ensures in
    record { order = omega (arith, size); inside = omega (arith, size, c.requires.fits_buffer, c.write_front.auto.buf) }

pub returns : goal.returns
returns c =
    let a = c.args in
    record {
      image = begun_parts a.mode a.end a.entries a.back a.counts.now a.buf.now
          c.write_front.ensures.front c.finished_size-size.ensures
          c.clear_bytes.ensures;
      begins = c.write_front.ensures.begins;
    }

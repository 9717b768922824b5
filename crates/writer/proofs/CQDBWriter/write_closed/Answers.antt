-- `CQDBWriter::write_closed` meets its contract. Assumes nothing.
use native.Mathlib.Omega.{arith}
use mathlib.Core.Path.{ap}
use Rattle.writer.specs.State.{State, state_with}
use Rattle.writer.proofs.Accepted.{stands, closes_image}
use Rattle.writer.proofs.Closes.{accepted}
use Rattle.writer.proofs.CQDBWriter.write_closed.Goals as goal

pub finished_size-size-requires : goal.finished_size-size-requires
finished_size-size-requires c =
    let a = c.args in
    let k = accepted (state_with a.self.now a.counts.now a.buf.now) c.requires in
    omega (arith, (stands a.self.now a.counts.now a.buf.now k.fit k.fine k.all).fits_word)

pub write_image-requires : goal.write_image-requires
write_image-requires c =
    let a = c.args in
    let k = accepted (state_with a.self.now a.counts.now a.buf.now) c.requires in
    stands a.self.now a.counts.now a.buf.now k.fit k.fine k.all

pub overflow_cast-result : goal.overflow_cast-result
overflow_cast-result c =
    let a = c.args in
    let k = accepted (state_with a.self.now a.counts.now a.buf.now) c.requires in
    let asked = stands a.self.now a.counts.now a.buf.now k.fit k.fine k.all in
    omega (arith, c.finished_size-size.ensures, asked.fits_word)

pub returns : goal.returns
returns c =
    let a = c.args in
    let k = accepted (state_with a.self.now a.counts.now a.buf.now) c.requires in
    record {
      gives = c.finished_size-size.ensures;
      leaves =
          ap (λ (t : State). t.buffer)
          (closes_image a.self.now a.counts.now a.buf.now k.fit k.fine k.all _ c.write_image.ensures.leaves);
    }

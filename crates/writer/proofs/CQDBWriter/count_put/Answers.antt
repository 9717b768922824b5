-- `CQDBWriter::count_put` meets its contract. Assumes nothing.
use Prim.Native.Nat.{◌+◌, ◌*◌, ◌≤◌}
use Rattle.image.specs.Image.{back_in}
use Rattle.writer.specs.Put.{back_after}
use Rattle.writer.proofs.Fits.{back_after_fits}
use native.Mathlib.Omega.{arith}
use Rattle.writer.specs.Put.{writer_after_put}
use Rattle.writer.proofs.CQDBWriter.count_put.Goals as goal

pub overflow_add-self : goal.overflow_add-self
unfolding writer_after_put
overflow_add-self c = omega arith

pub overflow_add-self-2 : goal.overflow_add-self-2
unfolding writer_after_put
overflow_add-self-2 c = omega arith

pub overflow_add-self-3 : goal.overflow_add-self-3
unfolding writer_after_put
overflow_add-self-3 c = omega arith

pub overflow_cast-self : goal.overflow_cast-self
unfolding writer_after_put
overflow_cast-self c =
    let a = c.args in
    let k : 4 * back_in a.self.now.mode (back_after a.self.now.mode a.self.now.back a.id) ≤ 4294967295 = omega arith in
    let f = back_after_fits a.self.now.mode a.self.now.back a.id (omega arith) k in
    omega (arith, c.back_after.ensures)

pub returns : goal.returns
unfolding writer_after_put
returns c =
    let w = c.args.self.now in
    let n = c.args.n in
    λ i. record {
      mode = w.mode;
      repeats = w.repeats;
      length = w.length;
      end = w.end + (n + 9);
      entries = w.entries + 1;
      back = c.back_after.ensures i;
    }

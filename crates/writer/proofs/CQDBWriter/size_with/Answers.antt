-- `CQDBWriter::size_with` meets its contract. Assumes nothing.
use Prim.Native.Nat.{ℕ, ◌+◌, ◌*◌}
use mathlib.Core.Path.{◌≡◌, ap, ◌∙◌}
use Rattle.image.specs.Image.{back_in}
use Rattle.writer.specs.Put.{back_after, writer_after_put}
use Rattle.writer.proofs.CQDBWriter.size_with.Goals as goal

pub returns : goal.returns
unfolding writer_after_put
returns c =
    let a = c.args in
    let e : c.back_in-back.result ≡ back_in a.self.now.mode (back_after a.self.now.mode a.self.now.back a.id) =
    c.back_in-back.ensures ∙ ap (λ (k : ℕ). back_in a.self.now.mode k) c.back_after.ensures in
    ap (λ (k : ℕ). a.self.now.end + (a.n + 9) + 16 * (a.self.now.entries + 1) + 4 * k) e

-- `sheet::writing::put_section` meets its contract. Assumes nothing.
use Prim.Native.Nat.{ℕ, ◌+◌}
use native.Mathlib.Omega.{arith}
use mathlib.Core.Path.{refl, ap, ◌∙◌}
use mathlib.Core.List.{List}
use lib.ListN.{length, length-set}
use lib.Seq.{sets}
use Rattle.sheet.specs.Format.{id_bytes}
use Rattle.sheet.proofs.SheetStored.{put_count, put_whole}
use Rattle.sheet.proofs.writing.put_section.Goals as goal

pub bounds-buf-at-2 : goal.bounds-buf-at-2
bounds-buf-at-2 c = simp length-set (omega arith)

pub shape_of-buf : goal.shape_of-buf
shape_of-buf c = c.put_ids.auto.buf ∙ simp length-set

pub returns : goal.returns
returns c =
    let a = c.args in
    let ids = a.ids.now in
    record {
      end = refl;
      stored =
          c.put_ids.ensures
          ∙ ap (λ (b : List ℕ). sets b (a.at + 2) (id_bytes ids)) (put_count a.buf.now a.at (length ids))
          ∙ put_whole ids a.buf.now a.at;
    }

-- `sheet::reading::id_at` meets its contract. Assumes nothing.
use Prim.Native.Nat.{◌/◌}
use native.Mathlib.Omega.{arith}
use mathlib.Core.Path.{sym, ◌∙◌}
use lib.ListN.{length}
use Rattle.sheet.proofs.CountsAndIds.{ids_at, no_id}
use Rattle.sheet.proofs.reading.id_at.Goals as goal

pub returns-then-i-part : goal.returns-then-i-part
returns-then-i-part c =
    let a = c.args in
    c.word_or_zero.ensures ∙ sym (ids_at (length a.part.now / 4) a.part.now a.i (omega arith))

pub returns-else-i-part : goal.returns-else-i-part
returns-else-i-part c =
    let a = c.args in
    sym (no_id (length a.part.now / 4) a.part.now a.i (omega arith))

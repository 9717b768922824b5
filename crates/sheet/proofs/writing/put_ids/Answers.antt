-- `sheet::writing::put_ids` meets its contract. Assumes nothing.
use Rattle.std.proofs.Common.{◌+◌, ◌*◌, List, ℕ, drop, sym, ap, ◌∙◌, arith}
use native.Mathlib.Nat.{add-zero, mul-zero}
use Rattle.std.proofs.lemmas.List.Edits.{sets}
use Rattle.sheet.specs.Format.{id_bytes}
use Rattle.sheet.proofs.SheetStored.{put_turn, put_end}
use Rattle.sheet.proofs.writing.put_ids.Goals as goal

pub loop-i-init : goal.loop-i-init
loop-i-init c = simp (mul-zero, add-zero)

pub loop-i-preserved : goal.loop-i-preserved
loop-i-preserved c =
    let a = c.args in
    ap (λ (b : List ℕ). sets b (a.at + 4 * (c.loop-i.i + 1)) (id_bytes (drop (c.loop-i.i + 1) a.ids.now))) c.store_word_clipped.ensures
    ∙ put_turn a.ids.now c.loop-i.buf a.at c.loop-i.i c.loop-i-test.true
    ∙ c.loop-i.invariant

pub returns : goal.returns
returns c =
    let a = c.args in
    sym (put_end a.ids.now c.loop-i.buf a.at c.loop-i.i (omega arith) (a.at + 4 * c.loop-i.i)) ∙ c.loop-i.invariant

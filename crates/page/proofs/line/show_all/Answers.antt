-- `page::line::show_all` meets its contract. Assumes nothing.
use Rattle.std.proofs.Common.{◌+◌, sym, ◌∙◌, arith}
use native.Mathlib.Nat.{add-zero}
use Rattle.page.specs.Page.{shown}
use Rattle.page.proofs.PageStores.{map_turn, map_end}
use Rattle.page.proofs.line.show_all.Goals as goal

pub loop-j-init : goal.loop-j-init
loop-j-init c = simp add-zero

pub loop-j-preserved : goal.loop-j-preserved
loop-j-preserved c =
    let a = c.args in
    map_turn shown a.bytes.now c.loop-j.out a.at c.loop-j.j c.show.result c.loop-j-test.true c.show.ensures ∙ c.loop-j.invariant

pub returns : goal.returns
returns c =
    let a = c.args in
    sym (map_end shown a.bytes.now c.loop-j.out (a.at + c.loop-j.j) c.loop-j.j (omega arith)) ∙ c.loop-j.invariant

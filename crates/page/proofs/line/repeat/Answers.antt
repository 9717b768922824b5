-- `page::line::repeat` meets its contract. Assumes nothing.
use Rattle.std.proofs.Common.{◌≡◌, ◌+◌, ◌-◌, ℕ, length, take, drop, replicate, ap, ◌∙◌, arith, length-take, length-drop, rules}
use lib.ListN.{length-replicate}
use Rattle.page.proofs.PageStores.{part_stored}
use Rattle.page.proofs.line.repeat.Goals as goal

pub returns : goal.returns
returns c =
    let a = c.args in
    let n : a.at + 32 - a.at ≡ 32 = omega arith in
    let long : length (take (a.at + 32 - a.at) (drop a.at a.out.now)) ≡ 32 = simp (length-take, length-drop) (omega arith) in
    part_stored a.at (a.at + 32 - a.at) a.out.now _ (replicate 32 a.b) (omega arith) (length-replicate 32 a.b ∙ omega arith)
    (c.fill.ensures.after (λ y e. search rules) ∙ ap (λ (m : ℕ). replicate m a.b) long)

-- `serialize::head::clear_bytes` meets its contract. Assumes nothing.
use Rattle.std.proofs.Common.{◌≡◌, ℕ, ◌-◌, length, take, drop, replicate, ap, ◌∙◌, arith, length-take, length-drop, rules}
use lib.ListN.{length-replicate}
use Rattle.serialize.proofs.HeadStores.{part_stored}
use Rattle.serialize.proofs.head.clear_bytes.Goals as goal

pub returns : goal.returns
returns c =
    let a = c.args in
    let n = a.to - a.from in
    let long : length (take n (drop a.from a.buf.now)) ≡ n = simp (length-take, length-drop) (omega arith) in
    part_stored a.from n a.buf.now _ (replicate n 0) (omega arith) (length-replicate n 0)
    (c.fill.ensures.after (λ y e. search rules) ∙ ap (λ (m : ℕ). replicate m 0) long)

-- `image::zero::length_before_zero` meets its contract. Assumes nothing.
use Rattle.std.proofs.Common.{◌≡◌, sym, ◌∙◌, arith, rules}
use Rattle.std.proofs.lemmas.Iterator.{IsFirst-from_position, YieldsList-from_slice}
use borrow.Author.Tests.{tests}
use Rattle.image.proofs.Zeros.{first_zero, before_short}
use Rattle.image.proofs.zero.length_before_zero.Goals as goal

pub returns : goal.returns
returns c =
    let name = c.args.name.now in
    let first = IsFirst-from_position _ _ _ (λ x. x ≡ 0) (λ x. x ≡ 0 → ⊥) c.position.ensures.ran (YieldsList-from_slice name cc)
    (λ x q k. search (rules, tests)) (λ x q k. search (rules, tests)) in
    let e = c.unwrap_or.ensures ∙ sym (first_zero name c.position.result first) in
    record { is = e; most = omega (arith, e, before_short name) }

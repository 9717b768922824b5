-- `order::references_first` meets its contract. Assumes nothing.
use Rattle.std.proofs.Common.{◌≡◌, true, false, rules}
use Rattle.std.proofs.lemmas.Iterator.{IsFirst-from_position, YieldsList-from_slice}
use borrow.Author.Tests.{tests}
use Rattle.order.specs.Rule.{kept}
use Rattle.order.proofs.PairLaws.{by_first}
use Rattle.order.proofs.references_first.Goals as goal

pub returns : goal.returns
returns c =
    let a = c.args in
    by_first a.round.now a.pairs.now c.position.result
    (IsFirst-from_position _ _ c.position.result (λ p. kept p a.round.now ≡ false) (λ p. kept p a.round.now ≡ true)
    c.position.ensures.ran (YieldsList-from_slice a.pairs.now cc) (λ x q k. search (rules, tests)) (λ x q k. search (rules, tests)))

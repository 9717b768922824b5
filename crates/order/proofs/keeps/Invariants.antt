-- `order::keeps` meets its contract. The loop's invariant: what is left of the round decides as the whole round does.
use Rattle.std.proofs.Common.{◌≡◌, drop}
use Rattle.order.specs.Rule.{kept}
use Rattle.order.proofs.keeps.Given as goal

abbrev pub invariant-loop-id : goal.invariant-loop-id
invariant-loop-id l = kept l.p (drop l.id-index l.round) ≡ kept l.p l.round

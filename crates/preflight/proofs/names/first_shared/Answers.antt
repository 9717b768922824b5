-- `preflight::names::first_shared` meets its contract. Assumes nothing.
use Rattle.std.proofs.Common.{refl, sym, ◌∙◌}
use Rattle.preflight.proofs.Walks.{shared_turn, shared_end}
use Rattle.preflight.proofs.names.first_shared.Goals as goal

pub loop-place-init : goal.loop-place-init
loop-place-init c = refl

pub returns-in-Some : goal.returns-in-Some
returns-in-Some c = shared_turn _ _ _ _ c.loop-place-test.true c.in-Some.ensures ∙ c.loop-place.invariant

pub loop-place-preserved : goal.loop-place-preserved
loop-place-preserved c = shared_turn _ _ _ _ c.loop-place-test.true c.in_default.ensures ∙ c.loop-place.invariant

pub returns : goal.returns
returns c = sym (shared_end _ _ _ c.loop-place-test.false) ∙ c.loop-place.invariant

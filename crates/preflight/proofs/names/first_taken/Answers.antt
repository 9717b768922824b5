-- `preflight::names::first_taken` meets its contract. Assumes nothing.
use Rattle.std.proofs.Common.{refl, sym, ◌∙◌}
use Rattle.preflight.proofs.Walks.{taken_turn, taken_end, taken_start}
use Rattle.preflight.proofs.names.first_taken.Goals as goal

pub loop-id-init : goal.loop-id-init
loop-id-init c = taken_start c.args.old.now _ _ c.iter.ensures c.size_hint-end.ensures _ _

pub returns-in-Some : goal.returns-in-Some
returns-in-Some c = taken_turn _ _ _ _ _ _ c.loop-id-test.true c.in-Some.ensures ∙ c.loop-id.invariant

pub loop-id-preserved : goal.loop-id-preserved
loop-id-preserved c = taken_turn _ _ _ _ _ _ c.loop-id-test.true c.in_default.ensures ∙ c.loop-id.invariant

pub returns : goal.returns
returns c = sym (taken_end _ _ _ _ _ c.loop-id-test.false) ∙ c.loop-id.invariant

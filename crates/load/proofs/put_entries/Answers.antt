-- `load::put_entries` meets its contract: what is left to be put makes of what was put what the whole load leaves. Assumes nothing.
use Prim.Native.Nat.{ℕ}
use native.Mathlib.Omega.{arith}
use native.Mathlib.Numerals.{add-one}
use mathlib.Core.Path.{◌≡◌, refl, sym, ap, ◌∙◌}
use Rattle.jhash.specs.Outcome.{refusal_of}
use Rattle.jhash.proofs.Outcomes.{accepted_ok, refused_err}
use Rattle.writer.specs.State.{state_with}
use Rattle.writer.specs.Put.{entry_of}
use Rattle.load.specs.States.{next_state, state_after, load_entry}
use Rattle.load.proofs.PutTurns.{entry_is, turn_goes_on, turn_ends, all_put}
use Rattle.load.proofs.put_entries.Goals.{After-state_name-name}
use Rattle.load.proofs.put_entries.Goals as goal

pub loop-i-init : goal.loop-i-init
unfolding state_after
loop-i-init c = record { state_is = refl; whole = refl }

entry_here : (c : After-state_name-name) → entry_of c.state_name-name.result c.loop-i.i ≡ load_entry c.args.seed c.loop-i.i
entry_here c =
    entry_is c.args.seed c.loop-i.i c.loop-i.state c.stepped-next.result c.state_name-name.result c.loop-i.invariant.state_is
    c.stepped-next.ensures c.state_name-name.ensures

pub returns-then-is_err : goal.returns-then-is_err
returns-then-is_err c =
    turn_ends c.args.seed c.loop-i.i (refusal_of c.put.result) (state_with c.loop-i.w c.loop-i.counts c.loop-i.buf) _ _
    (entry_here (goal.at.returns-then-is_err c).After-state_name-name) (c.put.ensures.answer, c.put.ensures.leaves)
    (omega arith) (refused_err c.put.result (sym c.is_err.ensures.value ∙ c.if-is_err.true))
    ∙ c.loop-i.invariant.whole

pub loop-i-preserved : goal.loop-i-preserved
unfolding state_after
loop-i-preserved c =
    record {
      state_is =
          c.stepped-next.ensures ∙ ap (λ (x : ℕ). next_state x) c.loop-i.invariant.state_is ∙ ap (state_after c.args.seed) (sym (add-one c.loop-i.i));
      whole =
          turn_goes_on c.args.seed c.loop-i.i (refusal_of c.put.result) (state_with c.loop-i.w c.loop-i.counts c.loop-i.buf) _ _
          (entry_here (goal.at.loop-i-preserved c).After-state_name-name) (c.put.ensures.answer, c.put.ensures.leaves)
          (omega arith) (accepted_ok c.put.result (sym c.is_err.ensures.value ∙ c.if-is_err.false))
          ∙ c.loop-i.invariant.whole;
    }

pub returns : goal.returns
returns c =
    sym (all_put c.args.seed c.loop-i.i (state_with c.loop-i.w c.loop-i.counts c.loop-i.buf) (omega arith)) ∙ c.loop-i.invariant.whole

-- `load::put_entries` meets its contract: what is left to be put makes of what was put what the whole load leaves. Assumes nothing.
use Prim.Native.Nat.{ℕ, ◌-◌}
use mathlib.Core.Path.{◌≡◌}
use Rattle.writer.specs.State.{State, state_with}
use Rattle.load.specs.States.{state_after}
use Rattle.load.specs.Load.{put_from}
use Rattle.load.proofs.put_entries.Given as goal

pub record Inv (seed : ℕ) (s₀ s : State) (state i : ℕ) : Type 0 where
  pub state_is : state ≡ state_after seed i
  pub whole : put_from seed (4096 - i) i s ≡ put_from seed 4096 0 s₀

abbrev pub invariant-loop-i : goal.invariant-loop-i
invariant-loop-i l =
    Inv l.seed (state_with l.initial.w l.initial.counts l.initial.buf) (state_with l.w l.counts l.buf) l.state l.i

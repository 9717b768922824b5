-- `batch::deduplicate::deduplicate` meets its contract. The loop's invariant: the slots hold the first i names, and it is known which of them are
-- unique. Assumes nothing.
use Prim.Native.Nat.{ℕ}
use mathlib.Core.Path.{◌≡◌}
use mathlib.Core.List.{List}
use lib.ListN.{length}
use Rattle.batch.specs.declared.names.Round.{Round}
use Rattle.batch.specs.Steps.Slots.{SlotsHold}
use Rattle.batch.specs.Steps.Duplicates.{round_names, Deduplicated}
use Rattle.batch.proofs.deduplicate.deduplicate.Given as goal

pub record Inv (round : Round) (equals₀ equals unique slots : List ℕ) (m i : ℕ) : Type 0 where
  pub equals_long : length equals ≡ length equals₀
  pub unique_long : length unique ≡ 512
  pub holds : SlotsHold (round_names round) round.hashes.now slots i
  pub deduplicated : Deduplicated (round_names round) equals unique i m

abbrev pub invariant-loop-i : goal.invariant-loop-i
invariant-loop-i l = Inv l.round l.initial.equals l.equals l.unique l.slots l.m l.i

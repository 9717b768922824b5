-- `batch::deduplicate::find_or_insert` meets its contract. The loop's invariant: the slots hold the names before the i-th, and the rest of the
-- search tells what the whole one tells. Assumes nothing.
use Prim.Native.Nat.{ℕ, ◌-◌}
use mathlib.Core.List.{List}
use lib.ListN.{get_or}
use Rattle.batch.specs.declared.names.Round.{Round}
use Rattle.batch.specs.Steps.Duplicates.{round_names}
use Rattle.batch.specs.Steps.Slots.{round_slot, SlotsHold}
use Rattle.lookup_laws.proofs.SlotSearch.{Remaining}
use Rattle.batch.proofs.Duplicates.{equal_to}
use Rattle.batch.proofs.deduplicate.find_or_insert.Given as goal

pub record Inv (round : Round) (slots : List ℕ) (i k n : ℕ) : Type 0 where
  pub holds : SlotsHold (round_names round) round.hashes.now slots i
  pub rest : Remaining (round_slot round.hashes.now slots) (equal_to (round_names round) i) (get_or round.hashes.now i 0) 4096 (4096 - n) k

abbrev pub invariant-loop : goal.invariant-loop
invariant-loop l = Inv l.round l.slots l.i l.k l.counter

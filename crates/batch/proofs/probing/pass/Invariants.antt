-- `batch::probing::pass` meets its contract. The loop's invariant: the searches passed are partitioned, and the others stand where they stood. Assumes
-- nothing.
use Prim.Native.Nat.{ℕ, ◌+◌, ◌≤◌}
use mathlib.Core.Path.{◌≡◌}
use mathlib.Core.List.{List}
use lib.ListN.{length, get_or}
use Rattle.batch.specs.Steps.Probing.{OpenOrDecided}
use Rattle.batch.proofs.probing.pass.Given as goal

pub record Inv (image hashes live₀ live done offsets : List ℕ) (c p d z : ℕ) : Type 0 where
  pub live_long : length live ≡ length live₀
  pub done_long : length done ≡ 512
  pub offsets_long : length offsets ≡ 512
  pub unread : (y : ℕ) → z ≤ y → get_or live y 0 ≡ get_or live₀ y 0
  pub open_or_decided : OpenOrDecided image hashes live₀ live done offsets (c + 1) p d z

abbrev pub invariant-loop-z : goal.invariant-loop-z
invariant-loop-z l = Inv l.round.image.now l.round.hashes.now l.initial.live l.live l.done l.offsets l.c l.p l.d l.z

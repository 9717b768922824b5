-- `serialize::tables::copy_pairs` meets its contract. Assumes nothing.
use Rattle.std.proofs.Common.{◌≡◌, ℕ, List, length}
use Rattle.serialize.specs.Steps.Partition.{PairsCopied}
use Rattle.serialize.proofs.tables.copy_pairs.Given as goal

pub record Copying (copy₀ buf : List ℕ) (o : ℕ) (copy : List ℕ) (i : ℕ) : Type 0 where
  pub long : length copy ≡ length copy₀
  pub copied : PairsCopied copy buf o i

abbrev pub invariant-loop-i : goal.invariant-loop-i
invariant-loop-i l = Copying l.initial.copy l.buf l.o l.copy l.i

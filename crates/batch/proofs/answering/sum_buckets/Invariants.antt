-- `batch::answering::sum_buckets` meets its contract. The loop's invariant: the sum, with the buckets of the names that are left, is that of all. Assumes
-- nothing.
use Prim.Native.Nat.{ℕ, ◌+◌, ◌*◌, ◌≤◌}
use mathlib.Core.Path.{◌≡◌}
use mathlib.Core.List.{List}
use lib.ListN.{length}
use Rattle.batch.specs.Round.{round_buckets}
use Rattle.batch.specs.Steps.Answers.{UniqueAnswered}
use Rattle.batch.proofs.UniqueSums.{buckets_from}
use Rattle.batch.proofs.answering.sum_buckets.Given as goal

pub record Inv (equals answers : List ℕ) (n sum i : ℕ) : Type 0 where
  pub small : sum ≤ 4294967295 * i
  pub whole : (image : List ℕ) (xs : List (List ℕ)) → UniqueAnswered image xs equals answers n → sum + buckets_from image xs i ≡ round_buckets image xs

abbrev pub invariant-loop-i : goal.invariant-loop-i
invariant-loop-i l = Inv l.equals l.answers (length l.equals) l.sum l.i

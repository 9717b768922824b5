-- `batch::answering::copy_duplicates` meets its contract. The loop's invariant: the places passed have their answers, and so have those of unique names.
-- Assumes nothing.
use Prim.Native.Nat.{ℕ}
use mathlib.Core.Path.{◌≡◌}
use mathlib.Core.List.{List}
use lib.ListN.{length}
use Rattle.batch.specs.Steps.Answers.{UniqueAnswered}
use Rattle.batch.proofs.AnswerPlaces.{Copied}
use Rattle.batch.proofs.answering.copy_duplicates.Given as goal

pub record Inv (equals before answers : List ℕ) (n i : ℕ) : Type 0 where
  pub long : length answers ≡ length before
  pub copied : (image : List ℕ) (xs : List (List ℕ)) → UniqueAnswered image xs equals before n → Copied image xs equals answers n i

abbrev pub invariant-loop-i : goal.invariant-loop-i
invariant-loop-i l = Inv l.equals l.initial.answers l.answers (length l.equals) l.i

-- `batch::naming::name_all` meets its contract. The loop's invariant: the places passed hold their words. Assumes nothing.
use Prim.Native.Nat.{ℕ, ◌≤◌, ◌<◌}
use mathlib.Core.Path.{◌≡◌}
use mathlib.Core.List.{List}
use lib.ListN.{length, get_or}
use Rattle.reader.specs.Naming.{naming}
use Rattle.batch.specs.NameRound.{place_words}
use Rattle.batch.specs.Steps.Answers.{Has}
use Rattle.batch.proofs.naming.name_all.Given as goal

pub record Inv (image ids before answers : List ℕ) (i : ℕ) : Type 0 where
  pub inside : i ≤ length ids
  pub long : length answers ≡ length before
  pub stored : (j : ℕ) → j < i → Has answers j (place_words (naming image (get_or ids j 0)))

abbrev pub invariant-loop-i : goal.invariant-loop-i
invariant-loop-i l = Inv l.image l.ids l.initial.answers l.answers l.i

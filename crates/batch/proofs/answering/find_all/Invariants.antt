-- `batch::answering::find_all` meets its contract. The loop's invariant: each of the names has its answer, or its search is open after c buckets; the open
-- ones are listed names and rise, and the places of other names are kept. Assumes nothing.
use Prim.Native.Nat.{ℕ, ◌≤◌, ◌<◌}
use mathlib.Core.Logic.{◌⊎◌}
use mathlib.Core.List.{List}
use lib.ListN.{length, get_or, take}
use Rattle.batch.specs.declared.names.Round.{Round}
use Rattle.batch.specs.Steps.Duplicates.{round_names, Listed, RisingTo}
use Rattle.batch.specs.Steps.Probing.{SearchOpen}
use Rattle.batch.specs.Steps.Answers.{HasAnswer}
use Rattle.batch.proofs.AnswerPlaces.{Kept}
use Rattle.batch.proofs.answering.find_all.Given as goal

pub record Inv (round : Round) (first before still answers : List ℕ) (passes c : ℕ) : Type 0 where
  pub passed : c ≤ passes
  pub few : length still ≤ length first
  pub rising : RisingTo still (length still)
  pub listed : (z : ℕ) → z < length still → Listed first (length first) (get_or still z 0)
  pub is_open : (z : ℕ) → z < length still → SearchOpen round.image.now (get_or round.hashes.now (get_or still z 0) 0) c
  pub right : (x : ℕ) → x < length first
      → HasAnswer round.image.now (round_names round) answers (get_or first x 0) ⊎ Listed still (length still) (get_or first x 0)
  pub kept : Kept round first before answers (length first)

abbrev pub invariant-loop-c : goal.invariant-loop-c
invariant-loop-c l =
    record {
      inside : l.q ≤ length l.live;
      searches : Inv l.round l.initial.live l.initial.answers (take l.q l.live) l.answers l.passes l.c;
    }

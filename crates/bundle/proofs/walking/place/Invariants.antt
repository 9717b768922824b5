-- `bundle::walking::place` meets its contract. The loop's invariant: the walk from here on, by the positions that are left, comes
-- to what the whole walk comes to.
use Rattle.std.proofs.Common.{◌≡◌, ◌≤◌, ◌-◌, ℕ, List, length}
use Rattle.bundle.specs.FileWalk.{place_from, place_of_image}
use Rattle.bundle.proofs.walking.place.Given as goal

pub record Inv (file : List ℕ) (position start counter : ℕ) : Type 0 where
  pub inside : start ≤ length file
  pub rest : place_from file start (position - counter) ≡ place_of_image file position

abbrev pub invariant-loop : goal.invariant-loop
invariant-loop l = Inv l.file l.position l.start l.counter

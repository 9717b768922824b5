-- Walking over the ids: 01, "Walking, and the added home check".
use Rattle.std.specs.Prelude.{ℕ, zero, suc, ◌+◌, ◌-◌, cond, List, [], ◌∷◌}
use Rattle.image.specs.Head.{back_size_at}
use Rattle.reader.specs.Naming.{Naming, place, unnamed, naming, no_back}

-- a step of a walk whose next id is n: the id, the place of its name, and the next id after it; or the end
pub data Step : Type 0 where
  item : ℕ → ℕ → ℕ → ℕ → Step
  done : Step

-- it ends for good at the first id without a name: the walk's next id stays that one
abbrev pub step_of : ℕ → Naming → Step
step_of n (place s l) = item n s l (n + 1)
step_of n unnamed = done

unfoldable pub step : List ℕ → ℕ → Step
step image n = step_of n (naming image n)

-- the upper hint is back size minus the next id, at least 0, and 0 if no back array can be read
unfoldable pub upper_hint : List ℕ → ℕ → ℕ
upper_hint image n = cond (no_back image) 0 (back_size_at image - n)

-- the next id after a step: the one that the step gives; at the end it stays
abbrev pub next_after : ℕ → Step → ℕ
next_after n (item id s l next) = next
next_after n done = n

-- the first m steps of a walk whose next id is n
unfoldable pub steps : List ℕ → ℕ → ℕ → List Step
steps image n zero = []
steps image n (suc m) = step image n ∷ steps image (next_after n (step image n)) m

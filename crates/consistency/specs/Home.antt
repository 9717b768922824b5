-- The home check: 01, "Walking, and the added home check", as 02 (vi) changes it.
use Rattle.std.specs.Prelude.{ℕ, Bool, false, List, take, drop}
use Rattle.reader.specs.Naming.{Naming, place, unnamed, naming}
use Rattle.consistency.specs.Matches.{any_match, matches_of}

-- 02 (vi): an id is home (01's term) exactly when it has a name and some match of that name's search has this id
abbrev pub home_by : List ℕ → ℕ → Naming → Bool
home_by image id (place s n) = any_match id (matches_of image (take n (drop s image)))
home_by image id unnamed = false

unfoldable pub home : List ℕ → ℕ → Bool
home image id = home_by image id (naming image id)

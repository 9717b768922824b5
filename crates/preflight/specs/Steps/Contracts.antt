-- What the functions that count promise, by name.
use Rattle.std.specs.Prelude.{ℕ, ◌*◌, ◌≤◌, ◌≡◌, Bool, List, length}
use Rattle.sheet.specs.SheetReading.{ids_in}
use Rattle.preflight.specs.Ids.{passing}

-- how many ids of a list pass a test
pub record Tallied (test : ℕ → Bool) (xs : List ℕ) (r : ℕ) : Type 0 where
  pub is : r ≡ passing test xs
  pub most : r ≤ length xs

-- how many ids of a part of a sheet do; two such numbers can be added
pub record PartTallied (test : ℕ → Bool) (part : List ℕ) (r : ℕ) : Type 0 where
  pub is : r ≡ passing test (ids_in part)
  pub most : 4 * r ≤ length part

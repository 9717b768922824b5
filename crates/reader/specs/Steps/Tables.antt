-- What the pass over the head's 256 rows promises when an image is opened.
use Rattle.std.specs.Prelude.{◌≡◌, ℕ, ◌+◌, ◌*◌, ◌/◌, ◌%◌, ◌^◌, ◌<◌, ◌≤◌, false, List}
use Rattle.reader.specs.Open.{some_past_end, num_from}
use Rattle.reader.specs.declared.opening.TableSums.{TableSums}

-- the slacks of the tables so far are below 2^63, and one more table, at offset o with n buckets, ends in the image
pub record SlacksFit (slacks size o n : ℕ) : Type 0 where
  pub before : slacks < 2 ^ 63
  pub inside : o + 8 * n ≤ size

-- one more table, at offset o with n buckets, in an image of `size` bytes
pub record TableAdded (all : TableSums) (size o n : ℕ) (r : TableSums) : Type 0 where
  pub num_is : r.num ≡ (all.num + n / 2) % 2 ^ 32
  pub fits : r.slacks < 2 ^ 63 → SlacksFit all.slacks size o n

-- all of them
pub record AllTables (image : List ℕ) (r : TableSums) : Type 0 where
  pub num_is : r.num ≡ num_from image 0 256 % 2 ^ 32
  pub none_past_end : r.slacks < 2 ^ 63 → some_past_end image 0 256 ≡ false

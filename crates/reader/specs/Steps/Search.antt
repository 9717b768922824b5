-- What the functions of a search need and promise.
use Rattle.std.specs.Prelude.{◌≡◌, ℕ, ◌+◌, ◌*◌, ◌/◌, ◌<◌, ◌≤◌, true, false, List, length}
use Rattle.image.specs.Tables.{table_of, start}
use Rattle.image.specs.Head.{table_at, bucket_number}
use Rattle.reader.specs.Lookup.{unsearched}

-- a search in the table of n buckets at offset o that has m buckets left, from bucket k on
pub record RestPre (image : List ℕ) (o n k m : ℕ) : Type 0 where
  pub bucket : k < n
  pub most : m ≤ n
  pub inside : o + 8 * n ≤ length image

-- a search for a hash in such a table that starts at bucket k
pub record EarlyMissPre (image : List ℕ) (h o n k : ℕ) : Type 0 where
  pub starts : k ≡ start h n
  pub bucket : k < n
  pub inside : o + 8 * n ≤ length image

-- a search for a hash in a table of n buckets that has read c of them; the sum is a word
pub record BucketAfterPre (h c n : ℕ) : Type 0 where
  pub some : 0 < n
  pub small : h / 256 + c < 4294967296

-- r is the place, counted from 1, of the first 0 of three numbers
pub record FirstZero (x y z r : ℕ) : Type 0 where
  pub some : 0 < r
  pub few : r < 4
  pub first : r ≡ 1 → x ≡ 0
  pub second : r ≡ 2 → (0 < x) × (y ≡ 0)
  pub third : r ≡ 3 → (0 < x) × (0 < y) × (z ≡ 0)

-- the table of a hash is searched: it is the one of the head's row, at offset o with n buckets, and lies in the image
pub record SearchedTable (image : List ℕ) (h o n : ℕ) : Type 0 where
  pub searched : unsearched image (table_of h) ≡ false
  pub offset : o ≡ table_at image (table_of h)
  pub number : n ≡ bucket_number image (table_of h)
  pub inside : o + 8 * n ≤ length image

-- it is so where n is above 0; where n is 0, no bucket is read
pub record TableFound (image : List ℕ) (h o n : ℕ) : Type 0 where
  pub unread : n ≡ 0 → unsearched image (table_of h) ≡ true
  pub table : 0 < n → SearchedTable image h o n

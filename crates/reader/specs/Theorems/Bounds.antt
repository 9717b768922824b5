-- How far a lookup reads, on every byte string: 01, "Looking up a name".
use Rattle.std.specs.Prelude.{◌≡◌, ℕ, ◌+◌, ◌*◌, ◌<◌, ◌≤◌, true, ◌||◌, List, length, nat_le, nat_lt, slice_index}
use Rattle.jhash.specs.NameHash.{hash_of}
use Rattle.image.specs.Tables.{table_of, start, probe_sequence}
use Rattle.image.specs.Image.{head_size}
use Rattle.image.specs.Head.{bucket_number}
use Rattle.reader.specs.Lookup.{nothing, search_table, unsearched, lookup}
use Rattle.reader.specs.Cases.{reads}

pub record Bounds : Type 0 where
  -- a search reads at most n buckets, where n is the number of buckets of its table, and so does a lookup
  pub search_reads : (image name : List ℕ) (h o n : ℕ) → reads (search_table image name h o n) ≤ n
  pub lookup_reads : (image name : List ℕ)
      → reads (lookup image name) ≤ bucket_number image (table_of (hash_of name))
  -- none: in an image under 2,072 bytes, for a name of 4,294,967,295 bytes or more, in a table with offset 0, bucket
  -- number 0 or an end past the image
  pub lookup_unsearched : (image name : List ℕ)
      → (nat_lt (length image) head_size || nat_le 4294967295 (length name)
      || unsearched image (table_of (hash_of name)))
      ≡ true
      → lookup image name ≡ nothing 0
  -- each bucket that a search for a hash reads lies in the image, where the table does not leave it
  pub bucket_inside : (image : List ℕ) (h o n i : ℕ) → o + 8 * n ≤ length image → i < n
      → o + 8 * slice_index (probe_sequence n n (start h n)) i + 8 ≤ length image

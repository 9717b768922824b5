-- 02 (ii), "the offset in the deciding bucket, where this id and name stand": what a found answer's offset is, on every
-- byte string.
use Rattle.std.specs.Prelude.{◌≡◌, ℕ, ◌+◌, ◌-◌, ◌*◌, ◌<◌, ◌≤◌, false, List, length, slice_index}
use Rattle.jhash.specs.NameHash.{hash_of}
use Rattle.image.specs.Bytes.{word}
use Rattle.image.specs.Tables.{table_of, start, probe_sequence}
use Rattle.image.specs.Head.{table_at, bucket_number}
use Rattle.image.specs.Stored.{name_at, broken}
use Rattle.reader.specs.Lookup.{found, lookup}
use Rattle.reader.specs.Lookup.{Found}

-- the bucket that a search for a name in its table of n buckets reads as the m-th, counted from 1
abbrev pub bucket_read : List ℕ → ℕ → ℕ → ℕ
bucket_read name n m = slice_index (probe_sequence n n (start (hash_of name) n)) (m - 1)

-- what a lookup found in the table of n buckets at offset o
pub record FoundInTable (image name : List ℕ) (f : Found) (o n : ℕ) : Type 0 where
  -- the deciding bucket, the last that was read, is one of the table's, and the table lies in the image
  pub in_table : bucket_read name n f.buckets < n
  pub inside : o + 8 * n ≤ length image
  -- it has the name's hash, and this offset
  pub hash : word image (o + 8 * bucket_read name n f.buckets) ≡ hash_of name
  pub offset : word image (o + 8 * bucket_read name n f.buckets + 4) ≡ f.offset
  -- the entry at this offset is not broken, and has exactly this name and this id
  pub unbroken : broken image f.offset ≡ false
  pub name_there : name_at image f.offset ≡ name
  pub id_there : word image f.offset ≡ f.id

-- in the name's table
abbrev pub FoundAt : List ℕ → List ℕ → Found → Type 0
FoundAt image name f =
    FoundInTable image name f (table_at image (table_of (hash_of name))) (bucket_number image (table_of (hash_of name)))

-- on every byte string, of every found answer
abbrev pub FoundAtOffset : Type 0
FoundAtOffset = (image name : List ℕ) (f : Found) → lookup image name ≡ found f → FoundAt image name f

-- The hash tables: 01, "The image record" and "Name hash".
use Rattle.std.specs.Prelude.{◌≡◌, ℕ, zero, suc, ◌+◌, ◌/◌, ◌%◌, ◌<◌, cond, List, [], ◌∷◌, get_or, replicate, ◌==◌}
use Rattle.std.specs.Prelude.{slice_index_or, slice_set}

-- 01, "Name hash": table t is the hash modulo 256
abbrev pub table_of : ℕ → ℕ
table_of h = h % 256

-- with n buckets the search starts at bucket (hash divided by 256, whole part) modulo n
abbrev pub start : ℕ → ℕ → ℕ
start h n = h / 256 % n

-- and goes on by one, from the last to the first
abbrev pub next : ℕ → ℕ → ℕ
next n k = (k + 1) % n

-- the probe sequence: the m buckets that a search among n reads from bucket k on, in its order
unfoldable pub probe_sequence : ℕ → ℕ → ℕ → List ℕ
probe_sequence n zero k = []
probe_sequence n (suc m) k = k ∷ probe_sequence n m (next n k)

-- 01, "The image record": a bucket is the hash, then the entry's offset; offset 0 marks it empty
pub record Bucket : Type 0 where
  pub hash : ℕ
  pub at : ℕ

-- close makes both words of an empty one 0
abbrev pub empty : Bucket
empty = record { hash = 0; at = 0 }

-- 01, "Writing": the first empty bucket of a search, given the offset in each bucket (bucket 0 where none is empty)
unfoldable pub first_empty : (ℕ → ℕ) → List ℕ → ℕ
first_empty at [] = 0
first_empty at (k ∷ ks) = cond (at k == 0) k (first_empty at ks)

-- the offset in bucket k of a table
abbrev pub at_of : List Bucket → ℕ → ℕ
at_of table k = (get_or table k empty).at

-- a table of n buckets takes an entry into the first empty bucket of the search
unfoldable pub insert : ℕ → List Bucket → Bucket → List Bucket
insert n table b = slice_set table (first_empty (at_of table) (probe_sequence n n (start b.hash n))) b

-- and entries in their order
unfoldable pub insert_all : ℕ → List Bucket → List Bucket → List Bucket
insert_all n table [] = table
insert_all n table (b ∷ bs) = insert_all n (insert n table b) bs

-- the table of n buckets that begins empty and takes these entries
unfoldable pub filled : ℕ → List Bucket → List Bucket
filled n bs = insert_all n (replicate n empty) bs

-- n slots, wherever they are stored, are that table
pub record Filled (n : ℕ) (slots : ℕ → Bucket) (bs : List Bucket) : Type 0 where
  pub each : (k : ℕ) → k < n → slots k ≡ slice_index_or (filled n bs) k empty

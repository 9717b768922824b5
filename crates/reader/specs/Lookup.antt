-- Looking up a name: 01, "Looking up a name".
use Rattle.std.specs.Prelude.{ℕ, ◌+◌, ◌*◌, Bool, cond, ◌||◌, List, [], ◌∷◌, length, ◌==◌, nat_le, nat_lt}
use Rattle.jhash.specs.NameHash.{hash_of}
use Rattle.image.specs.Bytes.{word, same}
use Rattle.image.specs.Tables.{table_of, start, probe_sequence}
use Rattle.image.specs.Image.{head_size}
use Rattle.image.specs.Head.{table_at, bucket_number, table_past_end}
use Rattle.image.specs.Stored.{name_at, broken}

-- the answer: found with its id, or nothing; both carry the number of buckets read, the deciding one included. 02 (ii):
-- a found answer carries the offset in the deciding bucket too, where this id and name stand
pub record Found : Type 0 where
  pub id : ℕ
  pub buckets : ℕ
  pub offset : ℕ

pub data Lookup : Type 0 where
  found : Found → Lookup
  nothing : ℕ → Lookup

-- an entry with an equal name: its id, and the offset in its bucket, where it is
pub record Hit : Type 0 where
  pub id : ℕ
  pub offset : ℕ

abbrev pub hit_at : List ℕ → ℕ → Hit
hit_at image at = record { id = word image at; offset = at }

-- what a search does at a bucket: it passes it, ends with nothing, or ends with an entry
pub data Probe : Type 0 where
  pass : Probe
  ends : Probe
  hit : Hit → Probe

-- a broken entry ends with nothing; an equal name ends with the entry; another name is passed
unfoldable pub probe_entry : List ℕ → List ℕ → ℕ → Probe
probe_entry image name at =
    cond (broken image at) ends (cond (same (name_at image at) name) (hit (hit_at image at)) pass)

-- an empty bucket ends with nothing; a bucket with another hash is passed
unfoldable pub probe_bucket : List ℕ → List ℕ → ℕ → ℕ → Probe
probe_bucket image name h b =
    cond (word image (b + 4) == 0) ends
    (cond (word image b == h) (probe_entry image name (word image (b + 4))) pass)

-- one more bucket was read: its probe decides, or the rest of the search does
abbrev pub decide : Probe → ℕ → Lookup → Lookup
decide pass reads rest = rest
decide ends reads rest = nothing reads
decide (hit h) reads rest = found (record { id = h.id; buckets = reads; offset = h.offset })

-- the search along a list of buckets, `reads` being those read before. After the last the answer is nothing
unfoldable pub search_along : (ℕ → Probe) → List ℕ → ℕ → Lookup
search_along probe [] reads = nothing reads
search_along probe (k ∷ ks) reads = decide (probe k) (reads + 1) (search_along probe ks (reads + 1))

-- the search in a table of n buckets at offset o
unfoldable pub search_table : List ℕ → List ℕ → ℕ → ℕ → ℕ → Lookup
search_table image name h o n =
    search_along (λ (k : ℕ). probe_bucket image name h (o + 8 * k)) (probe_sequence n n (start h n)) 0

-- nothing after 0 reads: a table with offset 0, bucket number 0 or an end past the image
abbrev pub unsearched : List ℕ → ℕ → Bool
unsearched image t = table_at image t == 0 || bucket_number image t == 0 || table_past_end image t

unfoldable pub lookup_hash : List ℕ → List ℕ → ℕ → Lookup
lookup_hash image name h =
    cond (unsearched image (table_of h)) (nothing 0)
    (search_table image name h (table_at image (table_of h)) (bucket_number image (table_of h)))

-- with the name's hash h: nothing after 0 reads in an image under 2,072 bytes, and for a name of 4,294,967,295 bytes or
-- more
unfoldable pub lookup_by : List ℕ → List ℕ → ℕ → Lookup
lookup_by image name h =
    cond (nat_lt (length image) head_size) (nothing 0)
    (cond (nat_le 4294967295 (length name)) (nothing 0) (lookup_hash image name h))

unfoldable pub lookup : List ℕ → List ℕ → Lookup
unfolding lookup_by
lookup image name = lookup_by image name (hash_of name)

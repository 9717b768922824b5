-- The matches of a search: 01, "Looking up a name", and 02 (vi), "A renewed prism counts as home". The lookup's answer
-- and the home check are two readings of them.
use Rattle.std.specs.Prelude.{ℕ, ◌+◌, ◌*◌, Bool, false, cond, ◌||◌, List, [], ◌∷◌, length, eqb, ltb, leb}
use Rattle.jhash.specs.NameHash.{hash_of}
use Rattle.image.specs.Tables.{table_of, start, probe_sequence}
use Rattle.image.specs.Image.{head_size}
use Rattle.image.specs.Head.{table_at, bucket_number}
use Rattle.reader.specs.Lookup.{Lookup, found, nothing, Probe, pass, ends, hit, probe_bucket, unsearched}
use Rattle.reader.specs.Lookup.{Found}

-- the entries with this name that a search reads, in its order, each with its id, the buckets read up to it and its
-- offset; after the last, the number of buckets that the search reads
pub data Matches : Type 0 where
  matched : Found → Matches → Matches
  ended : ℕ → Matches

-- one probe, the `reads`-th: the search goes on past another name and past an equal one, and ends at an empty bucket
-- or a broken entry
abbrev pub add_match : Probe → ℕ → Matches → Matches
add_match pass reads rest = rest
add_match ends reads rest = ended reads
add_match (hit h) reads rest = matched (record { id = h.id; buckets = reads; offset = h.offset }) rest

-- it also ends when all buckets are read. `reads` is the number of buckets read before
unfoldable pub matches_along : (ℕ → Probe) → List ℕ → ℕ → Matches
matches_along probe [] reads = ended reads
matches_along probe (k ∷ ks) reads = add_match (probe k) (reads + 1) (matches_along probe ks (reads + 1))

-- in a table of n buckets at offset o
unfoldable pub matches_in : List ℕ → List ℕ → ℕ → ℕ → ℕ → Matches
matches_in image name h o n =
    matches_along (λ (k : ℕ). probe_bucket image name h (o + 8 * k)) (probe_sequence n n (start h n)) 0

-- none where 01 reads no bucket
unfoldable pub matches_by_hash : List ℕ → List ℕ → ℕ → Matches
matches_by_hash image name h =
    cond (unsearched image (table_of h)) (ended 0)
    (matches_in image name h (table_at image (table_of h)) (bucket_number image (table_of h)))

unfoldable pub matches_of : List ℕ → List ℕ → Matches
matches_of image name =
    cond (ltb (length image) head_size) (ended 0)
    (cond (leb 4294967295 (length name)) (ended 0) (matches_by_hash image name (hash_of name)))

-- the lookup's answer: the first of them
abbrev pub first_match : Matches → Lookup
first_match (matched f rest) = found f
first_match (ended reads) = nothing reads

-- the home check's: has some of them this id?
abbrev pub any_match : ℕ → Matches → Bool
any_match id (matched f rest) = eqb f.id id || any_match id rest
any_match id (ended reads) = false

-- how many buckets the whole search reads
abbrev pub match_reads : Matches → ℕ
match_reads (matched f rest) = match_reads rest
match_reads (ended reads) = reads

-- A search that is resumed: what is left of it after some of its buckets.
use Rattle.std.specs.Prelude.{ℕ, ◌+◌, ◌-◌, ◌*◌, ◌/◌, ◌%◌, cond, List, length, nat_le, nat_lt}
use Rattle.image.specs.Tables.{table_of, probe_sequence}
use Rattle.image.specs.Image.{head_size}
use Rattle.image.specs.Head.{table_at, bucket_number}
use Rattle.reader.specs.Lookup.{Lookup, nothing, probe_bucket, search_along, unsearched}

-- what is left of the search in the table of n buckets at o, before bucket k and with m buckets left
abbrev pub search_rest : List ℕ → List ℕ → ℕ → ℕ → ℕ → ℕ → ℕ → Lookup
search_rest image name h o n k m =
    search_along (λ (j : ℕ). probe_bucket image name h (o + 8 * j)) (probe_sequence n m k) (n - m)

-- the bucket that a search in a table of n buckets reads after c others
abbrev pub bucket_after : ℕ → ℕ → ℕ → ℕ
bucket_after h n c = (h / 256 + c) % n

-- what is left of the search for a hash h after c of its buckets; after all n of its table the answer is nothing
unfoldable pub search_from : List ℕ → List ℕ → ℕ → ℕ → Lookup
search_from image name h c =
    let o = table_at image (table_of h) in
    let n = bucket_number image (table_of h) in
    cond (unsearched image (table_of h)) (nothing 0) (search_rest image name h o n (bucket_after h n c) (n - c))

-- what is left of the lookup by a hash h (`lookup_by`) after c buckets
unfoldable pub lookup_from : List ℕ → List ℕ → ℕ → ℕ → Lookup
lookup_from image name h c =
    cond (nat_lt (length image) head_size) (nothing 0)
    (cond (nat_le 4294967295 (length name)) (nothing 0) (search_from image name h c))

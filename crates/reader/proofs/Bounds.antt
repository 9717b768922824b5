-- A lookup reads no more buckets than its table has, and each of them lies in the image (`specs/Theorems/Bounds`). Assumes nothing.
use Rattle.std.proofs.Common.{◌≡◌, ℕ, zero, suc, ◌+◌, ◌*◌, ◌/◌, ◌<◌, ◌≤◌, Bool, true, false, cond, ◌||◌, ltb, leb, List, [], ◌∷◌, length, get_or, refl}
use Rattle.std.proofs.Common.{zero-le, mod-lt, arith}
use Rattle.jhash.specs.NameHash.{hash_of}
use Rattle.image.specs.Tables.{table_of, start, next, probe_sequence}
use Rattle.image.proofs.Bools.{false_not_true}
use Rattle.image.proofs.Buckets.{length-probe_sequence}
use Rattle.image.specs.Head.{table_at, bucket_number}
use Rattle.reader.specs.Lookup.{Lookup, nothing, Probe, pass, ends, hit, probe_bucket, decide, search_along, search_table, unsearched, lookup_hash, lookup}
use Rattle.reader.specs.Cases.{reads}
use Rattle.reader.specs.Theorems.Bounds.{Bounds}

-- ---- how many buckets are read

pub search_along_reads : (look : ℕ → Probe) (ks : List ℕ) (r : ℕ) → reads (search_along look ks r) ≤ r + length ks
unfolding search_along
search_along_reads look [] r = omega arith
search_along_reads look (k ∷ ks) r = decided (look k) (search_along_reads look ks (r + 1))
  where
    decided : (s : Probe) → reads (search_along look ks (r + 1)) ≤ r + 1 + length ks
        → reads (decide s (r + 1) (search_along look ks (r + 1))) ≤ r + suc (length ks)
    decided pass h = omega arith
    decided ends h = omega arith
    decided (hit x) h = omega arith

pub search_reads : (image name : List ℕ) (h o n : ℕ) → reads (search_table image name h o n) ≤ n
unfolding search_table
search_reads image name h o n =
    omega (
      arith,
      search_along_reads (λ (k : ℕ). probe_bucket image name h (o + 8 * k)) (probe_sequence n n (start h n)) 0,
      length-probe_sequence n
          n (start h n),
    )

-- at most n, where n is the number of buckets of the name's table; and none where nothing is searched
pub lookup_reads : (image name : List ℕ) → reads (lookup image name) ≤ bucket_number image (table_of (hash_of name))
unfolding lookup lookup_hash
lookup_reads image name =
    either (ltb (length image) 2072) (cond (leb 4294967295 (length name)) (nothing 0) (lookup_hash image name (hash_of name)))
    (either (leb 4294967295 (length name)) (lookup_hash image name (hash_of name))
    (either (unsearched image t) (search_table image name (hash_of name) (table_at image t) (bucket_number image t))
    (search_reads image name (hash_of name) (table_at image t) (bucket_number image t))))
  where
    t : ℕ
    t = table_of (hash_of name)

    either : (b : Bool) (a : Lookup) → reads a ≤ bucket_number image t → reads (cond b (nothing 0) a) ≤ bucket_number image t
    either true a h = zero-le
    either false a h = h

-- no bucket is read: an image under 2,072 bytes, a name of 4,294,967,295 bytes or more, a table with offset 0, bucket number 0 or an end past the image
pub lookup_unsearched : (image name : List ℕ)
    → (ltb (length image) 2072 || leb 4294967295 (length name) || unsearched image (table_of (hash_of name))) ≡ true
    → lookup image name ≡ nothing 0
unfolding lookup lookup_hash
lookup_unsearched image name e =
    either (ltb (length image) 2072) (leb 4294967295 (length name))
    (unsearched image t)
    (search_table image name (hash_of name) (table_at image t) (bucket_number image t)) e
  where
    t : ℕ
    t = table_of (hash_of name)

    either : (a b c : Bool) (x : Lookup) → (a || b || c) ≡ true → cond a (nothing 0) (cond b (nothing 0) (cond c (nothing 0) x)) ≡ nothing 0
    either true b c x e = refl
    either false true c x e = refl
    either false false true x e = refl
    either false false false x e = absurd (false_not_true e)

-- ---- where they lie

-- each bucket of a search is one of the table's
pub probe_sequence_below : (n m k i : ℕ) → k < n → i < m → get_or (probe_sequence n m k) i 0 < n
unfolding probe_sequence
probe_sequence_below n zero k i h l = absurd (omega arith)
probe_sequence_below n (suc m) k zero h l = h
probe_sequence_below n (suc m) k (suc i) h l = probe_sequence_below n m (next n k) i (mod-lt (k + 1) {m = n} (omega arith)) (omega arith)

-- the i-th bucket that the search for a hash meets in a table that does not leave the image
pub bucket_inside : (image : List ℕ) (h o n i : ℕ) → o + 8 * n ≤ length image → i < n
    → o + 8 * get_or (probe_sequence n n (start h n)) i 0 + 8 ≤ length image
bucket_inside image h o n i fits l =
    let b = probe_sequence_below n n (start h n) i (mod-lt (h / 256) {m = n} (omega arith)) l in
    inside (get_or (probe_sequence n n (start h n)) i 0) b
  where
    inside : (k : ℕ) → k < n → o + 8 * k + 8 ≤ length image
    inside k b = omega arith

-- ---- all of it

pub bounds : Bounds
bounds =
    record {
      search_reads = search_reads;
      lookup_reads = lookup_reads;
      lookup_unsearched = lookup_unsearched;
      bucket_inside = bucket_inside;
    }

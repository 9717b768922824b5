-- The lookup's answer is the first entry that its search meets; who was home by 01's rule is home; the search reads at most the table's buckets. Assumes
-- nothing.
use Prim.Native.Nat.{ℕ, suc, ◌+◌, ◌*◌, ◌≤◌, zero-le}
use native.Mathlib.Omega.{arith}
use mathlib.Core.Path.{◌≡◌, refl, sym, ap, ◌∙◌}
use mathlib.Core.Bool.{Bool, true, false, cond, ◌||◌}
use mathlib.Core.List.{List, [], ◌∷◌}
use lib.Dec.{ltb, leb}
use lib.ListN.{length, take, drop}
use Rattle.jhash.specs.NameHash.{hash_of}
use Rattle.image.specs.Tables.{table_of, start, probe_sequence}
use Rattle.image.specs.Head.{table_at, bucket_number}
use Rattle.image.proofs.Bools.{false_not_true}
use Rattle.reader.specs.Lookup.{Lookup, nothing, Probe, pass, ends, hit, probe_bucket, decide, search_along, search_table, unsearched, lookup_hash, lookup}
use Rattle.consistency.specs.Matches.{Matches, matched, ended, add_match, matches_along, matches_in, matches_by_hash, matches_of, first_match}
use Rattle.consistency.specs.Matches.{any_match, match_reads}
use Rattle.reader.specs.Naming.{Naming, place, unnamed, naming}
use Rattle.consistency.specs.Home.{home_by, home}
use Rattle.consistency.specs.Theorems.Homes.{finds, home_by_first, Homes}
use Rattle.image.proofs.Buckets.{length-probe_sequence}

-- ---- the first of them

decide_first : (s : Probe) (r : ℕ) (rest : Matches) → decide s r (first_match rest) ≡ first_match (add_match s r rest)
decide_first pass r rest = refl
decide_first ends r rest = refl
decide_first (hit h) r rest = refl

probe_first : (look : ℕ → Probe) (ks : List ℕ) (r : ℕ) → search_along look ks r ≡ first_match (matches_along look ks r)
unfolding search_along matches_along
probe_first look [] r = refl
probe_first look (k ∷ ks) r = ap (decide (look k) (r + 1)) (probe_first look ks (r + 1)) ∙ decide_first (look k) (r + 1) (matches_along look ks (r + 1))

search_first : (image name : List ℕ) (h o n : ℕ) → search_table image name h o n ≡ first_match (matches_in image name h o n)
unfolding search_table matches_in
search_first image name h o n = probe_first (λ (k : ℕ). probe_bucket image name h (o + 8 * k)) (probe_sequence n n (start h n)) 0

unless_first : (b : Bool) (l : Lookup) (m : Matches) → l ≡ first_match m → cond b (nothing 0) l ≡ first_match (cond b (ended 0) m)
unless_first true l m e = refl
unless_first false l m e = e

pub lookup_first : (image name : List ℕ) → lookup image name ≡ first_match (matches_of image name)
unfolding lookup lookup_hash matches_of matches_by_hash
lookup_first image name =
    let h = hash_of name in
    let t = table_of h in
    unless_first (ltb (length image) 2072) (cond (leb 4294967295 (length name)) (nothing 0) (lookup_hash image name h))
    (cond (leb 4294967295 (length name)) (ended 0) (matches_by_hash image name h))
    (unless_first (leb 4294967295 (length name)) (lookup_hash image name h) (matches_by_hash image name h)
    (unless_first (unsearched image t) (search_table image name h (table_at image t) (bucket_number image t))
    (matches_in image name h (table_at image t) (bucket_number image t)) (search_first image name h (table_at image t) (bucket_number image t))))

-- ---- who was home is home

finds_some : (id : ℕ) (m : Matches) → finds id (first_match m) ≡ true → any_match id m ≡ true
finds_some id (matched f rest) e = ap (λ (b : Bool). b || any_match id rest) e
finds_some id (ended r) e = absurd (false_not_true e)

still_home : (image : List ℕ) (id : ℕ) → home_by_first image id (naming image id) ≡ true → home image id ≡ true
unfolding home
still_home image id = home_by_naming (naming image id)
  where
    home_by_naming : (p : Naming) → home_by_first image id p ≡ true → home_by image id p ≡ true
    home_by_naming (place s n) e =
        let name = take n (drop s image) in
        finds_some id (matches_of image name) (sym (ap (finds id) (lookup_first image name)) ∙ e)
    home_by_naming unnamed e = absurd (false_not_true e)

-- ---- how many buckets the search reads

reads_along : (look : ℕ → Probe) (ks : List ℕ) (r : ℕ) → match_reads (matches_along look ks r) ≤ r + length ks
unfolding matches_along
reads_along look [] r = omega arith
reads_along look (k ∷ ks) r = seen (look k) (reads_along look ks (r + 1))
  where
    seen : (s : Probe) → match_reads (matches_along look ks (r + 1)) ≤ r + 1 + length ks
        → match_reads (add_match s (r + 1) (matches_along look ks (r + 1))) ≤ r + suc (length ks)
    seen pass h = omega arith
    seen ends h = omega arith
    seen (hit x) h = omega arith

one_pass : (image name : List ℕ) → match_reads (matches_of image name) ≤ bucket_number image (table_of (hash_of name))
unfolding matches_of matches_by_hash matches_in
one_pass image name =
    either (ltb (length image) 2072) (cond (leb 4294967295 (length name)) (ended 0) (matches_by_hash image name (hash_of name)))
    (either (leb 4294967295 (length name)) (matches_by_hash image name (hash_of name))
    (either (unsearched image t) (matches_in image name (hash_of name) (table_at image t) n)
    (omega (arith, reads_along look (probe_sequence n n (start (hash_of name) n)) 0, length-probe_sequence n n (start (hash_of name) n)))))
  where
    t : ℕ
    t = table_of (hash_of name)

    n : ℕ
    n = bucket_number image t

    look : ℕ → Probe
    look k = probe_bucket image name (hash_of name) (table_at image t + 8 * k)

    either : (b : Bool) (m : Matches) → match_reads m ≤ n → match_reads (cond b (ended 0) m) ≤ n
    either true m h = zero-le
    either false m h = h

pub homes : Homes
homes = record { lookup_first = lookup_first; still_home = still_home; one_pass = one_pass }

-- The search along the buckets, a step at a time. Assumes nothing.
use Rattle.std.proofs.Common.{◌≡◌, ℕ, suc, ◌+◌, ◌-◌, ◌*◌, ◌/◌, ◌%◌, ◌<◌, ◌≤◌, Bool, true, false, cond, ◌||◌, eqb, ltb, leb, List, length, take, drop, sym}
use Rattle.std.proofs.Common.{refl, ap, ◌∙◌, ap₂, arith, ltb-false, leb-false}
use native.Mathlib.Decide.{ℕ_discrete}
use Rattle.jhash.specs.NameHash.{hash_of}
use Rattle.image.specs.Bytes.{word, same}
use Rattle.image.specs.Tables.{table_of, start, next, probe_sequence}
use Rattle.image.specs.Head.{table_at, bucket_number}
use Rattle.image.specs.Stored.{name_at, broken}
use Rattle.reader.specs.Lookup.{Lookup, nothing, Probe, pass, ends, hit, hit_at, probe_entry, probe_bucket, decide, search_along, unsearched}
use Rattle.reader.specs.Lookup.{search_table, lookup_hash, lookup_by, lookup}
use Rattle.reader.specs.Steps.Resume.{search_rest, bucket_after, search_from, lookup_from}

-- ---- the probe of an entry and of a bucket

-- the bytes of the image that are compared with the name, for a length word w
pub name_slice : (image : List ℕ) (at w : ℕ) → w ≡ word image (at + 4) → take (at + 8 + (w - 1) - (at + 8)) (drop (at + 8) image) ≡ name_at image at
name_slice image at w e =
    let f : at + 8 + (w - 1) - (at + 8) ≡ w - 1 = omega arith in
    ap (λ (k : ℕ). take k (drop (at + 8) image)) (f ∙ ap (λ (k : ℕ). k - 1) e)

module _ (image name : List ℕ) (at : ℕ) where
  pub probe_entry_by : (x s : Bool) → broken image at ≡ x → same (name_at image at) name ≡ s
      → cond x ends (cond s (hit (hit_at image at)) pass) ≡ probe_entry image name at
  unfolding probe_entry
  probe_entry_by x s ex es = sym (λ i. cond (ex i) ends (cond (es i) (hit (hit_at image at)) pass))

  -- for the bucket at b with this entry
  pub probe_bucket_by : (h b : ℕ) (z e : Bool) → at ≡ word image (b + 4) → eqb at 0 ≡ z → eqb (word image b) h ≡ e
      → cond z ends (cond e (probe_entry image name at) pass) ≡ probe_bucket image name h b
  unfolding probe_bucket
  probe_bucket_by h b z e ea ez ee =
      sym (λ i. cond (ez i) ends (cond (ee i) (probe_entry image name at) pass))
      ∙ ap (λ (k : ℕ). cond (eqb k 0) ends (cond (eqb (word image b) h) (probe_entry image name k) pass)) ea

-- ---- the search

module _ (image name : List ℕ) (h o n : ℕ) where
  abbrev bucket : ℕ → Probe
  bucket j = probe_bucket image name h (o + 8 * j)

  pub rest_start : search_rest image name h o n (start h n) n ≡ search_table image name h o n
  unfolding search_table
  rest_start = let e : n - n ≡ 0 = omega arith in ap (search_along bucket (probe_sequence n n (start h n))) e

  over : (k r : ℕ) → search_along bucket (probe_sequence n 0 k) r ≡ nothing r
  unfolding search_along probe_sequence
  over k r = refl

  more : (m k r : ℕ) → search_along bucket (probe_sequence n (suc m) k) r
      ≡ decide (bucket k) (r + 1) (search_along bucket (probe_sequence n m (next n k)) (r + 1))
  unfolding search_along probe_sequence
  more m k r = refl

  pub rest_over : (k m : ℕ) → m ≤ 0 → nothing (n - m) ≡ search_rest image name h o n k m
  rest_over k m l =
      let e : m ≡ 0 = omega arith in
      sym (ap (λ (i : ℕ). search_along bucket (probe_sequence n i k) (n - m)) e ∙ over k (n - m))

  -- a step, by the probe of its bucket
  pub rest_step : (k m : ℕ) (probed : Probe) → 0 < m → m ≤ n → probed ≡ bucket k
      → decide probed (n - (m - 1)) (search_rest image name h o n (next n k) (m - 1)) ≡ search_rest image name h o n k m
  rest_step k m probed l f e =
      let p : m ≡ suc (m - 1) = omega arith in
      let r : n - (m - 1) ≡ n - m + 1 = omega arith in
      ap (λ (s : Probe). decide s (n - (m - 1)) (search_rest image name h o n (next n k) (m - 1))) e
      ∙ ap (λ (i : ℕ). decide (bucket k) i (search_along bucket (probe_sequence n (m - 1) (next n k)) i)) r
      ∙ sym (ap (λ (i : ℕ). search_along bucket (probe_sequence n i k) (n - m)) p ∙ more (m - 1) k (n - m))

-- the loop of a search that began at bucket `first` with m buckets left: what is left of it answers what was left then
pub record RestInv (image name : List ℕ) (h o n first m k left : ℕ) : Type 0 where
  pub bucket : k < n
  pub most : left ≤ n
  pub same : search_rest image name h o n k left ≡ search_rest image name h o n first m

-- ---- the lookup

pub lookup_unread : (image name : List ℕ) (h : ℕ) → unsearched image (table_of h) ≡ true → nothing 0 ≡ lookup_hash image name h
unfolding lookup_hash
lookup_unread image name h e = rw e

pub lookup_read : (image name : List ℕ) (h at n : ℕ) → unsearched image (table_of h) ≡ false → at ≡ table_at image (table_of h)
    → n ≡ bucket_number image (table_of h)
    → search_table image name h at n ≡ lookup_hash image name h
unfolding lookup_hash
lookup_read image name h at n e ea en = rw e (ap₂ (search_table image name h) ea en)

-- by its tests, for a table at `at` with n buckets
pub lookup_hash_by : (image name : List ℕ) (h at n : ℕ) (z y x : Bool) → at ≡ table_at image (table_of h) → n ≡ bucket_number image (table_of h)
    → eqb at 0 ≡ z → eqb n 0 ≡ y → ltb (length image) (at + 8 * n) ≡ x
    → cond (z || y || x) (nothing 0) (search_table image name h at n) ≡ lookup_hash image name h
unfolding lookup_hash
lookup_hash_by image name h at n z y x ea en ez ey ex =
    sym (λ i. cond (ez i || ey i || ex i) (nothing 0) (search_table image name h at n))
    ∙ (λ i. cond (eqb (ea i) 0 || eqb (en i) 0 || ltb (length image) (ea i + 8 * en i)) (nothing 0) (search_table image name h (ea i) (en i)))

pub lookup_by_lem : (image name : List ℕ) (s l : Bool) → ltb (length image) 2072 ≡ s → leb 4294967295 (length name) ≡ l
    → cond s (nothing 0) (cond l (nothing 0) (lookup_hash image name (hash_of name))) ≡ lookup image name
unfolding lookup
lookup_by_lem image name s l es el = sym (λ i. cond (es i) (nothing 0) (cond (el i) (nothing 0) (lookup_hash image name (hash_of name))))

-- with a hash at hand
pub lookup_with : (image name : List ℕ) (h : ℕ) (s l : Bool) → ltb (length image) 2072 ≡ s → leb 4294967295 (length name) ≡ l
    → cond s (nothing 0) (cond l (nothing 0) (lookup_hash image name h)) ≡ lookup_by image name h
unfolding lookup_by
lookup_with image name h s l es el = sym (λ i. cond (es i) (nothing 0) (cond (el i) (nothing 0) (lookup_hash image name h)))

-- it is the lookup, where the hash of a name that is not too long is its own
pub lookup_own : (image name : List ℕ) (h : ℕ) → (length name < 4294967295 → h ≡ hash_of name) → lookup_by image name h ≡ lookup image name
unfolding lookup_by lookup
lookup_own image name h e = ap (λ (x : Lookup). cond (ltb (length image) 2072) (nothing 0) x) (same_by_length (leb 4294967295 (length name)) refl)
  where
    same_by_length : (t : Bool) → leb 4294967295 (length name) ≡ t
        → cond t (nothing 0) (lookup_hash image name h) ≡ cond t (nothing 0) (lookup_hash image name (hash_of name))
    same_by_length true q = refl
    same_by_length false q = ap (lookup_hash image name) (e (leb-false 4294967295 (length name) q))

-- ---- the rest of a lookup after c buckets

pub from_unread : (image name : List ℕ) (h c : ℕ) → unsearched image (table_of h) ≡ true → nothing 0 ≡ search_from image name h c
unfolding search_from
from_unread image name h c e = rw e

pub from_read : (image name : List ℕ) (h c at n : ℕ) → unsearched image (table_of h) ≡ false → at ≡ table_at image (table_of h)
    → n ≡ bucket_number image (table_of h)
    → search_rest image name h at n (bucket_after h n c) (n - c) ≡ search_from image name h c
unfolding search_from
from_read image name h c at n e ea en = rw e (λ i. search_rest image name h (ea i) (en i) (bucket_after h (en i) c) (en i - c))

-- after all of a table's n buckets, 0 where none is read
pub from_over : (image name : List ℕ) (h c n : ℕ) → (n ≡ 0 → unsearched image (table_of h) ≡ true)
    → (0 < n → (unsearched image (table_of h) ≡ false) × (n ≡ bucket_number image (table_of h))) → n ≤ c → nothing n ≡ search_from image name h c
from_over image name h c n none some l =
    elim (ℕ_discrete n 0) [
      | yes z ↦ ap nothing z ∙ from_unread image name h c (none z)
      | no z ↦
          let row = some (omega arith) in
          let e : n ≡ n - (n - c) = omega arith in
          ap nothing e ∙ rest_over image name h (table_at image (table_of h)) n (bucket_after h n c) (n - c) (omega arith)
          ∙ from_read image name h c (table_at image (table_of h)) n row.0 refl row.1
    ]

-- before the first bucket it is the whole
module _ (image name : List ℕ) (h : ℕ) where
  abbrev o : ℕ
  o = table_at image (table_of h)

  abbrev size : ℕ
  size = bucket_number image (table_of h)

  all_left : search_rest image name h o size (bucket_after h size 0) (size - 0) ≡ search_table image name h o size
  all_left =
      let x : h / 256 + 0 ≡ h / 256 = omega arith in
      let f : size - 0 ≡ size = omega arith in
      (λ i. search_rest image name h o size (x i % size) (f i)) ∙ rest_start image name h o size

  pub from_start : search_from image name h 0 ≡ lookup_hash image name h
  from_start = by_searched (unsearched image (table_of h)) refl
    where
      by_searched : (t : Bool) → unsearched image (table_of h) ≡ t → search_from image name h 0 ≡ lookup_hash image name h
      by_searched true e = sym (from_unread image name h 0 e) ∙ lookup_unread image name h e
      by_searched false e = sym (from_read image name h 0 o size e refl refl) ∙ all_left ∙ lookup_read image name h o size e refl refl

pub from_by : (image name : List ℕ) (h c : ℕ) (s l : Bool) → ltb (length image) 2072 ≡ s → leb 4294967295 (length name) ≡ l
    → cond s (nothing 0) (cond l (nothing 0) (search_from image name h c)) ≡ lookup_from image name h c
unfolding lookup_from
from_by image name h c s l es el = sym (λ i. cond (es i) (nothing 0) (cond (el i) (nothing 0) (search_from image name h c)))

-- where the search answers the whole search's answer, the lookup does
pub from_whole : (image name : List ℕ) (h c : ℕ) → (2072 ≤ length image → search_from image name h c ≡ lookup_hash image name h)
    → lookup_from image name h c ≡ lookup_by image name h
unfolding lookup_from lookup_by
from_whole image name h c e = whole_by_length (ltb (length image) 2072) refl
  where
    whole_by_length : (t : Bool) → ltb (length image) 2072 ≡ t
        → cond t (nothing 0) (cond (leb 4294967295 (length name)) (nothing 0) (search_from image name h c))
        ≡ cond t (nothing 0) (cond (leb 4294967295 (length name)) (nothing 0) (lookup_hash image name h))
    whole_by_length true q = refl
    whole_by_length false q = ap (cond (leb 4294967295 (length name)) (nothing 0)) (e (ltb-false (length image) 2072 q))

-- The search of the home check along the buckets, a step at a time. Assumes nothing.
use Prim.Native.Nat.{ℕ, suc, ◌+◌, ◌*◌, ◌-◌, ◌≤◌, ◌<◌}
use native.Mathlib.Omega.{arith}
use mathlib.Core.Path.{◌≡◌, refl, sym, ap, ap₂, ◌∙◌}
use mathlib.Core.Bool.{Bool, true, false, cond, ◌||◌}
use mathlib.Core.List.{List}
use borrow.Author.Tests.{eq-eqb, ne_eqb}
use lib.Dec.{eqb, ltb, leb}
use lib.ListN.{length, take, drop}
use Rattle.jhash.specs.NameHash.{hash_of}
use Rattle.image.specs.Tables.{table_of, start, next, probe_sequence}
use Rattle.image.specs.Head.{table_at, bucket_number}
use Rattle.reader.specs.Lookup.{Probe, probe_bucket, unsearched}
use Rattle.std.proofs.Math.Option.{some, none}
use Rattle.reader.specs.Naming.{Naming, place, unnamed, naming, bytes_at, name_given}
use Rattle.consistency.specs.Matches.{Matches, ended, add_match, matches_along, matches_in, matches_by_hash, matches_of, any_match}
use Rattle.consistency.specs.Home.{home_by, home}

-- ---- the search

-- what is left of the search in the table of n buckets at o, before bucket k and with m buckets left
abbrev pub matches_rest : List ℕ → List ℕ → ℕ → ℕ → ℕ → ℕ → ℕ → Matches
matches_rest image name h o n k m = matches_along (λ (j : ℕ). probe_bucket image name h (o + 8 * j)) (probe_sequence n m k) (n - m)

module _ (image name : List ℕ) (h o n : ℕ) where
  abbrev look : ℕ → Probe
  look j = probe_bucket image name h (o + 8 * j)

  pub matches_start : matches_rest image name h o n (start h n) n ≡ matches_in image name h o n
  unfolding matches_in
  matches_start =
      let e : n - n ≡ 0 = omega arith in
      ap (matches_along look (probe_sequence n n (start h n))) e

  none_left : (k r : ℕ) → matches_along look (probe_sequence n 0 k) r ≡ ended r
  unfolding matches_along probe_sequence
  none_left k r = refl

  one_more : (m k r : ℕ)
      → matches_along look (probe_sequence n (suc m) k) r ≡ add_match (look k) (r + 1) (matches_along look (probe_sequence n m (next n k)) (r + 1))
  unfolding matches_along probe_sequence
  one_more m k r = refl

  -- no bucket is left
  pub matches_over : (id k m : ℕ) → m ≤ 0 → false ≡ any_match id (matches_rest image name h o n k m)
  matches_over id k m l =
      let e : m ≡ 0 = omega arith in
      sym (ap (λ (i : ℕ). any_match id (matches_along look (probe_sequence n i k) (n - m))) e ∙ ap (any_match id) (none_left k (n - m)))

  -- a step, by the probe of its bucket
  pub matches_step : (k m : ℕ) (seen : Probe) → 0 < m → m ≤ n → seen ≡ look k
      → add_match seen (n - (m - 1)) (matches_rest image name h o n (next n k) (m - 1)) ≡ matches_rest image name h o n k m
  matches_step k m seen l f e =
      let p : m ≡ suc (m - 1) = omega arith in
      let r : n - (m - 1) ≡ n - m + 1 = omega arith in
      ap (λ (s : Probe). add_match s (n - (m - 1)) (matches_rest image name h o n (next n k) (m - 1))) e
      ∙ ap (λ (i : ℕ). add_match (look k) i (matches_along look (probe_sequence n (m - 1) (next n k)) i)) r
      ∙ sym (ap (λ (i : ℕ). matches_along look (probe_sequence n i k) (n - m)) p ∙ one_more (m - 1) k (n - m))

-- the loop of the search: what is left of it has a match with the id exactly where the whole search has
pub record MatchInv (image name : List ℕ) (h o n id k left : ℕ) : Type 0 where
  pub bucket : k < n
  pub most : left ≤ n
  pub same : any_match id (matches_rest image name h o n k left) ≡ any_match id (matches_in image name h o n)

-- an entry with this id decides; past another one the rest does
pub this_one : (i id : ℕ) (rest : Bool) → i ≡ id → true ≡ (eqb i id || rest)
this_one i id rest e = sym (ap (λ (b : Bool). b || rest) (eq-eqb i id e))

pub another : (i id : ℕ) (rest : Bool) → (i ≡ id → ⊥) → rest ≡ (eqb i id || rest)
another i id rest e = sym (ap (λ (b : Bool). b || rest) (ne_eqb i id e))

-- ---- by the table's row, and by image and name

pub matches_unread : (image name : List ℕ) (h id : ℕ) → unsearched image (table_of h) ≡ true → false ≡ any_match id (matches_by_hash image name h)
unfolding matches_by_hash
matches_unread image name h id e = rw e

pub matches_read : (image name : List ℕ) (h at n id : ℕ) → unsearched image (table_of h) ≡ false → at ≡ table_at image (table_of h)
    → n ≡ bucket_number image (table_of h)
    → any_match id (matches_in image name h at n) ≡ any_match id (matches_by_hash image name h)
unfolding matches_by_hash
matches_read image name h at n id e ea en = rw e (ap (any_match id) (ap₂ (matches_in image name h) ea en))

pub matches_by : (image name : List ℕ) (id : ℕ) (s l : Bool) → ltb (length image) 2072 ≡ s → leb 4294967295 (length name) ≡ l
    → any_match id (cond s (ended 0) (cond l (ended 0) (matches_by_hash image name (hash_of name)))) ≡ any_match id (matches_of image name)
unfolding matches_of
matches_by image name id s l es el = sym (λ i. any_match id (cond (es i) (ended 0) (cond (el i) (ended 0) (matches_by_hash image name (hash_of name)))))

-- ---- by the name of an id

home_by_named : (image : List ℕ) (id : ℕ) (name : List ℕ) (x : Naming) → some name ≡ bytes_at image x
    → any_match id (matches_of image name) ≡ home_by image id x
home_by_named image id name (place s n) e =
    let same : name ≡ take n (drop s image) = cc in
    ap (λ (l : List ℕ). any_match id (matches_of image l)) same
home_by_named image id name unnamed e = let z : ◌≡◌ {A = ℕ} 0 1 = cc in absurd (omega arith)

home_by_unnamed : (image : List ℕ) (id : ℕ) (x : Naming) → none ≡ bytes_at image x → false ≡ home_by image id x
home_by_unnamed image id (place s n) e = let z : ◌≡◌ {A = ℕ} 0 1 = cc in absurd (omega arith)
home_by_unnamed image id unnamed e = refl

-- the home check, by the name that the id gives
pub home_named : (image : List ℕ) (id : ℕ) (name : List ℕ) → some name ≡ name_given image id → any_match id (matches_of image name) ≡ home image id
unfolding home
home_named image id name e = home_by_named image id name (naming image id) e

pub not_home : (image : List ℕ) (id : ℕ) → none ≡ name_given image id → false ≡ home image id
unfolding home
not_home image id e = home_by_unnamed image id (naming image id) e

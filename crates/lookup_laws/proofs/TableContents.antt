-- Which entries a search in a filled table meets, and how many buckets it reads. Assumes nothing.
use mathlib.Core.Path.{◌≡◌, refl, sym, ap, ◌∙◌}
use mathlib.Core.List.{List, [], ◌∷◌, ◌++◌, map, append-nil, append_assoc}
use mathlib.Core.Logic.{◌⊎◌, inl, inr}
use Prim.Native.Nat.{ℕ, suc, ◌+◌, ◌/◌, ◌≤◌, ◌<◌}
use native.Mathlib.Nat.{mod-lt}
use native.Mathlib.Omega.{arith}
use lib.ListN.{length, get_or, set, replicate, length-replicate}
use Rattle.image.specs.Tables.{Bucket, empty, start, probe_sequence, insert, insert_all, filled}
use Rattle.image.proofs.Sizes.{length_insert}
use Rattle.reader.specs.Lookup.{Hit, Probe, pass, ends}
use Rattle.image.proofs.AllOfList.{All}
use Rattle.image.proofs.Buckets.{get_or_empties}
use Rattle.lookup_laws.proofs.Scan.{hits, used, Good, hit_of, idx, idx_below, used_set}
use Rattle.lookup_laws.proofs.Scan.{own_good, own_hits, other_good, other_hits}
use Rattle.lookup_laws.proofs.ProbeSequence.{view, view_length}
use Rattle.lookup_laws.proofs.SearchFilling.{hits_in, ends_used, ends_good, ends_hits, EndsAtEmpty, own_step, any_step}

-- ---- what holds after each entry: m buckets are taken, whatever the search's start, and no hit stands behind an empty one

pub record TableContents (f : Bucket → Probe) (n s₀ : ℕ) (table : List Bucket) (m : ℕ) : Type 0 where
  pub sized : length table ≡ n
  pub counts : (s : ℕ) → s < n → used (view n f table s) ≡ m
  pub good : Good (view n f table s₀)

-- an entry of another start than the search's is passed
abbrev pub OtherStart : (Bucket → Probe) → ℕ → ℕ → Type 0
OtherStart f n s₀ = (b : Bucket) → (b.at ≡ 0 → ⊥) → (start b.hash n ≡ s₀) ⊎ (f b ≡ pass)

abbrev pub NotEmpty : Bucket → Type 0
NotEmpty b = b.at ≡ 0 → ⊥

module _ (f : Bucket → Probe) (sees : EndsAtEmpty f) (n s₀ : ℕ) (inside : s₀ < n) (apart : OtherStart f n s₀) where
  none_held : TableContents f n s₀ (replicate n empty) 0
  unfolding view
  none_held = record {
    sized = length-replicate n empty;
    counts = λ s h. ends_used (λ (k : ℕ). f (get_or (replicate n empty) k empty)) clear (probe_sequence n n s);
    good = ends_good (λ (k : ℕ). f (get_or (replicate n empty) k empty)) clear (probe_sequence n n s₀);
  }
    where
      clear : (k : ℕ) → f (get_or (replicate n empty) k empty) ≡ ends
      clear k = rw (get_or_empties n k) (sees.empties empty refl)

  none_hits : hits (view n f (replicate n empty) s₀) ≡ []
  unfolding view
  none_hits =
      ends_hits (λ (k : ℕ). f (get_or (replicate n empty) k empty)) (λ k. rw (get_or_empties n k) (sees.empties empty refl)) (probe_sequence n n s₀)

  module _ (table : List Bucket) (m : ℕ) (held : TableContents f n s₀ table m) (room : m < n) (b : Bucket) (full : NotEmpty b) where
    start_below : start b.hash n < n
    start_below = mod-lt (b.hash / 256) (omega arith)

    has_empty : (s : ℕ) → s < n → idx (view n f table s) < n
    has_empty s h =
        let l = view_length n f table s in
        let u = held.counts s h in
        rw l at (idx_below (view n f table s) (omega arith))

    own : start b.hash n ≡ s₀ → view n f (insert n table b) s₀ ≡ set (view n f table s₀) (idx (view n f table s₀)) (f b)
    own e = rw e at (own_step f sees n table held.sized b start_below (has_empty (start b.hash n) start_below))

    any : (s : ℕ) → s < n → (j : ℕ) × (get_or (view n f table s) j pass ≡ ends) × (view n f (insert n table b) s ≡ set (view n f table s) j (f b))
    any s h = any_step f sees n table held.sized b start_below (has_empty (start b.hash n) start_below) s h

    good_more : (start b.hash n ≡ s₀) ⊎ (f b ≡ pass) → Good (view n f (insert n table b) s₀)
    good_more (inl e) = rw (own e) (own_good (view n f table s₀) (f b) (sees.takes b full) held.good)
    good_more (inr e) = first_end_set (any s₀ inside)
      where
        first_end_set : (j : ℕ) × (get_or (view n f table s₀) j pass ≡ ends) × (view n f (insert n table b) s₀ ≡ set (view n f table s₀) j (f b))
            → Good (view n f (insert n table b) s₀)
        first_end_set (j, p, q) = rw (q, e) (other_good (view n f table s₀) j p held.good)

    hits_more : (start b.hash n ≡ s₀) ⊎ (f b ≡ pass)
        → hits (view n f (insert n table b) s₀) ≡ hits (view n f table s₀) ++ hit_of (f b)
    hits_more (inl e) =
        rw (own e)
        (own_hits (view n f table s₀) (f b) (sees.takes b full) held.good (rw (view_length n f table s₀) (has_empty s₀ inside)))
    hits_more (inr e) = first_end_passes (any s₀ inside)
      where
        first_end_passes : (j : ℕ) × (get_or (view n f table s₀) j pass ≡ ends) × (view n f (insert n table b) s₀ ≡ set (view n f table s₀) j (f b))
            → hits (view n f (insert n table b) s₀) ≡ hits (view n f table s₀) ++ hit_of (f b)
        first_end_passes (j, p, q) = rw (q, e) (other_hits (view n f table s₀) j p held.good ∙ sym (append-nil (hits (view n f table s₀))))

    one_more : TableContents f n s₀ (insert n table b) (suc m)
    one_more = record {
      sized = length_insert n table b ∙ held.sized;
      counts = λ s h. one_more_used s h (any s h);
      good = good_more (apart b full);
    }
      where
        one_more_used : (s : ℕ) → s < n → (j : ℕ) × (get_or (view n f table s) j pass ≡ ends)
            × (view n f (insert n table b) s ≡ set (view n f table s) j (f b))
            → used (view n f (insert n table b) s) ≡ suc m
        one_more_used s h (j, p, q) = rw q (used_set (view n f table s) j (f b) (sees.takes b full) p ∙ ap suc (held.counts s h))

  held_all : (bs table : List Bucket) (m : ℕ) → TableContents f n s₀ table m → m + length bs ≤ n → All NotEmpty bs
      → TableContents f n s₀ (insert_all n table bs) (m + length bs)
  unfolding insert_all
  held_all [] table m held room full = let e : m ≡ m + 0 = omega arith in rw (← e) held
  held_all (b ∷ bs) table m held room full =
      let e : suc m + length bs ≡ m + suc (length bs) = omega arith in
      rw e at (held_all bs (insert n table b) (suc m) (one_more table m held (omega arith) b full.0) (omega arith) full.1)

  hits_all : (bs table : List Bucket) (m : ℕ) → TableContents f n s₀ table m → m + length bs ≤ n → All NotEmpty bs
      → hits (view n f (insert_all n table bs) s₀) ≡ hits (view n f table s₀) ++ hits_in (map f bs)
  unfolding insert_all
  hits_all [] table m held room full = sym (append-nil (hits (view n f table s₀)))
  hits_all (b ∷ bs) table m held room full =
      hits_all bs (insert n table b) (suc m) (one_more table m held (omega arith) b full.0) (omega arith) full.1
      ∙ ap (λ (l : List Hit). l ++ hits_in (map f bs)) (hits_more table m held (omega arith) b full.0 (apart b full.0))
      ∙ append_assoc (hits (view n f table s₀)) (hit_of (f b)) (hits_in (map f bs))

  pub filled_used : (bs : List Bucket) → length bs ≤ n → All NotEmpty bs → used (view n f (filled n bs) s₀) ≡ length bs
  unfolding filled
  filled_used bs room full =
      (held_all bs (replicate n empty) 0 none_held (omega arith) full).counts s₀ inside ∙ zeroed
    where
      zeroed : 0 + length bs ≡ length bs
      zeroed = omega arith

  pub filled_hits : (bs : List Bucket) → length bs ≤ n → All NotEmpty bs → hits (view n f (filled n bs) s₀) ≡ hits_in (map f bs)
  unfolding filled
  filled_hits bs room full =
      hits_all bs (replicate n empty) 0 none_held (omega arith) full
      ∙ ap (λ (l : List Hit). l ++ hits_in (map f bs)) none_hits

-- A table that takes its entries one by one, seen by one search: each entry fills one empty bucket, an entry of the search's own start the
-- first one. So a search meets the hits among the table's entries, in their order. Assumes nothing.
use mathlib.Core.Path.{◌≡◌, refl, sym, ap, ◌∙◌}
use mathlib.Core.Bool.{Bool, true, false, cond}
use mathlib.Core.List.{List, [], ◌∷◌, ◌++◌, map}
use Prim.Native.Nat.{ℕ, suc, ◌+◌, ◌%◌, ◌<◌}
use native.Mathlib.Nat.{mod-lt}
use native.Mathlib.Omega.{arith}
use borrow.Author.Tests.{eqb-true, eqb-false}
use lib.Dec.{eqb}
use lib.ListN.{length, get_or, set}
use Rattle.image.specs.Tables.{Bucket, empty, at_of, start, probe_sequence, first_empty, insert}
use Rattle.reader.specs.Lookup.{Hit, Probe, pass, ends, hit}
use Rattle.lookup_laws.proofs.Scan.{hits, used, Good, Clear, Taken, hit_of, idx, idx_empty}
use Rattle.image.proofs.Buckets.{length-probe_sequence}
use Rattle.lookup_laws.proofs.ProbeSequence.{probe_sequence_at, place_of, view, view_length, view_at, view_set}

-- the hits of a list of entries
abbrev pub hits_in : List Probe → List Hit
hits_in [] = []
hits_in (x ∷ w) = hit_of x ++ hits_in w

-- ---- an empty table

module _ (g : ℕ → Probe) (all : (k : ℕ) → g k ≡ ends) where
  pub ends_used : (ks : List ℕ) → used (map g ks) ≡ 0
  ends_used [] = refl
  ends_used (k ∷ ks) = rw (all k) (ends_used ks)

  ends_clear : (ks : List ℕ) → Clear (map g ks)
  ends_clear [] = tt
  ends_clear (k ∷ ks) = rw (all k) (ends_clear ks)

  pub ends_good : (ks : List ℕ) → Good (map g ks)
  ends_good [] = tt
  ends_good (k ∷ ks) = rw (all k) (ends_clear ks)

  pub ends_hits : (ks : List ℕ) → hits (map g ks) ≡ []
  ends_hits [] = refl
  ends_hits (k ∷ ks) = rw (all k)

-- ---- the bucket that an entry takes

idx_taken : (x : Probe) (w : List Probe) → Taken x → idx (x ∷ w) ≡ suc (idx w)
idx_taken pass w t = refl
idx_taken ends w t = absurd t
idx_taken (hit told) w t = refl

-- what a search sees: an empty bucket ends it, and no other does
pub record EndsAtEmpty (f : Bucket → Probe) : Type 0 where
  pub empties : (b : Bucket) → b.at ≡ 0 → f b ≡ ends
  pub takes : (b : Bucket) → (b.at ≡ 0 → ⊥) → Taken (f b)

module _ (f : Bucket → Probe) (sees : EndsAtEmpty f) where
  first_empty_place : (table : List Bucket) (ks : List ℕ) → idx (map (λ (k : ℕ). f (get_or table k empty)) ks) < length ks
      → first_empty (at_of table) ks ≡ get_or ks (idx (map (λ (k : ℕ). f (get_or table k empty)) ks)) 0
  unfolding first_empty
  first_empty_place table [] h = absurd (omega arith)
  first_empty_place table (k ∷ ks) h = by_first_slot (eqb (at_of table k) 0) refl (first_empty_place table ks)
    where
      w : List Probe
      w = map (λ (k : ℕ). f (get_or table k empty)) ks

      by_first_slot : (t : Bool) → eqb (at_of table k) 0 ≡ t → (idx w < length ks → first_empty (at_of table) ks ≡ get_or ks (idx w) 0)
          → cond t k (first_empty (at_of table) ks) ≡ get_or (k ∷ ks) (idx (f (get_or table k empty) ∷ w)) 0
      by_first_slot true e ih = rw (sees.empties (get_or table k empty) (eqb-true (at_of table k) 0 e))
      by_first_slot false e ih =
          let i : idx (f (get_or table k empty) ∷ w) ≡ suc (idx w) =
          idx_taken (f (get_or table k empty)) w (sees.takes (get_or table k empty) (eqb-false (at_of table k) 0 e)) in
          rw i (ih (omega arith))

  module _ (n : ℕ) (table : List Bucket) (sized : length table ≡ n) (b : Bucket) where
    -- with room, the search from the entry's own start has a first empty bucket
    own_place : start b.hash n < n → idx (view n f table (start b.hash n)) < n
        → first_empty (at_of table) (probe_sequence n n (start b.hash n)) ≡ (start b.hash n + idx (view n f table (start b.hash n))) % n
    unfolding view
    own_place hs hi =
        let s = start b.hash n in
        first_empty_place table (probe_sequence n n s) (rw (length-probe_sequence n n s) hi) ∙ probe_sequence_at n n s (idx (view n f table s)) hs hi

    pub own_step : start b.hash n < n → idx (view n f table (start b.hash n)) < n
        → view n f (insert n table b) (start b.hash n)
        ≡ set (view n f table (start b.hash n)) (idx (view n f table (start b.hash n))) (f b)
    unfolding insert
    own_step hs hi =
        rw (own_place hs hi)
        (view_set n f table (start b.hash n) (idx (view n f table (start b.hash n))) b sized hs hi)

    -- from any start, that bucket is one of the empty ones
    pub any_step : start b.hash n < n → idx (view n f table (start b.hash n)) < n → (s : ℕ) → s < n
        → (j : ℕ) × (get_or (view n f table s) j pass ≡ ends) × (view n f (insert n table b) s ≡ set (view n f table s) j (f b))
    unfolding insert
    any_step hs hi s h =
        ends_at_place (first_empty (at_of table) (probe_sequence n n s₀))
        (place_of n s (first_empty (at_of table) (probe_sequence n n s₀)) h (rw (own_place hs hi) (mod-lt (s₀ + i) (omega arith))))
        (rw (own_place hs hi) was)
      where
        s₀ : ℕ
        s₀ = start b.hash n

        i : ℕ
        i = idx (view n f table s₀)

        was : f (get_or table ((s₀ + i) % n) empty) ≡ ends
        was = sym (view_at n f table s₀ i hs hi) ∙ idx_empty (view n f table s₀) (rw (view_length n f table s₀) hi)

        ends_at_place : (k : ℕ) → (j : ℕ) × (j < n) × ((s + j) % n ≡ k) → f (get_or table k empty) ≡ ends
            → (j : ℕ) × (get_or (view n f table s) j pass ≡ ends) × (view n f (set table k b) s ≡ set (view n f table s) j (f b))
        ends_at_place k (j, hj, e) e₀ = (
          j,
          view_at n f table s j h hj ∙ ap (λ (k : ℕ). f (get_or table k empty)) e ∙ e₀,
          rw (← e) (view_set n f table s j b sized h hj),
        )

-- The places of a search among n buckets: the j-th that it meets from s on is (s + j) % n, each bucket once. Assumes nothing.
use mathlib.Core.Path.{◌≡◌, refl, sym, ap, ◌∙◌}
use mathlib.Core.List.{List, [], ◌∷◌, map}
use mathlib.Core.Logic.{◌⊎◌, inl, inr}
use Prim.Native.Nat.{ℕ, zero, suc, ◌+◌, ◌-◌, ◌%◌, ◌≤◌, ◌<◌}
use native.Mathlib.Nat.{mod-lt, mod-eq_of_lt, mod-eq-sub-mod, mod-add-mod, add-mod_right, add-zero}
use native.Mathlib.Decide.{dec_lt, dec_le, ℕ_discrete}
use native.Mathlib.Omega.{arith}
use lib.ListN.{length, get_or, set, length-set, length-map}
use lib.Seq.{ext_get_or, get_or-set_same, get_or-set_other}
use Rattle.image.proofs.Buckets.{length-probe_sequence}
use Rattle.image.specs.Tables.{Bucket, empty, next, probe_sequence}
use Rattle.reader.specs.Lookup.{Probe, pass}
use Rattle.consistency.specs.Matches.{matches_along}

-- ---- the buckets in search order

pub probe_sequence_at : (n m k j : ℕ) → k < n → j < m → get_or (probe_sequence n m k) j 0 ≡ (k + j) % n
unfolding probe_sequence
probe_sequence_at n zero k j h i = absurd (omega arith)
probe_sequence_at n (suc m) k zero h i = sym (rw add-zero (mod-eq_of_lt h))
probe_sequence_at n (suc m) k (suc j) h i =
    let e : k + 1 + j ≡ k + suc j = omega arith in
    probe_sequence_at n m (next n k) j (mod-lt (k + 1) (omega arith)) (omega arith)
    ∙ mod-add-mod (k + 1) n j
    ∙ ap (λ (x : ℕ). x % n) e

-- two searches that see the same in each bucket meet the same
pub matches_ext : (f g : ℕ → Probe) (n : ℕ) → ((k : ℕ) → k < n → f k ≡ g k) → (m k r : ℕ) → k < n
    → matches_along f (probe_sequence n m k) r ≡ matches_along g (probe_sequence n m k) r
unfolding probe_sequence matches_along
matches_ext f g n same zero k r h = refl
matches_ext f g n same (suc m) k r h =
    rw (same k h, matches_ext f g n same m (next n k) (r + 1) (mod-lt (k + 1) (omega arith)))

-- ---- each bucket once

abbrev Wrapped : ℕ → ℕ → ℕ → Type 0
Wrapped n a b = ((a + b < n) × ((a + b) % n ≡ a + b)) ⊎ ((n ≤ a + b) × ((a + b) % n + n ≡ a + b))

wrapped : (n a b : ℕ) → a < n → b < n → Wrapped n a b
wrapped n a b h i = elim (dec_lt (a + b) n) [
  | yes p ↦ inl (p, mod-eq_of_lt p)
  | no p ↦
      let q : n ≤ a + b = omega arith in
      let e : (a + b) % n ≡ a + b - n = mod-eq-sub-mod q ∙ mod-eq_of_lt (omega arith) in
      inr (q, omega arith)
]

place_injective : (n s i j : ℕ) → s < n → i < n → j < n → (s + i) % n ≡ (s + j) % n → i ≡ j
place_injective n s i j hs hi hj e = by_wraps (wrapped n s i hs hi) (wrapped n s j hs hj)
  where
    by_wraps : Wrapped n s i → Wrapped n s j → i ≡ j
    by_wraps (inl a) (inl b) = omega arith
    by_wraps (inl a) (inr b) = omega arith
    by_wraps (inr a) (inl b) = omega arith
    by_wraps (inr a) (inr b) = omega arith

-- and every bucket has its place
pub place_of : (n s k : ℕ) → s < n → k < n → (j : ℕ) × (j < n) × ((s + j) % n ≡ k)
place_of n s k hs hk = elim (dec_le s k) [
  | yes p ↦
      let e : s + (k - s) ≡ k = omega arith in
      (k - s, omega arith, ap (λ (x : ℕ). x % n) e ∙ mod-eq_of_lt hk)
  | no p ↦
      let e : s + (k + n - s) ≡ k + n = omega arith in
      (k + n - s, omega arith, ap (λ (x : ℕ). x % n) e ∙ add-mod_right k n ∙ mod-eq_of_lt hk)
]

-- ---- a table in search order

unfoldable pub view : ℕ → (Bucket → Probe) → List Bucket → ℕ → List Probe
view n f table s = map (λ (k : ℕ). f (get_or table k empty)) (probe_sequence n n s)

pub view_length : (n : ℕ) (f : Bucket → Probe) (table : List Bucket) (s : ℕ) → length (view n f table s) ≡ n
unfolding view
view_length n f table s = length-map (probe_sequence n n s) (λ (k : ℕ). f (get_or table k empty)) ∙ length-probe_sequence n n s

get_or-map_in : (g : ℕ → Probe) (ks : List ℕ) (j : ℕ) → j < length ks → get_or (map g ks) j pass ≡ g (get_or ks j 0)
get_or-map_in g [] j h = absurd (omega arith)
get_or-map_in g (k ∷ ks) zero h = refl
get_or-map_in g (k ∷ ks) (suc j) h = get_or-map_in g ks j (omega arith)

pub view_at : (n : ℕ) (f : Bucket → Probe) (table : List Bucket) (s j : ℕ) → s < n → j < n
    → get_or (view n f table s) j pass ≡ f (get_or table ((s + j) % n) empty)
unfolding view
view_at n f table s j hs hj =
    get_or-map_in (λ (k : ℕ). f (get_or table k empty)) (probe_sequence n n s) j (rw (length-probe_sequence n n s) hj)
    ∙ ap (λ (k : ℕ). f (get_or table k empty)) (probe_sequence_at n n s j hs hj)

-- an entry that goes into bucket (s + j) % n stands at place j of the search from s
pub view_set : (n : ℕ) (f : Bucket → Probe) (table : List Bucket) (s j : ℕ) (b : Bucket) → length table ≡ n → s < n → j < n
    → view n f (set table ((s + j) % n) b) s ≡ set (view n f table s) j (f b)
view_set n f table s j b hl hs hj =
    ext_get_or pass (view n f (set table ((s + j) % n) b) s) (set (view n f table s) j (f b)) lengths at
  where
    lengths : length (view n f (set table ((s + j) % n) b) s) ≡ length (set (view n f table s) j (f b))
    lengths = view_length n f (set table ((s + j) % n) b) s ∙ sym (length-set (view n f table s) j (f b) ∙ view_length n f table s)

    below : (s + j) % n < length table
    below = rw hl (mod-lt (s + j) (omega arith))

    one : (i : ℕ) → i < n → Dec (i ≡ j) → f (get_or (set table ((s + j) % n) b) ((s + i) % n) empty) ≡ get_or (set (view n f table s) j (f b)) i pass
    one i hi (yes e) = rw e
        (ap f (get_or-set_same table ((s + j) % n) b empty below)
        ∙ sym (get_or-set_same (view n f table s) j (f b) pass (rw (view_length n f table s) hj)))
    one i hi (no e) =
        ap f (get_or-set_other table ((s + j) % n) ((s + i) % n) b empty (λ q. e (place_injective n s i j hs hi hj q)))
        ∙ sym (view_at n f table s i hs hi)
        ∙ sym (get_or-set_other (view n f table s) j i (f b) pass e)

    at : (i : ℕ) → i < length (view n f (set table ((s + j) % n) b) s)
        → get_or (view n f (set table ((s + j) % n) b) s) i pass ≡ get_or (set (view n f table s) j (f b)) i pass
    at i h =
        let hi : i < n = rw (view_length n f (set table ((s + j) % n) b) s) at h in
        view_at n f (set table ((s + j) % n) b) s i hs hi ∙ one i hi (ℕ_discrete i j)

-- A search in a filled table that has no match: no entry of its hash is equal. Assumes nothing.
use Prim.Native.Nat.{ℕ, zero, suc, ◌+◌, ◌≤◌, ◌<◌}
use native.Mathlib.Omega.{arith}
use native.Mathlib.Nat.{mod-lt}
use mathlib.Core.Path.{◌≡◌, refl, sym, ap, ◌∙◌}
use mathlib.Core.Bool.{Bool, true, false, cond, ◌&&◌}
use mathlib.Core.List.{List, [], ◌∷◌, ◌++◌, map}
use borrow.Author.Tests.{eq-eqb, ne_eqb}
use lib.Dec.{eqb}
use lib.ListN.{length, get_or}
use Rattle.image.specs.Tables.{Bucket, empty, start, next, probe_sequence, filled}
use Rattle.image.proofs.Bools.{false_not_true}
use Rattle.image.proofs.AllOfList.{All, all_map}
use Rattle.reader.specs.Lookup.{Hit, Probe, pass, ends, hit}
use Rattle.lookup_laws.specs.Steps.HasMatch.{has_match}
use Rattle.lookup_laws.proofs.Scan.{Taken, hits, hit_of, match_hits, matches_scan, scan_hits}
use Rattle.lookup_laws.proofs.SearchFilling.{hits_in}
use Rattle.lookup_laws.proofs.TableContents.{NotEmpty}
use Rattle.lookup_laws.proofs.TableSearch.{probe_with, searched}

-- ---- searches of equal buckets

pub has_match_equal : (b d : ℕ → Bucket) (h : ℕ) (v : ℕ → Bool) (n : ℕ) → ((k : ℕ) → k < n → b k ≡ d k) → (m k : ℕ) → k < n
    → has_match b h v (probe_sequence n m k) ≡ has_match d h v (probe_sequence n m k)
unfolding has_match probe_sequence
has_match_equal b d h v n equal zero k l = refl
has_match_equal b d h v n equal (suc m) k l =
    rw (equal k l, has_match_equal b d h v n equal m (next n k) (mod-lt (k + 1) (omega arith)))

-- ---- no match

module _ (h : ℕ) (v : ℕ → Bool) where
  abbrev hit_at : ℕ → Hit
  hit_at o = record { id = 0; offset = o }

  abbrev probe_of_entry : ℕ → Probe
  probe_of_entry o = cond (v o) (hit (hit_at o)) pass

  -- a search without a match has no hit
  no_hit : (b : ℕ → Bucket) (ks : List ℕ) → has_match b h v ks ≡ false → hits (map (λ (k : ℕ). probe_with h probe_of_entry (b k)) ks) ≡ []
  unfolding has_match
  no_hit b [] e = refl
  no_hit b (k ∷ ks) e = no_hit_first (eqb (b k).at 0) (eqb (b k).hash h) (v (b k).at) (no_hit b ks) e
    where
      w : List Probe
      w = map (λ (j : ℕ). probe_with h probe_of_entry (b j)) ks

      no_hit_first : (p q t : Bool) → (has_match b h v ks ≡ false → hits w ≡ []) → cond p false (cond (q && t) true (has_match b h v ks)) ≡ false
          → hits (cond p ends (cond q (cond t (hit (hit_at (b k).at)) pass) pass) ∷ w) ≡ []
      no_hit_first true q t rest e = refl
      no_hit_first false true true rest e = absurd (false_not_true (sym e))
      no_hit_first false true false rest e = rest e
      no_hit_first false false t rest e = rest e

  -- an entry has a verdict
  taken : (b : Bucket) → NotEmpty b → Taken (probe_with h probe_of_entry b)
  taken b full = rw (ne_eqb b.at 0 full) (taken_looked (eqb b.hash h) (v b.at))
    where
      taken_looked : (q t : Bool) → Taken (cond q (cond t (hit (hit_at b.at)) pass) pass)
      taken_looked true true = tt
      taken_looked true false = tt
      taken_looked false t = tt

  -- of another hash, or not equal
  abbrev Other : Bucket → Type 0
  Other b = b.hash ≡ h → v b.at ≡ false

  no_cons : {x : Hit} {w : List Hit} {A : Type 0} → x ∷ w ≡ [] → A
  no_cons e = let z : ◌≡◌ {A = ℕ} 1 0 = cc (ap length e) in absurd (omega arith)

  -- entries without a hit are others
  others : (bs : List Bucket) → All NotEmpty bs → hits_in (map (probe_with h probe_of_entry) bs) ≡ [] → All Other bs
  others [] full e = tt
  others (b ∷ bs) full e = first_other (eqb b.hash h) refl (v b.at) refl (rw (ne_eqb b.at 0 full.0) at e) (others bs full.1)
    where
      w : List Probe
      w = map (probe_with h probe_of_entry) bs

      first_other : (q : Bool) → eqb b.hash h ≡ q → (t : Bool) → v b.at ≡ t → hit_of (cond q (cond t (hit (hit_at b.at)) pass) pass) ++ hits_in w ≡ []
          → (hits_in w ≡ [] → All Other bs) → Other b × All Other bs
      first_other true p true r e rest = no_cons e
      first_other true p false r e rest = (λ z. r, rest e)
      first_other false p t r e rest = (λ z. absurd (false_not_true (sym p ∙ eq-eqb b.hash h z)), rest e)

  pub no_match : (m : ℕ) (bs : List Bucket) → 0 < m → length bs ≤ m → All NotEmpty bs
      → has_match (λ (k : ℕ). get_or (filled m bs) k empty) h v (probe_sequence m m (start h m)) ≡ false → All Other bs
  no_match m bs some room full e =
      let found = searched m h probe_of_entry bs some room (all_map taken bs full) in
      let b : ℕ → Bucket = λ k. get_or (filled m bs) k empty in
      let ks = probe_sequence m m (start h m) in
      others bs full
      (sym found.meets
      ∙ ap match_hits (matches_scan (λ (k : ℕ). probe_with h probe_of_entry (b k)) ks 0)
      ∙ scan_hits (map (λ (k : ℕ). probe_with h probe_of_entry (b k)) ks) 0
      ∙ no_hit b ks e)

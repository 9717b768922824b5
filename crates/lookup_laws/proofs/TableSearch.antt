-- A search in a filled table meets the entries, in the order in which the table took them, whose hash is the one sought and whose offset has a
-- hit; a lookup, which finds the first of them, reads at most one bucket more than there are entries, and no more than there are when it finds one.
-- Assumes nothing.
use mathlib.Core.Path.{◌≡◌, refl, sym, ap, ◌∙◌, fun_ext}
use mathlib.Core.Bool.{Bool, true, false, cond}
use mathlib.Core.List.{List, map}
use mathlib.Core.Logic.{inl, inr}
use Prim.Native.Nat.{ℕ, ◌+◌, ◌/◌, ◌≤◌, ◌<◌}
use native.Mathlib.Nat.{mod-lt}
use native.Mathlib.Decide.{ℕ_discrete}
use native.Mathlib.Omega.{arith}
use borrow.Author.Tests.{eq-eqb, ne_eqb}
use lib.Dec.{eqb}
use lib.ListN.{length, get_or}
use Rattle.image.specs.Tables.{Bucket, empty, start, probe_sequence, filled}
use Rattle.reader.specs.Lookup.{found, Hit, Probe, pass, ends, hit}
use Rattle.consistency.specs.Matches.{Matches, matches_along, first_match}
use Rattle.reader.specs.Lookup.{Found}
use Rattle.reader.specs.Cases.{reads}
use Rattle.image.proofs.AllOfList.{All, all_map, map_ext}
use Rattle.image.proofs.Buckets.{filled_all}
use Rattle.lookup_laws.proofs.Scan.{matches_scan, scan_hits, scan_reads, scan_found, hits, match_hits, used, Taken}
use Rattle.lookup_laws.proofs.ProbeSequence.{view}
use Rattle.lookup_laws.proofs.SearchFilling.{hits_in, EndsAtEmpty}
use Rattle.lookup_laws.proofs.TableContents.{OtherStart, NotEmpty, filled_used, filled_hits}

-- ---- the probe of a bucket in a search for a hash, by the probes v of the offsets of entries with that hash

abbrev pub probe_with : ℕ → (ℕ → Probe) → Bucket → Probe
probe_with h v b = cond (eqb b.at 0) ends (cond (eqb b.hash h) (v b.at) pass)

-- a probe that never ends the search
abbrev no_end : Probe → Probe
no_end pass = pass
no_end ends = pass
no_end (hit told) = hit told

no_end_taken : (x : Probe) → Taken (no_end x)
no_end_taken pass = tt
no_end_taken ends = tt
no_end_taken (hit told) = tt

no_end_same : (x : Probe) → Taken x → no_end x ≡ x
no_end_same pass t = refl
no_end_same ends t = absurd t
no_end_same (hit told) t = refl

module _ (h : ℕ) (v : ℕ → Probe) where
  probe_with_ends : ((o : ℕ) → Taken (v o)) → EndsAtEmpty (probe_with h v)
  probe_with_ends never = record {
    empties = λ b e. ap (λ (t : Bool). cond t ends (cond (eqb b.hash h) (v b.at) pass)) (eq-eqb b.at 0 e);
    takes = λ b e. rw (ne_eqb b.at 0 e) (either b (eqb b.hash h));
  }
    where
      either : (b : Bucket) (t : Bool) → Taken (cond t (v b.at) pass)
      either b true = never b.at
      either b false = tt

  look_apart : (n : ℕ) → OtherStart (probe_with h v) n (start h n)
  look_apart n b full = elim (ℕ_discrete b.hash h) [
    | yes e ↦ inl (ap (λ (x : ℕ). start x n) e)
    | no e ↦ inr (rw (ne_eqb b.at 0 full, ne_eqb b.hash h e))
  ]

  -- where no entry ends the search, both probes agree
  no_ends : (b : Bucket) → Taken (probe_with h v b) → probe_with h (λ (o : ℕ). no_end (v o)) b ≡ probe_with h v b
  no_ends b t = no_end_looked (eqb b.at 0) (eqb b.hash h) t
    where
      no_end_looked : (p q : Bool) → Taken (cond p ends (cond q (v b.at) pass))
          → cond p ends (cond q (no_end (v b.at)) pass) ≡ cond p ends (cond q (v b.at) pass)
      no_end_looked true q t = refl
      no_end_looked false true t = no_end_same (v b.at) t
      no_end_looked false false t = refl

  full_bucket : (b : Bucket) → Taken (probe_with h v b) → NotEmpty b
  full_bucket b t e = rw e at t

-- ---- the search

-- what a search meets: the hits, and how many buckets a lookup reads in a table of m entries
pub record Searched (hs : List Hit) (m : ℕ) (x : Matches) : Type 0 where
  pub meets : match_hits x ≡ hs
  pub most : reads (first_match x) ≤ m + 1
  pub found_most : (f : Found) → first_match x ≡ found f → f.buckets ≤ m

pub searched_same : {a b : List Hit} {m n : ℕ} {k l : Matches} → a ≡ b → m ≡ n → k ≡ l → Searched a m k → Searched b n l
searched_same {a} {b} {m} {n} {k} {l} p q r s = rw (p, q, r) at s

module _ (n h : ℕ) (v : ℕ → Probe) (bs : List Bucket) (some-bucket : 0 < n) (room : length bs ≤ n)
    (each : All (λ (b : Bucket). Taken (probe_with h v b)) bs) where
  abbrev no_ends_at : ℕ → Probe
  no_ends_at o = no_end (v o)

  f : Bucket → Probe
  f = probe_with h no_ends_at

  seen : List Probe
  seen = map (λ (k : ℕ). probe_with h v (get_or (filled n bs) k empty)) (probe_sequence n n (start h n))

  -- every bucket of the table is empty or does not end the search
  seen_view : view n f (filled n bs) (start h n) ≡ seen
  unfolding view f seen
  seen_view =
      ap (λ (g : ℕ → Probe). map g (probe_sequence n n (start h n)))
      (fun_ext λ k. filled_all (λ (b : Bucket). f b ≡ probe_with h v b) n bs refl (all_map (no_ends h v) bs each) k)

  inside : start h n < n
  inside = mod-lt (h / 256) some-bucket

  full : All NotEmpty bs
  full = all_map (full_bucket h v) bs each

  seen_used : used seen ≡ length bs
  unfolding f
  seen_used =
      ap used (sym seen_view)
      ∙ filled_used f (probe_with_ends h no_ends_at (λ o. no_end_taken (v o))) n (start h n) inside (look_apart h no_ends_at n) bs room full

  seen_hits : hits seen ≡ hits_in (map (probe_with h v) bs)
  unfolding f
  seen_hits =
      ap hits (sym seen_view)
      ∙ filled_hits f (probe_with_ends h no_ends_at (λ o. no_end_taken (v o))) n (start h n) inside (look_apart h no_ends_at n) bs room full
      ∙ ap hits_in (map_ext f (probe_with h v) (no_ends h v) bs each)

  pub searched : Searched (hits_in (map (probe_with h v) bs)) (length bs)
      (matches_along (λ (k : ℕ). probe_with h v (get_or (filled n bs) k empty)) (probe_sequence n n (start h n)) 0)
  unfolding seen
  searched =
      rw (matches_scan (λ (k : ℕ). probe_with h v (get_or (filled n bs) k empty)) (probe_sequence n n (start h n)) 0)
      record {
        meets = scan_hits seen 0 ∙ seen_hits;
        most = omega (arith, scan_reads seen 0, seen_used);
        found_most = λ f e. omega (arith, scan_found seen 0 f e, seen_used);
      }

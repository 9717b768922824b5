-- Each entry of a canonical image is found, after at least one bucket and at most as many as its table has entries. Assumes nothing.
use Prim.Native.Nat.{ℕ, ◌+◌, ◌*◌, ◌^◌, ◌≤◌, ◌<◌}
use native.Mathlib.Omega.{arith}
use mathlib.Core.Path.{◌≡◌, refl, ap, ◌∙◌}
use mathlib.Core.Bool.{Bool, true, false, cond}
use mathlib.Core.List.{List, [], ◌∷◌}
use mathlib.Core.Option.{some}
use lib.ListN.{length}
use lib.Dec.{ltb, leb}
use Rattle.jhash.specs.NameHash.{hash_of}
use Rattle.image.specs.Head.{table_at, bucket_number}
use Rattle.image.specs.Image.{Entry, head_size, back_size}
use Rattle.image.specs.Tables.{table_of, start, probe_sequence}
use Rattle.jhash.specs.Word.{AllBytes}
use Rattle.image.proofs.AllOfList.{All, all_map}
use Rattle.reader.specs.Cases.{reads}
use Rattle.reader.specs.Lookup.{Lookup, found, nothing, Probe, pass, ends, hit, probe_bucket, decide, search_along, search_table, unsearched, lookup_hash}
use Rattle.reader.specs.Lookup.{lookup}
use Rattle.reader.specs.Lookup.{Found}
use Rattle.reader.proofs.FoundAt.{not_found}
use Rattle.lookup_laws.specs.Answer.{found_id, table_puts}
use Rattle.lookup_laws.proofs.ImageAnswers.{found_reads}
use Rattle.canonical.specs.Steps.Made.{Made}
use Rattle.canonical.specs.Canonical.{canonical, puts_in}
use Rattle.canonical.proofs.ReadBack.{ids_of, made_puts, canonical_only}
use Rattle.canonical.proofs.Theorem.{canonical_holds}
use Rattle.search_length.specs.SearchLengths.{search_length}

-- ---- what is found was read

probe_some : (look : ℕ → Probe) (ks : List ℕ) (r : ℕ) (f : Found) → search_along look ks r ≡ found f → r < f.buckets
unfolding search_along
probe_some look [] r f e = not_found r f e
probe_some look (k ∷ ks) r f e = more_read (look k) (λ q. probe_some look ks (r + 1) f q) e
  where
    more_read : (s : Probe) → (search_along look ks (r + 1) ≡ found f → r + 1 < f.buckets) → decide s (r + 1) (search_along look ks (r + 1)) ≡ found f
        → r < f.buckets
    more_read pass later e = omega (arith, later e)
    more_read ends later e = not_found (r + 1) f e
    more_read (hit h) later e = let z : r + 1 ≡ f.buckets = cc in omega arith

lookup_some : (img name : List ℕ) (f : Found) → lookup img name ≡ found f → 0 < f.buckets
unfolding lookup lookup_hash search_table
lookup_some img name f e = by_size (ltb (length img) head_size) e
  where
    searched : Lookup
    searched =
        let t = table_of (hash_of name) in
        let n = bucket_number img t in
        search_along (λ (k : ℕ). probe_bucket img name (hash_of name) (table_at img t + 8 * k)) (probe_sequence n n (start (hash_of name) n)) 0

    by_table : (t : Bool) → cond t (nothing 0) searched ≡ found f → 0 < f.buckets
    by_table true q = not_found 0 f q
    by_table false q = probe_some _ _ 0 f q

    by_name : (t : Bool) → cond t (nothing 0) (cond (unsearched img (table_of (hash_of name))) (nothing 0) searched) ≡ found f → 0 < f.buckets
    by_name true q = not_found 0 f q
    by_name false q = by_table (unsearched img (table_of (hash_of name))) q

    by_size : (t : Bool)
        → cond t (nothing 0) (cond (leb 4294967295 (length name)) (nothing 0) (cond (unsearched img (table_of (hash_of name))) (nothing 0) searched))
        ≡ found f
        → 0 < f.buckets
    by_size true q = not_found 0 f q
    by_size false q = by_name (leb 4294967295 (length name)) q

-- ---- the entries of a canonical image

backs : (es : List Entry) → All (λ (e : Entry). e.id < 2 ^ 32) es → back_size es ≤ 2 ^ 32
unfolding back_size
backs [] a = omega arith
backs (e ∷ es) a = omega (arith, a.0, backs es a.1)

-- at least one bucket, and at most those that demand 3 says of a found name
abbrev pub Bounded : List ℕ → List Entry → Entry → Type 0
Bounded img all e = (1 ≤ search_length img e) × (search_length img e ≤ table_puts e.name all)

module _ (img : List ℕ) (bytes : AllBytes img) (own : canonical img ≡ true) where
  made : Made img
  made = canonical_only img bytes own

  found_most : (name : List ℕ) (f : Found) → lookup img name ≡ found f → f.buckets ≤ table_puts name (puts_in img)
  found_most name f e =
      let m = made in
      let most = found_reads m.mode m.puts m.fits (backs m.puts (ids_of m.puts m.each)) name f
      (ap (λ (i : List ℕ). lookup i name) m.is ∙ e) in
      rw (made_puts img m) most

  one_bounded : (e : Entry) → (id : ℕ) × (found_id (lookup img e.name) ≡ some id) → Bounded img (puts_in img) e
  one_bounded e h = bounded_by (lookup img e.name) refl h.1
    where
      bounded_by : (l : Lookup) → lookup img e.name ≡ l → found_id l ≡ some h.0 → Bounded img (puts_in img) e
      bounded_by (found f) q s =
          let r : search_length img e ≡ f.buckets = ap reads q in
          (omega (arith, r, lookup_some img e.name f q), omega (arith, r, found_most e.name f q))
      bounded_by (nothing n) q s = let z : ◌≡◌ {A = ℕ} 0 1 = cc in absurd (omega arith)

  pub all_bounded : All (Bounded img (puts_in img)) (puts_in img)
  all_bounded = all_map one_bounded (puts_in img) (canonical_holds.holds img bytes own).found

-- Searching for a name in an image of entries: all entries of that name are met, in their order; and how many buckets a lookup reads. Assumes nothing.
use mathlib.Core.Path.{◌≡◌, refl, sym, ap, ◌∙◌}
use mathlib.Core.Bool.{Bool, true, false, cond}
use mathlib.Core.List.{List, [], ◌∷◌, map, map-map}
use Prim.Native.Nat.{ℕ, ◌+◌, ◌*◌, ◌/◌, ◌^◌, ◌≤◌, ◌<◌}
use native.Mathlib.Nat.{mod-lt}
use native.Mathlib.Decide.{dec_lt}
use native.Mathlib.Omega.{arith}
use borrow.Author.Tests.{eq-eqb, ne_eqb, lt-leb, le-leb, eqb-true, eqb-false}
use lib.Dec.{eqb, ltb, lit<}
use lib.ListN.{length, get_or, length-map}
use Rattle.jhash.specs.NameHash.{hash_of}
use Rattle.jhash.proofs.Outcomes.{hash_of_below}
use Rattle.image.specs.Bytes.{le32, same}
use Rattle.image.specs.Tables.{Bucket, empty, table_of, start, probe_sequence, filled}
use Rattle.image.specs.Image.{Entry, Placed, head_size, of_table, in_table, count, bucket_of, bucket_bytes, table, entries_before, table_offset}
use Rattle.image.specs.Image.{back_size}
use Rattle.image.specs.Image.{entries_end, image_size, image}
use Rattle.image.specs.declared.Mode.{Mode}
use Rattle.image.proofs.Sizes.{length_image}
use Rattle.reader.specs.Lookup.{nothing, Hit, Probe, pass, hit, probe_entry, probe_bucket, lookup}
use Rattle.consistency.specs.Matches.{ended, matches_along, matches_in, matches_by_hash, matches_of, first_match}
use Rattle.consistency.proofs.Homes.{lookup_first}
use Rattle.lookup_laws.specs.Answer.{table_puts}
use Rattle.image.proofs.AllOfList.{All, all_map, all_both, all_filter, all_image, map_ext}
use Rattle.image.proofs.Buckets.{filled_all}
use Rattle.lookup_laws.proofs.Scan.{Taken}
use Rattle.lookup_laws.proofs.ProbeSequence.{matches_ext}
use Rattle.lookup_laws.proofs.SearchFilling.{hits_in}
use Rattle.lookup_laws.proofs.TableSearch.{probe_with, Searched, searched_same, searched}
use Rattle.image.proofs.At.{at_left, at_word, at_second}
use Rattle.image.proofs.Parts.{placed_in, table_at_image, bucket_number_image, bucket_at_lem}
use Rattle.lookup_laws.proofs.ImageOpening.{long_enough, table_inside}
use Rattle.image.proofs.EntryAt.{EntryAt, entry_fits, all_entries_at, all_placed, ids_below}
use Rattle.lookup_laws.proofs.EntryProbe.{probe_entry_at}
use Rattle.image.proofs.Equal.{same_true}
use Rattle.lookup_laws.proofs.EntriesOf.{hit_of_entry, probe_of_entry, hits_of_name, hits_of_name_lem, no_hits, names_short}

-- a search without a read meets nothing, where nothing is to be found
pub nothing_searched : (hs : List Hit) (m : ℕ) → hs ≡ [] → Searched hs m (ended 0)
nothing_searched hs m e = record {
  meets = sym e;
  most = omega arith;
  found_most = λ f q. let z : ◌≡◌ {A = ℕ} 0 1 = cc in omega arith;
}

-- a name that is too long for a hash, in any bytes
met_long : (image name : List ℕ) → 4294967295 ≤ length name → matches_of image name ≡ ended 0
unfolding matches_of
met_long image name h = rw (le-leb 4294967295 (length name) h) (ended_either_way (ltb (length image) head_size))
  where
    ended_either_way : (b : Bool) → cond b (ended 0) (ended 0) ≡ ended 0
    ended_either_way true = refl
    ended_either_way false = refl

pub lookup_long : (image name : List ℕ) → 4294967295 ≤ length name → lookup image name ≡ nothing 0
lookup_long image name h = lookup_first image name ∙ ap first_match (met_long image name h)

module _ (mode : Mode) (es : List Entry) (fits : image_size mode es ≤ 4294967295) (ids : back_size es ≤ 2 ^ 32) (name : List ℕ) where
  small : length (image mode es) ≤ 4294967295
  small = omega (arith, length_image mode es)

  t_below : table_of (hash_of name) < 256
  t_below = mod-lt (hash_of name) (lit< tt)

  -- the entries of the name's table, and the verdict on an offset
  qs : List Placed
  qs = of_table (table_of (hash_of name)) (placed_in es)

  v : ℕ → Probe
  v = probe_entry (image mode es) name

  abbrev Read : Placed → Type 0
  Read p = EntryAt (image mode es) p × (p.entry.id < 2 ^ 32)

  all_read : All Read qs
  unfolding qs of_table
  all_read =
      all_filter Read (in_table (table_of (hash_of name))) (placed_in es)
      (all_both (EntryAt (image mode es)) (λ (p : Placed). p.entry.id < 2 ^ 32) (placed_in es) (all_entries_at mode es)
      (all_placed (λ (e : Entry). e.id < 2 ^ 32) head_size es (ids_below es (2 ^ 32) ids)))

  -- ---- what is seen in an entry's bucket

  look_entry : (p : Placed) → Read p → probe_with (hash_of name) v (bucket_of p) ≡ probe_of_entry name p
  unfolding v
  look_entry p (s, i) =
      rw (ne_eqb p.at 0 (λ z. let a = s.after in omega arith), probe_entry_at p.entry s.there small name i)
      (by_same_name (same p.entry.name name) refl)
    where
      by_same_name : (b : Bool) → same p.entry.name name ≡ b
          → cond (eqb (hash_of p.entry.name) (hash_of name)) (cond b (hit (hit_of_entry p)) pass) pass ≡ cond b (hit (hit_of_entry p)) pass
      by_same_name true e = rw (eq-eqb (hash_of p.entry.name) (hash_of name) (ap hash_of (same_true p.entry.name name e)))
      by_same_name false e = other (eqb (hash_of p.entry.name) (hash_of name))
        where
          other : (c : Bool) → cond c pass pass ≡ pass
          other true = refl
          other false = refl

  taken_entry : (p : Placed) → Read p → Taken (probe_with (hash_of name) v (bucket_of p))
  taken_entry p r = rw (look_entry p r) (taken_either_way (same p.entry.name name))
    where
      taken_either_way : (b : Bool) → Taken (cond b (hit (hit_of_entry p)) pass)
      taken_either_way true = tt
      taken_either_way false = tt

  all_taken : All (λ (b : Bucket). Taken (probe_with (hash_of name) v b)) (map bucket_of qs)
  all_taken = all_image (λ (b : Bucket). Taken (probe_with (hash_of name) v b)) bucket_of taken_entry qs all_read

  looks : map (probe_with (hash_of name) v) (map bucket_of qs) ≡ map (probe_of_entry name) qs
  looks =
      map-map (probe_with (hash_of name) v) bucket_of qs
      ∙ map_ext (λ (p : Placed). probe_with (hash_of name) v (bucket_of p)) (probe_of_entry name) look_entry qs all_read

  -- ---- the buckets as they are read

  abbrev Words : Bucket → Type 0
  Words b = (b.hash < 2 ^ 32) × (b.at < 2 ^ 32)

  bucket_words : (k : ℕ) → Words (get_or (table (table_of (hash_of name)) (placed_in es)) k empty)
  unfolding table qs
  bucket_words =
      filled_all Words (2 * count (table_of (hash_of name)) (placed_in es)) (map bucket_of qs) (omega arith)
      (all_image Words bucket_of (λ p r. (hash_of_below p.entry.name, omega (arith, small, entry_fits p.entry r.0.there))) qs all_read)

  at : ℕ
  at = entries_end es + 16 * entries_before (table_of (hash_of name)) (placed_in es)

  n : ℕ
  n = 2 * count (table_of (hash_of name)) (placed_in es)

  seen_bucket : (k : ℕ) → k < n
      → probe_bucket (image mode es) name (hash_of name) (at + 8 * k)
      ≡ probe_with (hash_of name) v (get_or (table (table_of (hash_of name)) (placed_in es)) k empty)
  unfolding probe_bucket bucket_bytes n at v
  seen_bucket k i =
      let b = get_or (table (table_of (hash_of name)) (placed_in es)) k empty in
      let a = bucket_at_lem mode es fits (table_of (hash_of name)) k t_below i in
      let w = bucket_words k in
      rw (at_word b.at (at_second b.hash b.at a) w.1, at_word b.hash (at_left (le32 b.hash) (le32 b.at) a) w.0)

  -- ---- the search in the name's table

  length_qs : length (map bucket_of qs) ≡ count (table_of (hash_of name)) (placed_in es)
  unfolding qs
  length_qs = length-map qs bucket_of

  name_hits : hits_in (map (probe_with (hash_of name) v) (map bucket_of qs)) ≡ hits_of_name name head_size es
  unfolding qs
  name_hits = ap hits_in looks ∙ hits_of_name_lem name head_size es

  -- each bucket is seen as the table has it
  search_alike : 0 < count (table_of (hash_of name)) (placed_in es)
      → matches_in (image mode es) name (hash_of name) at n
      ≡ matches_along (λ (k : ℕ). probe_with (hash_of name) v (get_or (filled n (map bucket_of qs)) k empty)) (probe_sequence n n (start (hash_of name) n)) 0
  unfolding matches_in table n qs
  search_alike some-entry =
      matches_ext (λ (k : ℕ). probe_bucket (image mode es) name (hash_of name) (at + 8 * k))
      (λ (k : ℕ). probe_with (hash_of name) v (get_or (table (table_of (hash_of name)) (placed_in es)) k empty))
      n seen_bucket n (start (hash_of name) n) 0 (mod-lt (hash_of name / 256) (omega arith))

  in_table_lem : 0 < count (table_of (hash_of name)) (placed_in es)
      → Searched (hits_of_name name head_size es) (table_puts name es) (matches_in (image mode es) name (hash_of name) at n)
  unfolding n table_puts
  in_table_lem some-entry =
      searched_same name_hits length_qs (sym (search_alike some-entry))
      (searched n (hash_of name) v (map bucket_of qs) (omega arith) (omega (arith, length_qs)) all_taken)

  -- ---- the table's row decides whether it is searched

  no_entry : count (table_of (hash_of name)) (placed_in es) ≡ 0 → hits_of_name name head_size es ≡ []
  no_entry e = sym (hits_of_name_lem name head_size es) ∙ none_no_hits (of_table (table_of (hash_of name)) (placed_in es)) e
    where
      none_no_hits : (ps : List Placed) → length ps ≡ 0 → hits_in (map (probe_of_entry name) ps) ≡ []
      none_no_hits [] z = refl
      none_no_hits (p ∷ ps) z = absurd (omega arith)

  by_count : (b : Bool) → eqb (count (table_of (hash_of name)) (placed_in es)) 0 ≡ b
      → Searched (hits_of_name name head_size es) (table_puts name es) (matches_by_hash (image mode es) name (hash_of name))
  unfolding matches_by_hash table_offset at n
  by_count true e =
      rw (table_at_image mode es fits (table_of (hash_of name)) t_below, e)
      (nothing_searched (hits_of_name name head_size es) (table_puts name es) (no_entry (eqb-true (count (table_of (hash_of name)) (placed_in es)) 0 e)))
  by_count false e =
      let c : 0 < count (table_of (hash_of name)) (placed_in es) = let ne = eqb-false (count (table_of (hash_of name)) (placed_in es)) 0 e in omega arith in
      rw (
        table_inside mode es fits (table_of (hash_of name)) t_below,
        table_at_image mode es fits (table_of (hash_of name)) t_below,
        bucket_number_image mode es fits (table_of (hash_of name)) t_below,
        e,
        ne_eqb (entries_end es + 16 * entries_before (table_of (hash_of name)) (placed_in es)) 0 (λ z. omega arith),
        ne_eqb (2 * count (table_of (hash_of name)) (placed_in es)) 0 (λ z. omega arith),
      )
      (in_table_lem c)

  pub matches_searched : Searched (hits_of_name name head_size es) (table_puts name es) (matches_of (image mode es) name)
  unfolding matches_of
  matches_searched = by_name_length (dec_lt (length name) 4294967295)
    where
      long : 4294967295 ≤ length name → hits_of_name name head_size es ≡ []
      long l = no_hits name head_size es (all_map (λ e q. omega arith) es (names_short 4294967295 es (omega arith)))

      by_name_length : Dec (length name < 4294967295) → Searched (hits_of_name name head_size es) (table_puts name es) (matches_of (image mode es) name)
      by_name_length (yes l) =
          rw (long_enough mode es fits, lt-leb 4294967295 (length name) l)
          (by_count (eqb (count (table_of (hash_of name)) (placed_in es)) 0) refl)
      by_name_length (no l) =
          let m : 4294967295 ≤ length name = omega arith in
          rw (met_long (image mode es) name m) (nothing_searched (hits_of_name name head_size es) (table_puts name es) (long m))

-- A found answer's offset is that of an entry with this name and this id, in a bucket of the name's table with the name's hash. Assumes nothing.
use Rattle.std.proofs.Common.{◌≡◌, ℕ, suc, ◌+◌, ◌-◌, ◌*◌, ◌/◌, ◌<◌, ◌≤◌, false, cond, ◌||◌, eqb, ltb, leb, List, [], ◌∷◌, length, get_or, sym, refl, ap, ◌∙◌}
use Rattle.std.proofs.Common.{mod-lt, arith, ltb-false, eqb-true}
use borrow.Author.Tests.{eqb-false}
use Rattle.jhash.specs.NameHash.{hash_of}
use Rattle.image.specs.Bytes.{word, same}
use Rattle.image.specs.Tables.{table_of, start, probe_sequence}
use Rattle.image.specs.Head.{table_at, bucket_number, table_past_end}
use Rattle.image.specs.Stored.{name_at, broken}
use Rattle.image.proofs.Bools.{or_false_first, or_false_second, chose_first, chose_second}
use Rattle.image.proofs.Equal.{same_true}
use Rattle.reader.specs.Lookup.{found, nothing, Hit, hit_at, Probe, pass, ends, hit, probe_entry, probe_bucket, decide, search_along, search_table}
use Rattle.reader.specs.Lookup.{unsearched, lookup_hash, lookup}
use Rattle.reader.specs.Lookup.{Found}
use Rattle.reader.specs.Theorems.FoundAt.{bucket_read, FoundInTable, FoundAt, FoundAtOffset}
use Rattle.image.proofs.Buckets.{length-probe_sequence}
use Rattle.reader.proofs.Bounds.{probe_sequence_below}

-- ---- no two of these are the same

pub not_found : {P : Type 0} (n : ℕ) (f : Found) → nothing n ≡ found f → P
not_found n f e = let z : ◌≡◌ {A = ℕ} 0 1 = cc in absurd (omega arith)

ends_no_hit : {P : Type 0} (t : Hit) → ends ≡ hit t → P
ends_no_hit t e = let z : ◌≡◌ {A = ℕ} 0 1 = cc in absurd (omega arith)

pass_no_hit : {P : Type 0} (t : Hit) → pass ≡ hit t → P
pass_no_hit t e = let z : ◌≡◌ {A = ℕ} 0 1 = cc in absurd (omega arith)

-- ---- a bucket in which a search for a name sees an entry that has it

record Sighted (image name : List ℕ) (h b : ℕ) (t : Hit) : Type 0 where
  pub hash : word image b ≡ h
  pub offset : word image (b + 4) ≡ t.offset
  pub unbroken : broken image (word image (b + 4)) ≡ false
  pub name_there : name_at image (word image (b + 4)) ≡ name
  pub id_there : word image (word image (b + 4)) ≡ t.id

sighted : (image name : List ℕ) (h b : ℕ) (t : Hit) → probe_bucket image name h b ≡ hit t → Sighted image name h b t
unfolding probe_bucket probe_entry
sighted image name h b t e =
    let at = word image (b + 4) in
    let of_name = cond (same (name_at image at) name) (hit (hit_at image at)) pass in
    let used = chose_second (eqb at 0) ends (cond (eqb (word image b) h) (probe_entry image name at) pass) (hit t) (ends_no_hit t) e in
    let hashed = chose_first (eqb (word image b) h) (probe_entry image name at) pass (hit t) (pass_no_hit t) used.1 in
    let whole = chose_second (broken image at) ends of_name (hit t) (ends_no_hit t) hashed.1 in
    let named = chose_first (same (name_at image at) name) (hit (hit_at image at)) pass (hit t) (pass_no_hit t) whole.1 in
    let i : word image at ≡ t.id = cc named.1 in
    let o : at ≡ t.offset = cc named.1 in
    record {
      hash = eqb-true (word image b) h hashed.0;
      offset = o;
      unbroken = whole.0;
      name_there = same_true (name_at image at) name named.0;
      id_there = i;
    }

-- ---- the bucket that decides a search

record Decides (look : ℕ → Probe) (ks : List ℕ) (r : ℕ) (f : Found) : Type 0 where
  pub place : ℕ
  pub among : place < length ks
  pub read : f.buckets ≡ r + place + 1
  pub seen : look (get_or ks place 0) ≡ hit (record { id = f.id; offset = f.offset })

decides : (look : ℕ → Probe) (ks : List ℕ) (r : ℕ) (f : Found) → search_along look ks r ≡ found f → Decides look ks r f
unfolding search_along
decides look [] r f e = not_found r f e
decides look (k ∷ ks) r f e = by_seen (look k) refl (λ g. decides look ks (r + 1) f g) e
  where
    later : Decides look ks (r + 1) f → Decides look (k ∷ ks) r f
    later d = record { place = suc d.place; among = omega (arith, d.among); read = omega (arith, d.read); seen = d.seen }

    by_seen : (s : Probe) → look k ≡ s → (search_along look ks (r + 1) ≡ found f → Decides look ks (r + 1) f)
        → decide s (r + 1) (search_along look ks (r + 1)) ≡ found f → Decides look (k ∷ ks) r f
    by_seen pass p rest e = later (rest e)
    by_seen ends p rest e = not_found (r + 1) f e
    by_seen (hit t) p rest e =
        let i : t.id ≡ f.id = cc in
        let o : t.offset ≡ f.offset = cc in
        let b : r + 1 ≡ f.buckets = cc in
        record { place = 0; among = omega arith; read = omega arith; seen = p ∙ (λ j. hit (record { id = i j; offset = o j })) }

-- ---- the search in the name's table, and the lookup

module _ (image name : List ℕ) (f : Found) where
  in-search : (o n : ℕ) → 0 < n → o + 8 * n ≤ length image → search_table image name (hash_of name) o n ≡ found f → FoundInTable image name f o n
  unfolding search_table
  in-search o n some-bucket fits e =
      let ks = probe_sequence n n (start (hash_of name) n) in
      let d = decides (λ (k : ℕ). probe_bucket image name (hash_of name) (o + 8 * k)) ks 0 f e in
      let i : d.place ≡ f.buckets - 1 = omega (arith, d.read) in
      let below : d.place < n = omega (arith, d.among, length-probe_sequence n n (start (hash_of name) n)) in
      let s = sighted image name (hash_of name) (o + 8 * bucket_read name n f.buckets) (record { id = f.id; offset = f.offset })
      (ap (λ (k : ℕ). probe_bucket image name (hash_of name) (o + 8 * get_or ks k 0)) (sym i) ∙ d.seen) in
      record {
        in_table = rw i at (probe_sequence_below n n (start (hash_of name) n) d.place (mod-lt (hash_of name / 256) {m = n} some-bucket) below);
        inside = fits;
        hash = s.hash;
        offset = s.offset;
        unbroken = ap (broken image) (sym s.offset) ∙ s.unbroken;
        name_there = ap (name_at image) (sym s.offset) ∙ s.name_there;
        id_there = ap (word image) (sym s.offset) ∙ s.id_there;
      }

  pub found_at : lookup image name ≡ found f → FoundAt image name f
  unfolding lookup lookup_hash
  found_at e =
      let t = table_of (hash_of name) in
      let o = table_at image t in
      let n = bucket_number image t in
      let by_hash = lookup_hash image name (hash_of name) in
      let long = leb 4294967295 (length name) in
      let in_image = chose_second (ltb (length image) 2072) (nothing 0) (cond long (nothing 0) by_hash) (found f) (not_found 0 f) e in
      let hashed = chose_second long (nothing 0) by_hash (found f) (not_found 0 f) in_image.1 in
      let in_table = search_table image name (hash_of name) o n in
      let searched = chose_second (unsearched image t) (nothing 0) in_table (found f) (not_found 0 f) hashed.1 in
      let row = or_false_first (eqb o 0 || eqb n 0) (table_past_end image t) searched.0 in
      let some-bucket = eqb-false n 0 (or_false_second (eqb o 0) (eqb n 0) row) in
      let fits = ltb-false (length image) (o + 8 * n) (or_false_second (eqb o 0 || eqb n 0) (table_past_end image t) searched.0) in
      in-search o n (omega arith) fits searched.1

pub found_at_offset : FoundAtOffset
found_at_offset = found_at

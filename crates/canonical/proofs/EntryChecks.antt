-- What the checks of entries and back words say, and all of those behind the head. Assumes nothing.
use Prim.Native.Nat.{ℕ, ◌+◌, ◌*◌, ◌/◌, ◌≤◌}
use native.Mathlib.Omega.{arith}
use native.Mathlib.Nat.{mod-lt}
use mathlib.Core.Path.{◌≡◌, refl, ap}
use mathlib.Core.Bool.{Bool, true, false, cond, not, ◌&&◌}
use lib.ListN.{replicate}
use mathlib.Core.List.{List, [], ◌∷◌}
use lib.Dec.{eqb, ltb}
use borrow.Author.Tests.{eqb-true, eqb-false, eq-eqb, ne_eqb, le-ltb, ltb-false, not-true}
use Rattle.jhash.specs.NameHash.{hash_of}
use Rattle.image.specs.Bytes.{word, filter}
use Rattle.image.specs.Head.{table_at, bucket_number}
use Rattle.image.specs.Image.{Placed, head_size, in_table, of_table, back_size, back_in}
use Rattle.image.specs.Stored.{whole, between}
use Rattle.image.specs.Tally.{tallied}
use Rattle.image.specs.Tables.{Bucket, table_of, start}
use Rattle.image.specs.Zero.{has_zero}
use Rattle.image.specs.Steps.Contracts.{offset_at, hidden}
use Rattle.image.proofs.Bools.{and_first, and_second, and_both}
use Rattle.image.proofs.AllOfList.{All}
use Rattle.serialize.proofs.EntryAdded.{first_empty_below}
use Rattle.canonical.specs.Steps.HiddenBuckets.{put_bucket, Stands}
use Rattle.canonical.specs.Steps.InPlace.{bucket_at}
use Rattle.canonical.specs.Canonical.{mode_in}
use Rattle.canonical.specs.Steps.Checks.{in_its_bucket, entry_ok, entries_ok, not_before, entries_to, placed_from, rows_ok, counts_match, two_way}
use Rattle.canonical.specs.Steps.Checks.{entries_valid}
use Rattle.canonical.specs.Steps.Checks.{back_words_counted, body_ok}
use Rattle.canonical.proofs.TableChecks.{and3_facts}

-- ---- an entry in its table, as it is read

module _ (img : List ℕ) (b : Bucket) where
  abbrev o : ℕ
  o = table_at img (table_of b.hash)

  abbrev n : ℕ
  n = bucket_number img (table_of b.hash)

  abbrev taken : ℕ
  taken = put_bucket n (bucket_at img o) b

  pub bucket_facts : in_its_bucket img b.hash b.at ≡ true → Stands n (bucket_at img o) b
  unfolding in_its_bucket
  bucket_facts h =
      let (some, hash, at) = and3_facts (not (eqb n 0)) (eqb (word img (o + 8 * taken)) b.hash) _ h in
      let hash_is = eqb-true (word img (o + 8 * taken)) b.hash hash in
      let at-is = eqb-true (word img (o + 8 * taken + 4)) b.at at in
      let nonzero = eqb-false n 0 (not-true (eqb n 0) some) in
      record {
        inside =
            first_empty_below (λ (k : ℕ). hidden b.at (offset_at img o k)) n n (start b.hash n) (mod-lt (b.hash / 256) (omega arith));
        holds = λ i. record { hash = hash_is i; at = at-is i };
      }

  pub bucket_checked : Stands n (bucket_at img o) b → in_its_bucket img b.hash b.at ≡ true
  unfolding in_its_bucket
  bucket_checked s =
      let hash_is = ap (λ (x : Bucket). x.hash) s.holds in
      let at-is = ap (λ (x : Bucket). x.at) s.holds in
      rw (
        ne_eqb n 0 (λ z. omega (arith, s.inside)),
        eq-eqb (word img (o + 8 * taken)) b.hash hash_is,
        eq-eqb (word img (o + 8 * taken + 4)) b.at at-is,
      )

-- an entry's name has no zero byte; an entry is in its bucket
abbrev pub Free : Placed → Type 0
Free p = not (has_zero p.entry.name) ≡ true

abbrev pub InBucket : List ℕ → Placed → Type 0
InBucket img p = in_its_bucket img (hash_of p.entry.name) p.at ≡ true

-- ---- all entries

module _ (img : List ℕ) (two : Bool) (o : ℕ) where
  pub entries_facts : (ps : List Placed) → entries_ok img two o ps ≡ true → All (λ (p : Placed). entry_ok img two o p ≡ true) ps
  unfolding entries_ok
  entries_facts [] h = tt
  entries_facts (p ∷ ps) h = (and_first (entry_ok img two o p) _ h, entries_facts ps (and_second (entry_ok img two o p) _ h))

  pub entries_checked : (ps : List Placed) → All (λ (p : Placed). entry_ok img two o p ≡ true) ps → entries_ok img two o ps ≡ true
  unfolding entries_ok
  entries_checked [] a = refl
  entries_checked (p ∷ ps) a = and_both (entry_ok img two o p) _ a.0 (entries_checked ps a.1)

-- from all entries to those of a table
pub to_table : (P : Placed → Type 0) (t : ℕ) (ps : List Placed) → All P ps → All (λ (p : Placed). P p × (table_of (hash_of p.entry.name) ≡ t)) (of_table t ps)
unfolding of_table filter
to_table P t [] a = tt
to_table P t (p ∷ ps) a = with_first (in_table t p) refl (to_table P t ps a.1)
  where
    with_first : (b : Bool) → in_table t p ≡ b → All (λ (p : Placed). P p × (table_of (hash_of p.entry.name) ≡ t)) (filter (in_table t) ps)
        → All (λ (p : Placed). P p × (table_of (hash_of p.entry.name) ≡ t)) (cond b (p ∷ filter (in_table t) ps) (filter (in_table t) ps))
    with_first true e rest = ((a.0, eqb-true (table_of (hash_of p.entry.name)) t e), rest)
    with_first false e rest = rest

-- ---- back words

pub ahead_facts : (at w : ℕ) → not_before true at w ≡ true → at ≤ w
ahead_facts at w h = ltb-false w at (not-true (ltb w at) h)

pub ahead_checked : (at w : ℕ) → at ≤ w → not_before true at w ≡ true
ahead_checked at w h = rw (le-ltb w at h)

-- ---- all behind the head

pub record Body (img : List ℕ) (n end back : ℕ) : Type 0 where
  pub rows : rows_ok img end ≡ true
  pub wholes : whole n (between img head_size end) ≡ true
  pub entries : entries_ok img (two_way img) (end + 16 * n) (placed_from img end n head_size) ≡ true
  pub counts : counts_match img (tallied (replicate 256 0) (entries_to img end n)) ≡ true
  pub backs : back ≡ back_in (mode_in img) (back_size (entries_to img end n))
  pub back_word_of : cond (two_way img) (back_words_counted img (end + 16 * n) back (placed_from img end n head_size)) true ≡ true

pub body_facts : (img : List ℕ) (n end back : ℕ) → body_ok img n end back ≡ true → Body img n end back
unfolding body_ok
body_facts img n end back h =
    let valid = entries_valid img end n (two_way img) (end + 16 * n) in
    let counted = counts_match img (tallied (replicate 256 0) (entries_to img end n)) in
    let backs : ℕ = back_in (mode_in img) (back_size (entries_to img end n)) in
    let (first, back_is, back_word_of) = and3_facts (rows_ok img end && valid && counted) (eqb back backs) _ h in
    let (rows, entries, counts) = and3_facts (rows_ok img end) valid counted first in
    let wholes = whole n (between img head_size end) in
    record {
      rows = rows;
      wholes = and_first wholes _ entries;
      entries = and_second wholes _ entries;
      counts = counts;
      backs = eqb-true back backs back_is;
      back_word_of = back_word_of;
    }

pub body_checked : (img : List ℕ) (n end back : ℕ) → Body img n end back → body_ok img n end back ≡ true
unfolding body_ok
body_checked img n end back t =
    rw (t.rows, t.wholes, t.entries, t.counts, eq-eqb back (back_in (mode_in img) (back_size (entries_to img end n))) t.backs) t.back_word_of

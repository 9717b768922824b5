-- In an image of puts all checks hold. Assumes nothing.
use Prim.Native.Nat.{ℕ, ◌+◌, ◌*◌, ◌-◌, ◌≤◌, ◌<◌}
use native.Mathlib.Omega.{arith}
use native.Mathlib.Nat.{mod-lt}
use mathlib.Core.Path.{◌≡◌, refl, sym, ap, ap₂, ◌∙◌}
use mathlib.Core.Bool.{Bool, true, cond, not}
use mathlib.Core.List.{List, map}
use lib.ListN.{length, take, drop, replicate, length-map}
use lib.Dec.{eqb}
use borrow.Author.Tests.{eq-eqb}
use Rattle.jhash.specs.NameHash.{hash_of}
use Rattle.image.specs.Bytes.{word, cat}
use Rattle.image.specs.Head.{table_at, bucket_number, back_size_at}
use Rattle.image.specs.Image.{Entry, Placed, head_size, entry_bytes, placed, in_table, of_table, count, bucket_of, entries_before, table_offset, flag_word}
use Rattle.image.specs.Image.{back_size, back_in, back_offset, entries_end, image_size, image}
use Rattle.image.specs.Stored.{whole, entries_in, between}
use Rattle.image.specs.Tables.{Bucket, table_of}
use Rattle.image.specs.Tally.{tallied}
use Rattle.image.proofs.At.{at_take}
use Rattle.image.proofs.Bools.{and_both}
use Rattle.image.proofs.EntryAt.{all_placed, ids_below}
use Rattle.image.proofs.AllOfList.{All, all_map, all_both}
use Rattle.image.proofs.Sizes.{length_entries}
use Rattle.serialize.proofs.Pairwise.{all_tested}
use Rattle.lookup_laws.proofs.ImageOpening.{opening_image}
use Rattle.lists.proofs.Parse.{AllWordSized, parsed, parsed_whole}
use Rattle.image.specs.declared.Mode.{Mode}
use Rattle.image.specs.declared.Mode.TheVariants.{Twoway, Oneway}
use Rattle.image.specs.Zero.{has_zero}
use Rattle.canonical.specs.Canonical.{mode_in}
use Rattle.canonical.specs.Steps.HiddenBuckets.{own_back_words, Stands, TableMatches, BackArrayMatches}
use Rattle.canonical.specs.Steps.InPlace.{bucket_at, back_word_at}
use Rattle.canonical.specs.Steps.Made.{Storable, Made}
use Rattle.canonical.specs.Steps.Checks.{end_in, entries_to, row_count, table_place, counts_match, not_before}
use Rattle.canonical.specs.Steps.Checks.{two_way, is_two, entries_ok, back_words_counted, Checked}
use Rattle.canonical.proofs.InPlace.{InPlace}
use Rattle.canonical.proofs.BackArray.{all_own, back_words_match}
use Rattle.canonical.proofs.FilledTable.{filled_matches}
use Rattle.canonical.proofs.ReadBack.{all_wordly, ids_of, flag_of_image}
use Rattle.canonical.proofs.TableChecks.{table_checked, Row, row_checked, row_place, counts_checked, row_count_lem, rows_before}
use Rattle.canonical.proofs.EntryChecks.{Body, body_checked, Free, InBucket, bucket_checked, entries_checked, ahead_checked}
use Rattle.canonical.proofs.ImageInPlace.{image_in_place}
use Rattle.canonical.proofs.RisingOffsets.{all_rise, table_rises}
use Rattle.canonical.proofs.ChecksSuffice.{counts_are}

-- has a mode back words?
module _ (mode : Mode) (es : List Entry) (each : All Storable es) (fits : image_size mode es ≤ 4294967295) where
  img : List ℕ
  img = image mode es

  ps : List Placed
  ps = placed head_size es

  ip : InPlace img mode es
  unfolding img
  ip = image_in_place mode es fits

  n : ℕ
  n = length es

  two_is : two_way img ≡ is_two mode
  two_is = ap (λ (w : ℕ). eqb w 0) ip.flag ∙ flag_two mode
    where
      flag_two : (f : Mode) → eqb (flag_word f) 0 ≡ is_two f
      flag_two Twoway = refl
      flag_two Oneway = refl

  ends : end_in img n ≡ entries_end es
  unfolding n
  ends = omega (arith, ip.total, ip.back_size_lem)

  area_is : between img head_size (end_in img n) ≡ cat entry_bytes es
  area_is =
      let e : end_in img n - head_size ≡ length (cat entry_bytes es) = omega (arith, ends, length_entries es) in
      ap (λ (k : ℕ). take k (drop head_size img)) e ∙ at_take ip.entries

  sized : AllWordSized es
  sized = all_wordly es (ids_of es each) (omega arith)

  entries_are : entries_to img (end_in img n) n ≡ es
  unfolding n
  entries_are = ap (entries_in (length es)) area_is ∙ parsed es sized

  wholes : whole n (between img head_size (end_in img n)) ≡ true
  unfolding n
  wholes = ap (whole (length es)) area_is ∙ parsed_whole es sized

  -- ---- rows and tables

  numbers : (t : ℕ) → t < 256 → bucket_number img t ≡ 2 * count t ps
  unfolding ps
  numbers t h = (ip.rows t h).1

  counts : counts_match img (tallied (replicate 256 0) es) ≡ true
  unfolding ps
  counts = counts_checked img (tallied (replicate 256 0) es) (λ t h. numbers t h ∙ ap (λ (k : ℕ). 2 * k) (sym (counts_are es t h)))

  place_is : (t : ℕ) → t < 256 → table_place img (end_in img n) t ≡ entries_end es + 16 * entries_before t ps
  place_is t h = ap₂ (λ (x y : ℕ). x + 16 * y) ends (rows_before img ps numbers t (omega arith))

  matches : (t : ℕ) → t < 256 → TableMatches (2 * row_count img t) (bucket_at img (table_place img (end_in img n) t)) (map bucket_of (of_table t ps))
  unfolding ps
  matches t h =
      rw (place_is t h, row_count_lem img ps numbers t h)
      (filled_matches (2 * count t ps) (bucket_at img (entries_end es + 16 * entries_before t ps)) (map bucket_of (of_table t ps))
      (omega (arith, length-map (of_table t ps) bucket_of)) (table_rises es t) (ip.tables t h))

  row : (t : ℕ) → t < 256 → Row img (end_in img n) t
  unfolding table_offset ps
  row t h =
      let m = matches t h in
      let c = row_count_lem img ps numbers t h in
      record {
        number = omega (arith, c, numbers t h);
        offset = (ip.rows t h).0 ∙ sym (ap₂ (λ (k o : ℕ). cond (eqb k 0) 0 o) c (place_is t h));
        table =
            table_checked img (table_place img (end_in img n) t) (row_count img t) m.zeros (m.used ∙ length-map (of_table t ps) bucket_of ∙ sym c);
      }

  -- ---- entries

  names : All Free ps
  unfolding ps
  names = all_placed (λ (e : Entry). not (has_zero e.name) ≡ true) head_size es (all_map (λ e s. ap not s.free) es each)

  buckets : All (InBucket img) ps
  unfolding of_table
  buckets =
      all_map (λ p s. bucket_checked img (bucket_of p) (s (eq-eqb (table_of (hash_of p.entry.name)) _ refl))) ps
      (all_own (λ (t : ℕ) (p : Placed). in_table t p ≡ true → Stands (bucket_number img t) (bucket_at img (table_at img t)) (bucket_of p))
      (λ (p : Placed). table_of (hash_of p.entry.name)) 256 ps (all_map (λ p s. mod-lt (hash_of p.entry.name) (omega arith)) ps names)
      (λ t h. all_map (λ p s i. moved t h (bucket_of p) (s i)) ps
      (all_tested (Stands (2 * row_count img t) (bucket_at img (table_place img (end_in img n) t))) bucket_of (in_table t) ps (matches t h).stand)))
    where
      moved : (t : ℕ) (h : t < 256) (b : Bucket) → Stands (2 * row_count img t) (bucket_at img (table_place img (end_in img n) t)) b
          → Stands (bucket_number img t) (bucket_at img (table_at img t)) b
      moved t h b s =
          let r = row t h in
          rw (row_place img (end_in img n) r (omega (arith, s.inside, r.number)), r.number) s

  back_words_at : end_in img n + 16 * n ≡ entries_end es + 16 * length es
  unfolding n
  back_words_at = omega (arith, ends)

  -- the back words of a two-way image
  matched : mode ≡ Twoway → BackArrayMatches (back_size_at img) (back_word_at img (end_in img n + 16 * n)) ps
  unfolding ps
  matched two =
      let back : back_size_at img ≡ back_size es = ip.back_size_lem ∙ ap (λ (f : Mode). back_in f (back_size es)) two in
      rw back_words_at
      (back_words_match (back_word_at img (entries_end es + 16 * length es)) (back_size_at img) ps (all_rise es)
      (all_placed (λ (e : Entry). e.id < back_size_at img) head_size es (ids_below es (back_size_at img) (omega arith)))
      (λ i h. ip.back_word_of i (omega (arith, ip.back_size_lem))))

  -- what the checks of the back words ask, in either mode
  abbrev Linked : Mode → Type 0
  Linked f =
      All (λ (p : Placed). not_before (is_two f) p.at (back_word_at img (end_in img n + 16 * n) p.entry.id) ≡ true) ps
      × (cond (is_two f) (back_words_counted img (end_in img n + 16 * n) (back_size_at img) ps) true ≡ true)

  lasts : Linked mode
  lasts = by_mode mode matched
    where
      by_mode : (f : Mode) → (f ≡ Twoway → BackArrayMatches (back_size_at img) (back_word_at img (end_in img n + 16 * n)) ps) → Linked f
      by_mode Twoway m =
          (all_map (λ p h. ahead_checked p.at _ h) ps (m refl).ahead, eq-eqb _ (own_back_words (back_word_at img (end_in img n + 16 * n)) ps) (m refl).used)
      by_mode Oneway m = (all_map (λ p h. refl) ps names, refl)

  valid : entries_ok img (is_two mode) (end_in img n + 16 * n) ps ≡ true
  valid =
      entries_checked img (is_two mode) (end_in img n + 16 * n) ps
      (all_map (λ p s. and_both (not_before (is_two mode) p.at (back_word_at img (end_in img n + 16 * n) p.entry.id)) _ s.0
      (and_both (not (has_zero p.entry.name)) _ s.1.0 s.1.1)) ps
      (all_both _ (λ (p : Placed). Free p × InBucket img p) ps lasts.0 (all_both Free (InBucket img) ps names buckets)))

  -- ---- all

  body : Body img n (end_in img n) (back_size_at img)
  unfolding ps img
  body = record {
    rows = row_checked img (end_in img n) row;
    wholes = wholes;
    entries =
        ap₂ (λ (two : Bool) (l : List Entry). entries_ok img two (end_in img n + 16 * n) (placed head_size l)) two_is entries_are ∙ valid;
    counts = ap (λ (l : List Entry). counts_match img (tallied (replicate 256 0) l)) entries_are ∙ counts;
    backs =
        ip.back_size_lem
        ∙ sym (ap₂ (λ (f : Mode) (l : List Entry). back_in f (back_size l)) flags entries_are);
    back_word_of =
        ap₂ (λ (two : Bool) (l : List Entry). cond two (back_words_counted img (end_in img n + 16 * n) (back_size_at img) (placed head_size l)) true)
        two_is entries_are
        ∙ lasts.1;
  }
    where
      flags : mode_in img ≡ mode
      flags = flag_of_image mode es (ids_of es each) fits

  checked : Checked img n
  unfolding img n back_offset
  checked = record {
    opened = opening_image mode es fits;
    size = ip.size;
    flag = small mode ip.flag;
    room = omega (arith, ip.total, ip.back_size_lem);
    back_start = ip.back_start ∙ sym (ap₂ (λ (b : ℕ) (o : ℕ). cond (eqb b 0) 0 o) ip.back_size_lem back_words_at);
    body = body_checked img n (end_in img n) (back_size_at img) body;
  }
    where
      small : (m : Mode) → word img 8 ≡ flag_word m → word img 8 ≤ 1
      small Twoway e = omega arith
      small Oneway e = omega arith

pub canonical_checked : (img : List ℕ) → (o : Made img) → Checked img (length o.puts)
unfolding img n
canonical_checked img o = rw o.is at (checked o.mode o.puts o.each o.fits)

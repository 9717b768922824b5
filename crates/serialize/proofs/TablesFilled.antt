-- The tables filled one after the other from their pairs, up to the image. Assumes nothing.
use Rattle.std.proofs.Common.{◌≡◌, ℕ, zero, suc, ◌+◌, ◌*◌, ◌^◌, ◌<◌, ◌≤◌, Bool, true, cond, ltb, leb, List, [], ◌++◌, map, length, take, replicate, sym, refl}
use Rattle.std.proofs.Common.{ap, ◌∙◌, ap₂, append_assoc, append-nil, arith, length-append, le-ltb, lt-ltb, le-leb}
use native.Mathlib.Decide.{dec_lt}
use lib.ListN.{length-map}
use lib.Seq.{sets, take-append_seam}
use Rattle.jhash.proofs.Outcomes.{hash_of_below}
use Rattle.image.specs.Bytes.{cat, range}
use Rattle.image.specs.Tables.{Bucket, filled}
use Rattle.image.specs.Image.{Entry, Placed, head_size, entries_size, placed, in_table, of_table, count, bucket_of, bucket_bytes, table, table_bytes, tables}
use Rattle.image.specs.Image.{entries_before, back_words, back_size_of, back_offset, entries_end, image_size, image}
use Rattle.image.specs.declared.Mode.{Mode}
use Rattle.image.proofs.Lists.{cat_ext, cat_run}
use Rattle.image.proofs.Sizes.{length_placed, length-table_bytes, before_suc}
use Rattle.image.proofs.Stores.{sets_whole}
use Rattle.image.proofs.AllOfList.{All, all_filter, all_image}
use Rattle.image.proofs.At.{At, at_same, at_equal, at_left, at_right}
use Rattle.image.proofs.Parts.{placed_in, before_most}
use Rattle.serialize.specs.Steps.Partition.{table_offsets_from, partitioned_from, pairs_stored, table_filled, tables_from}
use Rattle.serialize.proofs.Choices.{cond_holds}
use Rattle.serialize.proofs.HeadRows.{Counts}
use Rattle.serialize.proofs.PartialImage.{up_to_entries, length_up_to_entries}
use Rattle.serialize.proofs.InsertStep.{offsets, store_in}
use Rattle.serialize.proofs.TableAreas.{area_with, pairs_of, length_areas, area_at, area_set, length_area_with, areas_none, pairs_read}
use Rattle.serialize.proofs.Partitioned.{Places, halfway, places_begin, half_walked}
use Rattle.serialize.proofs.EntryAdded.{Words}

-- the first t tables are filled, the others hold their pairs
unfoldable pub filling : List Placed → List ℕ → ℕ → ℕ → List ℕ
filling ps X t i = cond (ltb i t) (table_bytes ps i) (area_with ps X ps i)

unfoldable pub filled_to : Mode → List Entry → List ℕ → ℕ → List ℕ → List ℕ
filled_to mode es X t tail =
    up_to_entries mode es ++ cat (filling (placed_in es) X t) (range 0 256) ++ back_words (placed_in es) (back_size_of mode es) ++ tail

module _ (mode : Mode) (es : List Entry) (X tail : List ℕ) (long : length X ≡ 16 * length (placed_in es)) where
  pub filled_first : halfway mode (up_to_entries mode es) es X es tail ≡ filled_to mode es X 0 tail
  unfolding halfway filled_to filling
  filled_first =
      let ps = placed_in es in
      ap (λ (l : List ℕ). up_to_entries mode es ++ l ++ back_words ps (back_size_of mode es) ++ tail)
      (cat_ext (area_with ps X ps) (filling ps X 0)
      (λ i. sym (ap (λ (b : Bool). cond b (table_bytes ps i) (area_with ps X ps i)) (le-ltb i 0 (omega arith)))) (range 0 256))

  pub front_filled : take (entries_end es) (filled_to mode es X 0 tail) ≡ up_to_entries mode es
  unfolding filled_to
  front_filled =
      let U = up_to_entries mode es in
      let R = cat (filling (placed_in es) X 0) (range 0 256) in
      let L = back_words (placed_in es) (back_size_of mode es) in
      ap₂ take (sym (length_up_to_entries mode es)) (append_assoc (U ++ R) L tail ∙ append_assoc U R (L ++ tail)) ∙ take-append_seam U (R ++ (L ++ tail))

  pub filled_last : filled_to mode es X 256 tail ≡ up_to_entries mode es ++ tables (placed_in es) ++ back_words (placed_in es) (back_size_of mode es) ++ tail
  unfolding filled_to filling tables
  filled_last =
      let ps = placed_in es in
      ap (λ (l : List ℕ). up_to_entries mode es ++ l ++ back_words ps (back_size_of mode es) ++ tail)
      (cat_run (filling ps X 256) (table_bytes ps) 0 256
      (λ i h. ap (λ (b : Bool). cond b (table_bytes ps (0 + i)) (area_with ps X ps (0 + i))) (lt-ltb (0 + i) 256 (omega arith))))

  sized : (t i : ℕ) → i < 256 → length (filling (placed_in es) X t i) ≡ 16 * count i (placed_in es)
  unfolding filling
  sized t i h =
      cond_holds (λ (l : List ℕ). length l ≡ 16 * count i (placed_in es)) (ltb i t) (length-table_bytes (placed_in es) i)
      (length_area_with (placed_in es) X long (placed_in es) i h (omega arith))

  pub tables_long : (t : ℕ) → length (cat (filling (placed_in es) X t) (range 0 256)) ≡ 16 * length es
  tables_long t =
      length_areas (placed_in es) (filling (placed_in es) X t) (sized t) ∙ ap (λ (n : ℕ). 16 * n) (length_placed head_size es)

  module _ (fits : image_size mode es ≤ 4294967295) (t : ℕ) (below : t < 256) where
    B : List ℕ
    B = filled_to mode es X t tail

    ps : List Placed
    ps = placed_in es

    o : ℕ
    o = entries_end es + 16 * entries_before t ps

    bs : List Bucket
    bs = map bucket_of (of_table t ps)

    not_yet : filling ps X t t ≡ area_with ps X ps t
    unfolding filling
    not_yet = ap (λ (b : Bool). cond b (table_bytes ps t) (area_with ps X ps t)) (le-ltb t t (omega arith))

    pairs_there : At B o (cat bucket_bytes bs)
    unfolding B o bs ps filled_to area_with pairs_of
    pairs_there =
        let U = up_to_entries mode es in
        let R = cat (filling (placed_in es) X t) (range 0 256) in
        let L = back_words (placed_in es) (back_size_of mode es) in
        let n : 0 + length U ≡ entries_end es = omega (arith, length_up_to_entries mode es) in
        let start : At (U ++ R ++ L ++ tail) 0 (U ++ R ++ L) = record { post = tail; stands = refl } in
        at_left (pairs_of (placed_in es) t) _
        (at_equal not_yet
        (area_at (placed_in es) (filling (placed_in es) X t) (sized t) (entries_end es) (at_same n (at_right U R (at_left (U ++ R) L start))) t below))

    words : All Words bs
    unfolding bs ps of_table
    words =
        all_image Words bucket_of (λ q h. (hash_of_below q.entry.name, omega arith)) (of_table t (placed_in es))
        (all_filter (λ (q : Placed). q.at ≤ entries_end es) (in_table t) (placed_in es) (offsets head_size (entries_end es) es (omega arith)))

    pub pairs_are : pairs_stored (filled_to mode es X t tail) (entries_end es + 16 * entries_before t (placed_in es)) (count t (placed_in es))
        ≡ map bucket_of (of_table t (placed_in es))
    unfolding B o ps bs
    pairs_are = pairs_read o bs pairs_there words (count t ps) (sym (length-map (of_table t ps) bucket_of))

    later : (k : ℕ) → (k ≡ t → ⊥) → filling ps X t k ≡ filling ps X (suc t) k
    unfolding filling
    later k z =
        let same : ltb k t ≡ ltb k (suc t) =
        elim (dec_lt k t) [
          | yes l ↦ lt-ltb k t l ∙ sym (lt-ltb k (suc t) (omega arith))
          | no g ↦ le-ltb k t (omega (arith, g)) ∙ sym (le-ltb k (suc t) (omega (arith, g)))
        ] in
        ap (λ (b : Bool). cond b (table_bytes ps k) (area_with ps X ps k)) same

    whole : sets (filling ps X t t) 0 (table_bytes ps t) ≡ filling ps X (suc t) t
    unfolding ps filling
    whole =
        let f = filling (placed_in es) X t t in
        let v = table_bytes (placed_in es) t in
        ap (λ (l : List ℕ). sets l 0 v) (sym (append-nil f))
        ∙ sets_whole v f [] (length-table_bytes (placed_in es) t ∙ sym (sized t t below))
        ∙ append-nil v
        ∙ sym done
      where
        done : filling (placed_in es) X (suc t) t ≡ table_bytes (placed_in es) t
        done =
            ap (λ (b : Bool). cond b (table_bytes (placed_in es) t) (area_with (placed_in es) X (placed_in es) t)) (lt-ltb t (suc t) (omega arith))

    pub table_step : table_filled (filled_to mode es X t tail) (entries_end es + 16 * entries_before t (placed_in es)) (count t (placed_in es))
        ≡ filled_to mode es X (suc t) tail
    unfolding table_filled B o ps bs filled_to table_bytes table
    table_step =
        let U = up_to_entries mode es in
        let R = cat (filling (placed_in es) X t) (range 0 256) in
        let L = back_words (placed_in es) (back_size_of mode es) in
        let c = count t (placed_in es) in
        let v = table_bytes (placed_in es) t in
        let j = 16 * entries_before t (placed_in es) in
        let front : length (U ++ R) ≡ entries_end es + 16 * length es =
        length-append U R ∙ ap₂ ◌+◌ (length_up_to_entries mode es) (tables_long t) in
        let size : entries_end es + 16 * length es ≤ length (U ++ R ++ L ++ tail) =
        omega (arith, length-append (U ++ R ++ L) tail, length-append (U ++ R) L) in
        let most = before_most (placed_in es) t below in
        let yes : leb (o + 16 * c) (length B) ≡ true = le-leb (o + 16 * c) (length B) (omega (arith, length_placed head_size es)) in
        ap (λ (b : Bool). cond b (sets B o (cat bucket_bytes (filled (2 * c) (pairs_stored B o c)))) B) yes
        ∙ ap (λ (l : List Bucket). sets B o (cat bucket_bytes (filled (2 * c) l))) pairs_are
        ∙ ap (λ (l : List ℕ). sets l o v) (append_assoc (U ++ R) L tail)
        ∙ store_in U R (L ++ tail) v o j (omega (arith, length_up_to_entries mode es))
        (omega (arith, tables_long t, length-table_bytes (placed_in es) t, length_placed head_size es))
        ∙ ap (λ (l : List ℕ). U ++ l ++ (L ++ tail))
        (area_set (placed_in es) (filling (placed_in es) X t) (sized t) (filling (placed_in es) X (suc t)) v t 0 j below (omega arith)
        (omega (arith, length-table_bytes (placed_in es) t)) whole later)
        ∙ sym (append_assoc (U ++ cat (filling (placed_in es) X (suc t)) (range 0 256)) L tail)

  pub tables_walked : image_size mode es ≤ 4294967295 → (counts : List ℕ) → Counts counts (placed_in es)
      → (m t : ℕ) → t + m ≤ 256
      → tables_from counts (entries_end es + 16 * entries_before t (placed_in es)) t m (filled_to mode es X t tail) ≡ filled_to mode es X (t + m) tail
  unfolding tables_from
  tables_walked fits counts tallies zero t h = let z : t ≡ t + 0 = omega arith in ap (λ (k : ℕ). filled_to mode es X k tail) z
  tables_walked fits counts tallies (suc m) t h =
      let below : t < 256 = omega arith in
      let ps = placed_in es in
      let o = entries_end es + 16 * entries_before t ps in
      let F = filled_to mode es X t tail in
      let z : suc t + m ≡ t + suc m = omega arith in
      let more : o + 16 * count t ps ≡ entries_end es + 16 * entries_before (suc t) ps = omega (arith, before_suc t ps) in
      ap (λ (c : ℕ). tables_from counts (o + 16 * c) (suc t) m (table_filled F o c)) (tallies t below)
      ∙ ap (λ (l : List ℕ). tables_from counts (o + 16 * count t ps) (suc t) m l) (table_step fits t below)
      ∙ ap (λ (k : ℕ). tables_from counts k (suc t) m (filled_to mode es X (suc t) tail)) more
      ∙ tables_walked fits counts tallies m (suc t) (omega arith)
      ∙ ap (λ (k : ℕ). filled_to mode es X k tail) z

-- ---- all of it

module _ (mode : Mode) (es : List Entry) (X tail counts : List ℕ) (long : length X ≡ 16 * length (placed_in es))
    (fits : image_size mode es ≤ 4294967295) (tallies : Counts counts (placed_in es)) where
  -- where the tables begin, as partition is told
  abbrev pub begins : List ℕ
  begins = sets (replicate 256 0) 0 (table_offsets_from counts (entries_end es) 0 256)

  -- before any entry is partitioned
  pub none_parted : (F : List ℕ) → F ++ X ++ back_words [] (back_size_of mode es) ++ tail ≡ halfway mode F es X [] tail
  unfolding halfway placed
  none_parted F = ap (λ (l : List ℕ). F ++ l ++ back_words [] (back_size_of mode es) ++ tail) (sym (areas_none (placed_in es) X long))

  pub places_first : Places (entries_end es) (placed_in es) (placed_in []) begins
  unfolding placed
  places_first = places_begin counts (entries_end es) (placed_in es) tallies (omega (arith, length_placed head_size es))

  -- the entries that stand in the buffer partitioned
  pub parted_is : All (λ (x : Entry). x.id < 2 ^ 32) es
      → partitioned_from mode (back_offset mode es) (entries_end es) (length es) head_size begins
      (up_to_entries mode es ++ X ++ back_words [] (back_size_of mode es) ++ tail)
      ≡ filled_to mode es X 0 tail
  unfolding entries_size
  parted_is ids =
      ap (partitioned_from mode (back_offset mode es) (entries_end es) (length es) head_size begins) (none_parted (up_to_entries mode es))
      ∙ half_walked mode es X tail long fits ids es [] refl begins places_first
      ∙ filled_first mode es X tail long

  pub tables_image : tables_from counts (entries_end es) 0 256 (filled_to mode es X 0 tail) ≡ image mode es ++ tail
  unfolding entries_before image up_to_entries
  tables_image =
      let end = entries_end es in
      let none : end ≡ end + 16 * entries_before 0 (placed_in es) = omega arith in
      ap (λ (k : ℕ). tables_from counts k 0 256 (filled_to mode es X 0 tail)) none
      ∙ tables_walked mode es X tail long fits counts tallies 256 0 (omega arith)
      ∙ filled_last mode es X tail long

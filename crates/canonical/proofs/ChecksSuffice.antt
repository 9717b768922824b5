-- If all checks hold, the bytes are the image of some puts. Assumes nothing.
use Prim.Native.Nat.{ℕ, ◌+◌, ◌*◌, ◌-◌, ◌<◌}
use native.Mathlib.Omega.{arith}
use native.Mathlib.Decide.{ℕ_discrete}
use mathlib.Core.Path.{◌≡◌, sym, ap, ap₂, ◌∙◌}
use mathlib.Core.Bool.{Bool, true, false, cond, not}
use mathlib.Core.List.{List, [], ◌∷◌, ◌++◌, map}
use lib.ListN.{length, get_or, drop, replicate, length-take, length-drop, length-map, length-replicate, take-append-drop}
use lib.Dec.{eqb}
use borrow.Author.Tests.{eq-eqb, ne_eqb, eqb-true, not-true}
use Rattle.jhash.specs.NameHash.{hash_of}
use Rattle.jhash.proofs.WordRead.{word_below}
use Rattle.image.specs.Bytes.{word, cat}
use Rattle.image.specs.Head.{table_at, bucket_number, back_size_at, back_offset_at}
use Rattle.image.specs.Image.{Entry, Placed, head_size, entry_bytes, entry_size, placed, of_table, count, bucket_of, entries_before, table_offset, flag_word}
use Rattle.image.specs.Image.{back_size, back_in, back_size_of, back_offset, entries_end, image_size, back_word}
use Rattle.image.specs.Stored.{between}
use Rattle.image.specs.Tables.{table_of, Filled}
use Rattle.image.specs.Tally.{tallied}
use Rattle.image.specs.Zero.{has_zero}
use Rattle.image.proofs.EntryArea.{AllBytes, bytes_drop, bytes_take, whole_bytes, length-entries_in, ids_words}
use Rattle.image.proofs.At.{At}
use Rattle.image.proofs.Bools.{and_first, and_second}
use Rattle.image.proofs.EntryAt.{all_placed, ids_below}
use Rattle.image.proofs.AllOfList.{All, all_map, all_image}
use Rattle.image.proofs.Sizes.{length_entries}
use Rattle.writer.proofs.Agree.{zeros, tallied_count}
use Rattle.image.specs.declared.Mode.{Mode}
use Rattle.image.specs.declared.Mode.TheVariants.{Twoway, Oneway}
use Rattle.canonical.specs.Canonical.{mode_in}
use Rattle.canonical.specs.Steps.HiddenBuckets.{used_to, own_back_words, Stands}
use Rattle.canonical.specs.Steps.InPlace.{bucket_at, back_word_at}
use Rattle.canonical.specs.Steps.Made.{Made}
use Rattle.canonical.specs.Steps.Checks.{end_in, entries_to, row_count, table_place, not_before}
use Rattle.canonical.specs.Steps.Checks.{two_way, entry_ok, back_words_counted, Checked}
use Rattle.canonical.proofs.InPlace.{InPlace}
use Rattle.canonical.proofs.BackArray.{matching_back_word}
use Rattle.canonical.proofs.FilledTable.{matching_filled}
use Rattle.canonical.proofs.RisingOffsets.{all_rise, table_rises}
use Rattle.canonical.proofs.ReadBack.{storables}
use Rattle.canonical.proofs.TableChecks.{opens, table_facts, Row, row_facts, row_place, counts_facts, row_count_lem, rows_before}
use Rattle.canonical.proofs.EntryChecks.{Body, body_facts, Free, InBucket, bucket_facts, entries_facts, to_table, ahead_facts}
use Rattle.canonical.proofs.InPlaceImage.{in_place_image}

-- what holds of entries with their offsets, and not of these
unplaced : (Q : Entry → Type 0) (o : ℕ) (es : List Entry) → All (λ (p : Placed). Q p.entry) (placed o es) → All Q es
unfolding placed
unplaced Q o [] a = tt
unplaced Q o (e ∷ es) a = (a.0, unplaced Q (o + entry_size e) es a.1)

-- the tally of entries
pub counts_are : (es : List Entry) (t : ℕ) → t < 256 → get_or (tallied (replicate 256 0) es) t 0 ≡ count t (placed head_size es)
counts_are es t h =
    let tally = tallied_count es (replicate 256 0) head_size t (omega (arith, length-replicate {A = ℕ} 256 0)) in
    omega (arith, zeros 256 t)

module _ (img : List ℕ) (n : ℕ) (bytes : AllBytes img) (c : Checked img n) where
  b : Body img n (end_in img n) (back_size_at img)
  b = body_facts img n (end_in img n) (back_size_at img) c.body

  es : List Entry
  es = entries_to img (end_in img n) n

  ps : List Placed
  ps = placed head_size es

  mode : Mode
  mode = mode_in img

  area_bytes : AllBytes (between img head_size (end_in img n))
  area_bytes = bytes_take (end_in img n - head_size) (drop head_size img) (bytes_drop head_size img bytes)

  area_is : between img head_size (end_in img n) ≡ cat entry_bytes es
  unfolding es
  area_is = whole_bytes n (between img head_size (end_in img n)) area_bytes b.wholes

  ends : end_in img n ≡ entries_end es
  ends =
      omega
      (arith, ap length area_is, length_entries es, length-take (end_in img n - head_size) (drop head_size img), length-drop head_size img, c.room)

  number : length es ≡ n
  unfolding es
  number = length-entries_in n (between img head_size (end_in img n))

  backs : back_size_at img ≡ back_size_of mode es
  unfolding es mode
  backs = b.backs

  back_words_at : end_in img n + 16 * n ≡ entries_end es + 16 * length es
  back_words_at = omega (arith, ends, number)

  total : length img ≡ image_size mode es
  total = omega (arith, ends, number, backs, c.room)

  flag : word img 8 ≡ flag_word mode
  unfolding mode
  flag =
      elim (ℕ_discrete (word img 8) 0) [
        | yes e ↦ rw (eq-eqb (word img 8) 0 e) e
        | no d ↦ rw (ne_eqb (word img 8) 0 d) (omega (arith, c.flag))
      ]

  back_start : back_offset_at img ≡ back_offset mode es
  unfolding back_offset
  back_start = c.back_start ∙ ap₂ (λ (b : ℕ) (o : ℕ). cond (eqb b 0) 0 o) backs back_words_at

  entries_there : At img head_size (cat entry_bytes es)
  entries_there = record {
    post = drop (end_in img n - head_size) (drop head_size img);
    stands =
        sym (take-append-drop (end_in img n - head_size) (drop head_size img))
        ∙ ap (λ (l : List ℕ). l ++ drop (end_in img n - head_size) (drop head_size img)) area_is;
  }

  -- ---- rows

  numbers : (t : ℕ) → t < 256 → bucket_number img t ≡ 2 * count t ps
  unfolding ps es
  numbers t h = counts_facts img (tallied (replicate 256 0) es) b.counts t h ∙ ap (λ (k : ℕ). 2 * k) (counts_are es t h)

  place : ℕ → ℕ
  place t = entries_end es + 16 * entries_before t ps

  place_is : (t : ℕ) → t < 256 → table_place img (end_in img n) t ≡ place t
  unfolding place
  place_is t h = ap₂ (λ (x y : ℕ). x + 16 * y) ends (rows_before img ps numbers t (omega arith))

  row : (t : ℕ) → t < 256 → Row img (end_in img n) t
  row t h = row_facts img (end_in img n) b.rows t h

  offset : (t : ℕ) → t < 256 → table_at img t ≡ table_offset (entries_end es) ps t
  unfolding table_offset place
  offset t h = (row t h).offset ∙ ap₂ (λ (k o : ℕ). cond (eqb k 0) 0 o) (row_count_lem img ps numbers t h) (place_is t h)

  -- ---- entries in tables and back words

  abbrev Ok : Placed → Type 0
  Ok p = entry_ok img (two_way img) (end_in img n + 16 * n) p ≡ true

  checks : All Ok ps
  unfolding ps es
  checks = entries_facts img (two_way img) (end_in img n + 16 * n) ps b.entries

  names : All (λ (p : Placed). Free p × InBucket img p) ps
  names =
      all_map (λ p ok. let name = and_second (not_before (two_way img) p.at (back_word_at img (end_in img n + 16 * n) p.entry.id)) _ ok in
      let free = not (has_zero p.entry.name) in (and_first free _ name, and_second free _ name)) ps checks

  table : (t : ℕ) → t < 256 → Filled (2 * count t ps) (bucket_at img (place t)) (map bucket_of (of_table t ps))
  unfolding ps place
  table t h =
      let facts = table_facts img (table_place img (end_in img n) t) (row_count img t) (row t h).table in
      let (zeros, used) = rw (place_is t h, row_count_lem img ps numbers t h) at facts in
      matching_filled (2 * count t ps) (bucket_at img (place t)) (map bucket_of (of_table t ps)) (table_rises es t)
      record {
        zeros = zeros;
        used = used ∙ sym (length-map (of_table t ps) bucket_of);
        stand = all_image (Stands (2 * count t ps) (bucket_at img (place t))) bucket_of one (of_table t ps) (to_table _ t ps names);
      }
    where
      one : (p : Placed) → (Free p × InBucket img p) × (table_of (hash_of p.entry.name) ≡ t) → Stands (2 * count t ps) (bucket_at img (place t)) (bucket_of p)
      one p (r, e) =
          let d = rw e at (bucket_facts img (bucket_of p) r.1) in
          rw (row_place img (end_in img n) (row t h) (omega (arith, d.inside)) ∙ place_is t h, numbers t h) at d

  back_word_of : (i : ℕ) → i < back_size_of mode es → back_word (placed head_size es) i ≡ back_word_at img (entries_end es + 16 * length es) i
  unfolding mode es ps
  back_word_of i h = rw back_words_at at (by_mode (two_way img) b.backs checks b.back_word_of h)
    where
      o : ℕ
      o = end_in img n + 16 * n

      by_mode : (two : Bool) → back_size_at img ≡ back_in (cond two Twoway Oneway) (back_size es)
          → All (λ (p : Placed). entry_ok img two o p ≡ true) (placed head_size es)
          → cond two (back_words_counted img o (back_size_at img) (placed head_size es)) true ≡ true
          → i < back_in (cond two Twoway Oneway) (back_size es) → back_word (placed head_size es) i ≡ back_word_at img o i
      by_mode false e a k l = absurd (omega arith)
      by_mode true e a k l =
          matching_back_word (back_word_at img o) (back_size_at img) (placed head_size es) (all_rise es)
          (all_placed (λ (x : Entry). x.id < back_size_at img) head_size es (ids_below es (back_size_at img) (omega arith)))
          record {
            ahead = all_map (λ p ok. ahead_facts p.at _ (and_first (not_before true p.at (back_word_at img o p.entry.id)) _ ok)) (placed head_size es) a;
            used = eqb-true (used_to (back_word_at img o) (back_size_at img)) (own_back_words (back_word_at img o) (placed head_size es)) k;
          }
          i (omega arith)

  in_place : InPlace img mode es
  unfolding ps place
  in_place = record {
    letters = (opens img n c.opened).letters;
    size = c.size;
    flag = flag;
    order = (opens img n c.opened).order;
    back_size_lem = backs;
    back_start = back_start;
    total = total;
    rows = λ t h. (offset t h, numbers t h);
    entries = entries_there;
    tables = table;
    back_word_of = back_word_of;
  }

  pub checked_made : Made img
  unfolding es ps
  checked_made = record {
    mode = mode;
    puts = es;
    each =
        storables es (unplaced (λ (e : Entry). has_zero e.name ≡ false) head_size es (all_map (λ p r. not-true _ r.0) ps names))
        (ids_words n (between img head_size (end_in img n)) area_bytes);
    fits = omega (arith, total, c.size, word_below img 4 bytes);
    is = in_place_image img mode es bytes in_place;
  }

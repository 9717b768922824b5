-- Where each part of an image stands, and the words of its tables' rows. Assumes nothing.
use Rattle.std.proofs.Common.{◌≡◌, ℕ, zero, suc, ◌+◌, ◌-◌, ◌*◌, ◌^◌, ◌<◌, ◌≤◌, Bool, true, false, cond, eqb, List, ◌++◌, length, get_or, ap, ◌∙◌, arith}
use Rattle.std.proofs.Common.{length-append}
use Rattle.image.specs.Bytes.{word, le32, cat, range}
use Rattle.image.specs.Tables.{Bucket, empty}
use Rattle.image.specs.Image.{Entry, Placed, head_size, entry_bytes, placed, count, bucket_bytes, table, table_bytes, entries_before}
use Rattle.image.specs.Image.{table_offset, table_row, table_rows, tables, back_word, back_words, back_size_of, entries_end, image_size, head_words, image}
use Rattle.image.specs.declared.Mode.{Mode}
use Rattle.image.proofs.Words.{length_le32}
use Rattle.image.proofs.Lists.{length_cat, length_cat_const, length_range, range_at, get_or_range}
use Rattle.image.proofs.Sizes.{length_entries, length_placed, length-bucket_bytes, length_table, before_suc, before_all, length_tables_to, length_tables}
use Rattle.image.proofs.Sizes.{length-head_words, length-table_row, length-table_rows, length-table_bytes}
use Rattle.image.proofs.At.{At, at_whole, at_same, at_equal, at_left, at_right, at_word, at_second, at_after, at_part}

-- the entries of an image, with their offsets
abbrev pub placed_in : List Entry → List Placed
placed_in es = placed head_size es

-- ---- the five parts

-- head, rows, entries, tables and back words: five lists one after the other, each behind the lengths of those before it
module _ (h r e t l : List ℕ) where
  pub five_1 : {img : List ℕ} → At img 0 (h ++ r ++ e ++ t ++ l) → At img 0 h
  five_1 a = at_left h r (at_left (h ++ r) e (at_left (h ++ r ++ e) t (at_left (h ++ r ++ e ++ t) l a)))

  pub five_2 : {img : List ℕ} → At img 0 (h ++ r ++ e ++ t ++ l) → At img (length h) r
  five_2 a = at_same (omega arith) (at_right h r (at_left (h ++ r) e (at_left (h ++ r ++ e) t (at_left (h ++ r ++ e ++ t) l a))))

  pub five_3 : {img : List ℕ} → At img 0 (h ++ r ++ e ++ t ++ l) → At img (length h + length r) e
  five_3 a = at_same (simp length-append (omega arith)) (at_right (h ++ r) e (at_left (h ++ r ++ e) t (at_left (h ++ r ++ e ++ t) l a)))

  pub five_4 : {img : List ℕ} → At img 0 (h ++ r ++ e ++ t ++ l) → At img (length h + length r + length e) t
  five_4 a = at_same (simp length-append (omega arith)) (at_right (h ++ r ++ e) t (at_left (h ++ r ++ e ++ t) l a))

  pub five_5 : {img : List ℕ} → At img 0 (h ++ r ++ e ++ t ++ l) → At img (length h + length r + length e + length t) l
  five_5 a = at_same (simp length-append (omega arith)) (at_right (h ++ r ++ e ++ t) l a)

module _ (mode : Mode) (es : List Entry) where
  H : List ℕ
  H = head_words mode es

  R : List ℕ
  R = table_rows (entries_end es) (placed_in es)

  E : List ℕ
  E = cat entry_bytes es

  T : List ℕ
  T = tables (placed_in es)

  L : List ℕ
  L = back_words (placed_in es) (back_size_of mode es)

  whole : At (image mode es) 0 (H ++ R ++ E ++ T ++ L)
  unfolding image H R E T L
  whole = at_whole (image mode es)

  pub head_at : At (image mode es) 0 (head_words mode es)
  unfolding H
  head_at = five_1 H R E T L whole

  pub rows_at : At (image mode es) 24 (table_rows (entries_end es) (placed_in es))
  unfolding H R
  rows_at = at_same (length-head_words mode es) (five_2 H R E T L whole)

  pub entries_at : At (image mode es) head_size (cat entry_bytes es)
  unfolding H R E
  entries_at = at_same sum (five_3 H R E T L whole)
    where
      sum : length H + length R ≡ 2072
      sum = omega (arith, length-head_words mode es, length-table_rows (entries_end es) (placed_in es))

  pub tables_at : At (image mode es) (entries_end es) (tables (placed_in es))
  unfolding H R E T
  tables_at = at_same sum (five_4 H R E T L whole)
    where
      sum : length H + length R + length E ≡ entries_end es
      sum = omega (arith, length-head_words mode es, length-table_rows (entries_end es) (placed_in es), length_entries es)

  pub back_words_at : At (image mode es) (entries_end es + 16 * length es) (back_words (placed_in es) (back_size_of mode es))
  unfolding H R E T L
  back_words_at = at_same sum (five_5 H R E T L whole)
    where
      sum : length H + length R + length E + length T ≡ entries_end es + 16 * length es
      sum =
          omega (
            arith,
            length-head_words mode es,
            length-table_rows (entries_end es) (placed_in es),
            length_entries es,
            length_tables (placed_in es),
            length_placed head_size es,
          )

-- ---- how far the tables go

pub before_mono : (ps : List Placed) (t d : ℕ) → entries_before t ps ≤ entries_before (t + d) ps
before_mono ps t zero = let e : t ≡ t + 0 = omega arith in rw (← e) (omega arith)
before_mono ps t (suc d) =
    let e : suc (t + d) ≡ t + suc d = omega arith in
    let s = before_suc (t + d) ps in
    let h = before_mono ps t d in
    rw (← e) (omega arith)

pub before_most : (ps : List Placed) (t : ℕ) → t < 256 → entries_before t ps + count t ps ≤ length ps
before_most ps t h =
    let e : suc t + (255 - t) ≡ 256 = omega arith in
    let m : entries_before (suc t) ps ≤ entries_before 256 ps = rw e at (before_mono ps (suc t) (255 - t)) in
    omega (arith, before_suc t ps, before_all ps)

-- ---- the words of the tables' rows, in any bytes where they stand

module _ {img : List ℕ} (end : ℕ) (ps : List Placed) (rows : At img 24 (table_rows end ps)) (fits : end + 16 * length ps ≤ 4294967295) where
  row_at : (t : ℕ) → t < 256 → At img (24 + 8 * t) (table_row end ps t)
  unfolding table_rows
  row_at t h =
      let e : 0 + t ≡ t = omega arith in
      at_equal (ap (table_row end ps) (get_or_range 0 256 t h ∙ e))
      (at_part (table_row end ps) 8 (length-table_row end ps) 24 (range 0 256) t 0 rows (rw (length_range 0 256) h))

  offset_below : (t : ℕ) → t < 256 → table_offset end ps t < 2 ^ 32
  unfolding table_offset
  offset_below t h = below_either_way (eqb (count t ps) 0)
    where
      below_either_way : (b : Bool) → cond b 0 (end + 16 * entries_before t ps) < 2 ^ 32
      below_either_way true = omega arith
      below_either_way false = omega (arith, before_most ps t h)

  pub offset_word : (t : ℕ) → t < 256 → word img (24 + 8 * t) ≡ table_offset end ps t
  unfolding table_row
  offset_word t h =
      at_word (table_offset end ps t)
      (at_left (le32 (table_offset end ps t)) (le32 (2 * count t ps)) (row_at t h))
      (offset_below t h)

  pub number_word : (t : ℕ) → t < 256 → word img (28 + 8 * t) ≡ 2 * count t ps
  unfolding table_row
  number_word t h =
      let e : 24 + 8 * t + 4 ≡ 28 + 8 * t = omega arith in
      at_word (2 * count t ps)
      (at_same e (at_second (table_offset end ps t) (2 * count t ps) (row_at t h)))
      (omega (arith, before_most ps t h))

-- ---- tables of the sizes that entries want, whatever their buckets hold

abbrev pub buckets_of : (ℕ → List Bucket) → ℕ → List ℕ
buckets_of of t = cat bucket_bytes (of t)

module _ (ps : List Placed) (of : ℕ → List Bucket) (sized : (t : ℕ) → length (of t) ≡ 2 * count t ps) where
  length_buckets_of : (t : ℕ) → length (buckets_of of t) ≡ length (table_bytes ps t)
  length_buckets_of t = omega (arith, length_cat bucket_bytes 8 length-bucket_bytes (of t), sized t, length-table_bytes ps t)

  pub length_tables_of_to : (t : ℕ) → length (cat (buckets_of of) (range 0 t)) ≡ 16 * entries_before t ps
  length_tables_of_to t = length_cat_const (buckets_of of) (table_bytes ps) length_buckets_of (range 0 t) ∙ length_tables_to t ps

  pub length_tables_of : length (cat (buckets_of of) (range 0 256)) ≡ 16 * length ps
  length_tables_of = length_tables_of_to 256 ∙ ap (λ (n : ℕ). 16 * n) (before_all ps)

  -- bucket k of table t
  pub bucket_of_lem : {img : List ℕ} (o : ℕ) → At img o (cat (buckets_of of) (range 0 256)) → (t k : ℕ) → t < 256 → k < 2 * count t ps
      → At img (o + 16 * entries_before t ps + 8 * k) (bucket_bytes (get_or (of t) k empty))
  bucket_of_lem o a t k h i =
      at_part bucket_bytes 8 length-bucket_bytes (o + 16 * entries_before t ps) (of t) k empty
      (at_same (ap (λ (n : ℕ). o + n) (length_tables_of_to t))
      (at_after (buckets_of of) o (range 0 t) t (range (suc t) (256 - suc t)) (at_equal (ap (cat (buckets_of of)) (range_at 256 t h)) a)))
      (rw (sized t) i)

-- ---- the words of an image, where its size is one

module _ (mode : Mode) (es : List Entry) (fits : image_size mode es ≤ 4294967295) where
  pub most : (t : ℕ) → t < 256 → entries_before t (placed_in es) + count t (placed_in es) ≤ length es
  most t h = omega (arith, before_most (placed_in es) t h, length_placed head_size es)

  tables_fit : entries_end es + 16 * length (placed_in es) ≤ 4294967295
  tables_fit = omega (arith, length_placed head_size es)

  pub table_at_image : (t : ℕ) → t < 256 → word (image mode es) (24 + 8 * t) ≡ table_offset (entries_end es) (placed_in es) t
  table_at_image = offset_word (entries_end es) (placed_in es) (rows_at mode es) tables_fit

  pub bucket_number_image : (t : ℕ) → t < 256 → word (image mode es) (28 + 8 * t) ≡ 2 * count t (placed_in es)
  bucket_number_image = number_word (entries_end es) (placed_in es) (rows_at mode es) tables_fit

  -- the buckets of table t
  pub bucket_at_lem : (t k : ℕ) → t < 256 → k < 2 * count t (placed_in es)
      → At (image mode es) (entries_end es + 16 * entries_before t (placed_in es) + 8 * k) (bucket_bytes (get_or (table t (placed_in es)) k empty))
  unfolding tables table_bytes
  bucket_at_lem =
      bucket_of_lem (placed_in es) (λ (t : ℕ). table t (placed_in es)) (λ t. length_table t (placed_in es)) (entries_end es) (tables_at mode es)

  -- the back words
  pub back_word_at : (i : ℕ) → i < back_size_of mode es → At (image mode es) (entries_end es + 16 * length es + 4 * i) (le32 (back_word (placed_in es) i))
  unfolding back_words
  back_word_at i h =
      let e : 0 + i ≡ i = omega arith in
      at_equal (ap (λ (k : ℕ). le32 (back_word (placed_in es) k)) (get_or_range 0 (back_size_of mode es) i h ∙ e))
      (at_part (λ (k : ℕ). le32 (back_word (placed_in es) k)) 4 (λ k. length_le32 (back_word (placed_in es) k)) (entries_end es + 16 * length es)
      (range 0 (back_size_of mode es)) i 0 (back_words_at mode es) (rw (length_range 0 (back_size_of mode es)) h))

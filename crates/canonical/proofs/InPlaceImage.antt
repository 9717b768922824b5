-- Bytes whose words and entries are those of the image of some entries are that image. Assumes nothing.
use mathlib.Core.Path.{◌≡◌, refl, sym, ap, ◌∙◌}
use mathlib.Core.Bool.{true, ◌&&◌}
use mathlib.Core.List.{List, [], ◌∷◌, ◌++◌}
use Prim.Native.Nat.{ℕ, ◌+◌, ◌*◌, ◌<◌}
use native.Mathlib.Omega.{arith}
use lib.Dec.{eqb}
use lib.ListN.{length, get_or, length-append}
use borrow.Author.Tests.{eqb-true}
use Rattle.image.specs.Bytes.{word, le32, cat, range}
use Rattle.image.specs.Image.{Entry, Placed, head_size, entry_bytes, placed, count, bucket_bytes, table, table_bytes, entries_before}
use Rattle.image.specs.Image.{table_offset, table_row, table_rows, tables, back_word, back_words, flag_word, back_size_of, back_offset, entries_end}
use Rattle.image.specs.Image.{image_size}
use Rattle.image.specs.Image.{head_bytes, head_words, image}
use Rattle.image.specs.Tables.{empty}
use Rattle.image.proofs.EntryArea.{AllBytes}
use Rattle.image.proofs.At.{At, at_same, at_equal}
use Rattle.image.proofs.Bools.{and_first, and_second}
use Rattle.image.proofs.Lists.{length_range, get_or_range}
use Rattle.image.proofs.Parts.{before_most}
use Rattle.image.proofs.Sizes.{length_entries, length_placed, length-bucket_bytes, length_table, length-table_bytes, length_tables, length-head_words}
use Rattle.image.proofs.Sizes.{length-table_row, length-table_rows, length_image}
use Rattle.image.proofs.Words.{length_le32}
use Rattle.reader.specs.Open.{has_letters}
use Rattle.image.specs.declared.Mode.{Mode}
use Rattle.canonical.proofs.InPlace.{InPlace}
use Rattle.canonical.proofs.TableChecks.{and3_facts}
use Rattle.canonical.proofs.Concatenation.{at_join, at_all, at_cat, at_parts, at_le32, at_words}

-- the letters, read as a word
letters_word : (img : List ℕ) → has_letters img ≡ true → word img 0 ≡ 1111773507
unfolding word
letters_word img h =
    let p = eqb (get_or img 0 0) 67 in
    let q = eqb (get_or img 1 0) 81 in
    let r = eqb (get_or img 2 0) 68 in
    let (a, b, c) = and3_facts p q r (and_first (p && q && r) _ h) in
    let d = eqb-true (get_or img 3 0) 66 (and_second (p && q && r) _ h) in
    rw (eqb-true (get_or img 0 0) 67 a, eqb-true (get_or img 1 0) 81 b, eqb-true (get_or img 2 0) 68 c, d)

-- parts of one size, by their numbers
at_run : {img : List ℕ} (f : ℕ → List ℕ) (size o n : ℕ) → ((i : ℕ) → length (f i) ≡ size) → ((i : ℕ) → i < n → At img (o + size * i) (f i))
    → At img o (cat f (range 0 n))
at_run {img} f size o n sized each = at_parts f size sized o (range 0 n) 0 (λ i h. one i (rw (length_range 0 n) at h))
  where
    one : (i : ℕ) → i < n → At img (o + size * i) (f (get_or (range 0 n) i 0))
    one i h = let z : 0 + i ≡ i = omega arith in at_equal (ap f (sym (get_or_range 0 n i h ∙ z))) (each i h)

module _ (img : List ℕ) (mode : Mode) (es : List Entry) (bytes : AllBytes img) (ip : InPlace img mode es) where
  ps : List Placed
  ps = placed head_size es

  long : length img ≡ entries_end es + 16 * length es + 4 * back_size_of mode es
  long = ip.total

  many : length ps ≡ length es
  unfolding ps
  many = length_placed head_size es

  head : At img 0 (head_words mode es)
  unfolding head_words head_bytes cat le32
  head =
      at_words img 0 (1111773507 ∷ image_size mode es ∷ flag_word mode ∷ 0x62445371 ∷ back_size_of mode es ∷ back_offset mode es ∷ []) bytes
      (omega (arith, long))
      (letters_word img ip.letters, (ip.size ∙ ip.total, (ip.flag, (ip.order, (ip.back_size_lem, (ip.back_start, tt))))))

  rows : At img 24 (table_rows (entries_end es) ps)
  unfolding table_rows table_row ps cat le32
  rows =
      at_run (table_row (entries_end es) ps) 8 24 256 (length-table_row (entries_end es) ps)
      (λ i h. let e : 24 + 8 * i + 4 ≡ 28 + 8 * i = omega arith in
      at_words img (24 + 8 * i) (table_offset (entries_end es) ps i ∷ 2 * count i ps ∷ []) bytes (omega (arith, long))
      ((ip.rows i h).0, (ap (word img) e ∙ (ip.rows i h).1, tt)))

  start_of : ℕ → ℕ
  start_of t = entries_end es + 16 * entries_before t ps

  one_table : (t : ℕ) → t < 256 → At img (start_of t) (table_bytes ps t)
  unfolding table_bytes table start_of bucket_bytes ps cat le32
  one_table t h =
      at_parts bucket_bytes 8 length-bucket_bytes (start_of t) (table t ps) empty
      (λ k l. let m : k < 2 * count t ps = rw (length_table t ps) at l in
      at_equal (ap bucket_bytes ((ip.tables t h).each k m))
      (at_words img (start_of t + 8 * k) (word img (start_of t + 8 * k) ∷ word img (start_of t + 8 * k + 4) ∷ []) bytes
      (omega (arith, long, many, before_most ps t h)) (refl, (refl, tt))))

  all_tables : At img (entries_end es) (tables ps)
  unfolding tables start_of entries_before
  all_tables =
      let z : entries_end es + 16 * 0 ≡ entries_end es = omega arith in
      at_same z (at_cat (table_bytes ps) start_of (λ t. omega (arith, length-table_bytes ps t)) 0 256 (λ i h. one_table (0 + i) (omega arith)))

  all_back_words : At img (entries_end es + 16 * length es) (back_words ps (back_size_of mode es))
  unfolding back_words ps
  all_back_words =
      at_run (λ (i : ℕ). le32 (back_word ps i)) 4 (entries_end es + 16 * length es) (back_size_of mode es) (λ i. length_le32 (back_word ps i))
      (λ i h. at_le32 img (entries_end es + 16 * length es + 4 * i) (back_word ps i) bytes (omega (arith, long)) (sym (ip.back_word_of i h)))

  -- the parts, one after the other
  pub in_place_image : image mode es ≡ img
  unfolding image ps
  in_place_image =
      at_all img (image mode es)
      (at_join (at_join (at_join (at_join head to_rows rows) to_entries ip.entries) to_tables all_tables) to_back_words all_back_words)
      (ip.total ∙ sym (length_image mode es))
    where
      H : List ℕ
      H = head_words mode es ++ table_rows (entries_end es) ps

      to_rows : 0 + length (head_words mode es) ≡ 24
      to_rows = omega (arith, length-head_words mode es)

      to_entries : 0 + length H ≡ head_size
      to_entries = simp (length-append, length-head_words, length-table_rows)

      to_tables : 0 + length (H ++ cat entry_bytes es) ≡ entries_end es
      to_tables = omega (arith, to_entries, length-append H (cat entry_bytes es), length_entries es)

      to_back_words : 0 + length (H ++ cat entry_bytes es ++ tables ps) ≡ entries_end es + 16 * length es
      to_back_words = omega (arith, to_tables, length-append (H ++ cat entry_bytes es) (tables ps), length_tables ps, many)

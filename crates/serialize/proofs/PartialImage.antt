-- The image of entries while close inserts them, one after the other, into tables and back array: where its parts stand, how it begins and
-- how it ends. Assumes nothing.
use Rattle.std.proofs.Common.{◌≡◌, ℕ, zero, suc, ◌+◌, ◌*◌, List, [], ◌∷◌, ◌++◌, map, length, replicate, sym, refl, ap, ◌∙◌, ap₂, arith, length-append}
use lib.ListN.{replicate-append-replicate}
use Rattle.image.specs.Bytes.{le32, cat, filter, range}
use Rattle.image.specs.Tables.{Bucket, empty, filled, insert_all}
use Rattle.image.specs.Image.{Entry, Placed, head_size, entry_bytes, entries_size, of_table, count, bucket_of, bucket_bytes, table, table_bytes, tables}
use Rattle.image.specs.Image.{table_rows, placed_of_id, last_from, back_word, back_words, back_size_of, entries_end, head_words, image}
use Rattle.image.specs.declared.Mode.{Mode}
use Rattle.image.proofs.Lists.{cat_append}
use Rattle.image.proofs.Sizes.{length_entries, length_filled, length-head_words, length-table_rows, length-back_words}
use Rattle.image.proofs.At.{At, at_same, at_equal, at_right}
use Rattle.image.proofs.Parts.{placed_in, five_2, five_3, five_4, buckets_of, length_tables_of}

-- the tables of the entries ps into which the entries rs are inserted
unfoldable pub table_with : List Placed → List Placed → ℕ → List Bucket
table_with ps rs t = filled (2 * count t ps) (map bucket_of (of_table t rs))

unfoldable pub tables_with : List Placed → List Placed → List ℕ
tables_with ps rs = cat (buckets_of (table_with ps rs)) (range 0 256)

pub length_table_with : (ps rs : List Placed) (t : ℕ) → length (table_with ps rs t) ≡ 2 * count t ps
unfolding table_with
length_table_with ps rs t = length_filled (2 * count t ps) (map bucket_of (of_table t rs))

pub length_tables_with : (ps rs : List Placed) → length (tables_with ps rs) ≡ 16 * length ps
unfolding tables_with
length_tables_with ps rs = length_tables_of ps (table_with ps rs) (length_table_with ps rs)

-- what stands before the tables
unfoldable pub up_to_entries : Mode → List Entry → List ℕ
up_to_entries mode es = head_words mode es ++ table_rows (entries_end es) (placed_in es) ++ cat entry_bytes es

pub length_up_to_entries : (mode : Mode) (es : List Entry) → length (up_to_entries mode es) ≡ entries_end es
unfolding up_to_entries
length_up_to_entries mode es =
    simp length-append
    (omega (arith, length-head_words mode es, length-table_rows (entries_end es) (placed_in es), length_entries es))

-- the image of the entries es into whose tables and back array the entries qs are inserted
unfoldable pub partial : Mode → List Entry → List Entry → List ℕ
unfolding up_to_entries
partial mode es qs = up_to_entries mode es ++ tables_with (placed_in es) (placed_in qs) ++ back_words (placed_in qs) (back_size_of mode es)

-- ---- where its parts stand, whatever follows it

module _ (mode : Mode) (es qs : List Entry) (tail : List ℕ) where
  B : List ℕ
  B = partial mode es qs ++ tail

  H : List ℕ
  H = head_words mode es

  R : List ℕ
  R = table_rows (entries_end es) (placed_in es)

  E : List ℕ
  E = cat entry_bytes es

  T : List ℕ
  T = tables_with (placed_in es) (placed_in qs)

  L : List ℕ
  L = back_words (placed_in qs) (back_size_of mode es)

  whole : At B 0 (H ++ R ++ E ++ T ++ L)
  unfolding B H R E T L partial up_to_entries
  whole = record { post = tail; stands = refl }

  pub rows_there : At (partial mode es qs ++ tail) 24 (table_rows (entries_end es) (placed_in es))
  unfolding B H R
  rows_there = at_same (length-head_words mode es) (five_2 H R E T L whole)

  pub entries_there : At (partial mode es qs ++ tail) head_size (cat entry_bytes es)
  unfolding B H R E
  entries_there =
      let sum : length H + length R ≡ 2072 = omega (arith, length-head_words mode es, length-table_rows (entries_end es) (placed_in es)) in
      at_same sum (five_3 H R E T L whole)

  pub tables_there : At (partial mode es qs ++ tail) (entries_end es) (tables_with (placed_in es) (placed_in qs))
  unfolding B H R E T
  tables_there =
      let rows = length-table_rows (entries_end es) (placed_in es) in
      let sum : length H + length R + length E ≡ entries_end es = omega (arith, length-head_words mode es, rows, length_entries es) in
      at_same sum (five_4 H R E T L whole)

-- the entries from one of them on, in any bytes where they stand
pub entries_after : {img : List ℕ} (es rest done : List Entry) → At img head_size (cat entry_bytes es) → es ≡ done ++ rest
    → At img (head_size + entries_size done) (cat entry_bytes rest)
entries_after es rest done there e =
    at_same (ap (λ (n : ℕ). head_size + n) (length_entries done))
    (at_right (cat entry_bytes done) (cat entry_bytes rest) (at_equal (ap (cat entry_bytes) e ∙ cat_append entry_bytes done rest) there))

pub entries_from : (mode : Mode) (es qs rest done : List Entry) (tail : List ℕ) → es ≡ done ++ rest
    → At (partial mode es qs ++ tail) (head_size + entries_size done) (cat entry_bytes rest)
entries_from mode es qs rest done tail e = entries_after es rest done (entries_there mode es qs tail) e

-- ---- when all entries are inserted it is the image

pub partial_all : (mode : Mode) (es : List Entry) → partial mode es es ≡ image mode es
unfolding partial up_to_entries tables_with table_with image tables table_bytes table
partial_all mode es = refl

-- ---- before any entry is inserted, tables and back array are zeros

abbrev pub Zeros : List ℕ → Type 0
Zeros l = l ≡ replicate (length l) 0

zeros_append : (a b : List ℕ) → Zeros a → Zeros b → Zeros (a ++ b)
zeros_append a b p q =
    ap₂ ◌++◌ p q
    ∙ replicate-append-replicate (length a) (length b) 0
    ∙ ap (λ (n : ℕ). replicate n 0) (sym (length-append a b))

zeros_cat : {A : Type 0} (f : A → List ℕ) → ((x : A) → Zeros (f x)) → (xs : List A) → Zeros (cat f xs)
unfolding cat
zeros_cat f h [] = refl
zeros_cat f h (x ∷ xs) = zeros_append (f x) (cat f xs) (h x) (zeros_cat f h xs)

pub zeros_buckets : (n : ℕ) → Zeros (cat bucket_bytes (replicate n empty))
unfolding cat bucket_bytes le32
zeros_buckets zero = refl
zeros_buckets (suc n) = zeros_append (bucket_bytes empty) (cat bucket_bytes (replicate n empty)) refl (zeros_buckets n)

zeros_tables : (ps : List Placed) → Zeros (tables_with ps [])
unfolding tables_with table_with of_table filter filled insert_all
zeros_tables ps = zeros_cat (buckets_of (table_with ps [])) (λ t. zeros_buckets (2 * count t ps)) (range 0 256)

pub zeros_back_words : (n : ℕ) → Zeros (back_words [] n)
unfolding back_words back_word placed_of_id filter last_from le32
zeros_back_words n = zeros_cat (λ (i : ℕ). le32 (back_word [] i)) (λ i. refl) (range 0 n)

pub zeros_both : (ps : List Placed) (n m : ℕ) → m ≡ 16 * length ps + 4 * n → replicate m 0 ≡ tables_with ps [] ++ back_words [] n
zeros_both ps n m e =
    let T = tables_with ps [] in
    let L = back_words [] n in
    let size : m ≡ length (T ++ L) = omega (arith, length-append T L, length_tables_with ps [], length-back_words [] n) in
    ap (λ (k : ℕ). replicate k 0) size ∙ sym (zeros_append T L (zeros_tables ps) (zeros_back_words n))

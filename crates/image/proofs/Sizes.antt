-- The sizes of an image's parts, and where each begins. Assumes nothing.
use Rattle.std.proofs.Common.{◌≡◌, ℕ, zero, suc, ◌+◌, ◌*◌, ◌<◌, Bool, true, false, cond, eqb, ltb, List, [], ◌∷◌, ◌++◌, map, length, replicate, refl, ap, ◌∙◌}
use Rattle.std.proofs.Common.{mod-lt, arith, lit<, length-append, length-set, ltb-false, ltb-true, le-ltb, lt-ltb, eqb-true}
use lib.ListN.{length-replicate}
use borrow.Author.Tests.{eqb-false}
use Rattle.jhash.specs.NameHash.{hash_of}
use Rattle.image.specs.Bytes.{le32, cat, filter, range}
use Rattle.image.specs.Tables.{Bucket, empty, table_of, insert, insert_all, filled}
use Rattle.image.specs.Image.{Entry, Placed, head_size, entry_bytes, entry_size, entries_size, placed, in_table, of_table, count, bucket_of, bucket_bytes}
use Rattle.image.specs.Image.{table, table_bytes, entries_before, table_row, table_rows, tables, back_word, back_words, back_in, back_size_of}
use Rattle.image.specs.Image.{image_size, head_bytes, head_words, flag_word, back_offset, image}
use Rattle.image.specs.declared.Mode.{Mode}
use Rattle.image.specs.declared.Mode.TheVariants.{Twoway, Oneway}
use Rattle.image.proofs.Words.{length_le32}
use Rattle.image.proofs.Lists.{cat_append, length_cat, filter-append, length_range, range_more}

-- ---- entries

pub length-entry_bytes : (e : Entry) → length (entry_bytes e) ≡ entry_size e
unfolding entry_bytes
length-entry_bytes e =
    simp (length-append, length_le32) (omega arith)

pub length_entries : (es : List Entry) → length (cat entry_bytes es) ≡ entries_size es
unfolding cat entries_size
length_entries [] = refl
length_entries (e ∷ es) =
    omega (arith, length-append (entry_bytes e) (cat entry_bytes es), length-entry_bytes e, length_entries es)

pub entries_size-append : (es fs : List Entry) → entries_size (es ++ fs) ≡ entries_size es + entries_size fs
unfolding entries_size
entries_size-append [] fs = omega arith
entries_size-append (e ∷ es) fs = omega (arith, entries_size-append es fs)

-- ---- where entries stand

pub length_placed : (o : ℕ) (es : List Entry) → length (placed o es) ≡ length es
unfolding placed
length_placed o [] = refl
length_placed o (e ∷ es) = ap suc (length_placed (o + entry_size e) es)

pub placed_append : (o : ℕ) (es fs : List Entry) → placed o (es ++ fs) ≡ placed o es ++ placed (o + entries_size es) fs
unfolding placed entries_size
placed_append o [] fs = let e : o ≡ o + 0 = omega arith in ap (λ (k : ℕ). placed k fs) e
placed_append o (e ∷ es) fs =
    let s : o + entry_size e + entries_size es ≡ o + (entry_size e + entries_size es) = omega arith in
    ap (λ (l : List Placed). record { entry = e; at = o } ∷ l)
    (placed_append (o + entry_size e) es fs ∙ ap (λ (k : ℕ). placed (o + entry_size e) es ++ placed k fs) s)

-- ---- tables

pub length_insert : (n : ℕ) (table : List Bucket) (b : Bucket) → length (insert n table b) ≡ length table
unfolding insert
length_insert n table b = simp length-set

pub length-insert_all : (n : ℕ) (table bs : List Bucket) → length (insert_all n table bs) ≡ length table
unfolding insert_all
length-insert_all n table [] = refl
length-insert_all n table (b ∷ bs) = length-insert_all n (insert n table b) bs ∙ length_insert n table b

pub length_filled : (n : ℕ) (bs : List Bucket) → length (filled n bs) ≡ n
unfolding filled
length_filled n bs = length-insert_all n (replicate n empty) bs ∙ length-replicate n empty

-- one entry more
pub insert_all_more : (n : ℕ) (table bs : List Bucket) (b : Bucket) → insert_all n table (bs ++ (b ∷ [])) ≡ insert n (insert_all n table bs) b
unfolding insert_all
insert_all_more n table [] b = refl
insert_all_more n table (c ∷ bs) b = insert_all_more n (insert n table c) bs b

pub filled_more : (n : ℕ) (bs : List Bucket) (b : Bucket) → filled n (bs ++ (b ∷ [])) ≡ insert n (filled n bs) b
unfolding filled
filled_more n bs b = insert_all_more n (replicate n empty) bs b

pub length-bucket_bytes : (b : Bucket) → length (bucket_bytes b) ≡ 8
unfolding bucket_bytes
length-bucket_bytes b = simp (length-append, length_le32)

pub length_table : (t : ℕ) (ps : List Placed) → length (table t ps) ≡ 2 * count t ps
unfolding table
length_table t ps = length_filled (2 * count t ps) (map bucket_of (of_table t ps))

pub length-table_bytes : (ps : List Placed) (t : ℕ) → length (table_bytes ps t) ≡ 16 * count t ps
unfolding table_bytes
length-table_bytes ps t = omega (arith, length_cat bucket_bytes 8 length-bucket_bytes (table t ps), length_table t ps)

-- ---- how many entries a table has, and those before it

pub count_nil : (t : ℕ) → count t [] ≡ 0
unfolding of_table filter
count_nil t = refl

pub count_cons : (t : ℕ) (p : Placed) (ps : List Placed) → count t (p ∷ ps) ≡ cond (in_table t p) 1 0 + count t ps
unfolding of_table filter
count_cons t p ps = length_with_first (in_table t p)
  where
    length_with_first : (b : Bool) → length (cond b (p ∷ filter (in_table t) ps) (filter (in_table t) ps)) ≡ cond b 1 0
        + length (filter (in_table t) ps)
    length_with_first true = omega arith
    length_with_first false = omega arith

pub of_table-append : (t : ℕ) (ps qs : List Placed) → of_table t (ps ++ qs) ≡ of_table t ps ++ of_table t qs
unfolding of_table
of_table-append t ps qs = filter-append (in_table t) ps qs

pub count_append : (t : ℕ) (ps qs : List Placed) → count t (ps ++ qs) ≡ count t ps + count t qs
count_append t ps qs = ap length (of_table-append t ps qs) ∙ length-append (of_table t ps) (of_table t qs)

pub before_nil : (t : ℕ) → entries_before t [] ≡ 0
unfolding entries_before
before_nil zero = refl
before_nil (suc t) = omega (arith, before_nil t, count_nil t)

pub before_suc : (t : ℕ) (ps : List Placed) → entries_before (suc t) ps ≡ entries_before t ps + count t ps
unfolding entries_before
before_suc t ps = refl

pub before_cons : (t : ℕ) (p : Placed) (ps : List Placed)
    → entries_before t (p ∷ ps) ≡ cond (ltb (table_of (hash_of p.entry.name)) t) 1 0 + entries_before t ps
unfolding entries_before
before_cons zero p ps = rw (le-ltb (table_of (hash_of p.entry.name)) 0 (omega arith))
before_cons (suc t) p ps =
    before_next_table (ltb x t) refl (eqb x t) refl (before_cons t p ps) (count_cons t p ps)
  where
    x : ℕ
    x = table_of (hash_of p.entry.name)

    before_next_table : (b : Bool) → ltb x t ≡ b → (e : Bool) → eqb x t ≡ e
        → entries_before t (p ∷ ps) ≡ cond (ltb x t) 1 0 + entries_before t ps → count t (p ∷ ps) ≡ cond (eqb x t) 1 0 + count t ps
        → entries_before t (p ∷ ps) + count t (p ∷ ps) ≡ cond (ltb x (suc t)) 1 0 + (entries_before t ps + count t ps)
    before_next_table true h true k i j = let z = ltb-true x t h in let y = eqb-true x t k in absurd (omega arith)
    before_next_table true h false k i j =
        let z = ltb-true x t h in
        let w : ltb x (suc t) ≡ true = lt-ltb x (suc t) (omega arith) in
        rw w (omega (arith, rw h at i, rw k at j))
    before_next_table false h true k i j =
        let y = eqb-true x t k in
        let w : ltb x (suc t) ≡ true = lt-ltb x (suc t) (omega arith) in
        rw w (omega (arith, rw h at i, rw k at j))
    before_next_table false h false k i j =
        let z = ltb-false x t h in
        let y = eqb-false x t k in
        let ne : (x ≡ t) → ⊥ = y in
        let w : ltb x (suc t) ≡ false = le-ltb x (suc t) (omega arith) in
        rw w (omega (arith, rw h at i, rw k at j))

-- every entry is in one of the 256 tables
pub before_all : (ps : List Placed) → entries_before 256 ps ≡ length ps
before_all [] = before_nil 256
before_all (p ∷ ps) =
    let below : table_of (hash_of p.entry.name) < 256 = mod-lt (hash_of p.entry.name) (lit< tt) in
    before_cons 256 p ps
    ∙ ap (λ (b : Bool). cond b 1 0 + entries_before 256 ps) (lt-ltb (table_of (hash_of p.entry.name)) 256 below)
    ∙ one (entries_before 256 ps) (length ps) (before_all ps)
  where
    one : (a b : ℕ) → a ≡ b → 1 + a ≡ suc b
    one a b h = omega arith

-- the tables up to t
tables_one : (t : ℕ) (ps : List Placed) → length (cat (table_bytes ps) ((0 + t) ∷ [])) ≡ 16 * count t ps
unfolding cat
tables_one t ps =
    let e : 0 + t ≡ t = omega arith in
    length-append (table_bytes ps (0 + t)) [] ∙ rw e (omega (arith, length-table_bytes ps t))

pub length_tables_to : (t : ℕ) (ps : List Placed) → length (cat (table_bytes ps) (range 0 t)) ≡ 16 * entries_before t ps
unfolding entries_before cat range
length_tables_to zero ps = refl
length_tables_to (suc t) ps =
    let h = length_tables_to t ps in
    let k = tables_one t ps in
    let e : length (cat (table_bytes ps) (range 0 t ++ ((0 + t) ∷ [])))
    ≡ length (cat (table_bytes ps) (range 0 t)) + length (cat (table_bytes ps) ((0 + t) ∷ [])) =
    ap length (cat_append (table_bytes ps) (range 0 t) ((0 + t) ∷ []))
    ∙ length-append (cat (table_bytes ps) (range 0 t)) (cat (table_bytes ps) ((0 + t) ∷ [])) in
    ap (λ (l : List ℕ). length (cat (table_bytes ps) l)) (range_more 0 t) ∙ e ∙ sum _ _ _ _ h k
  where
    sum : (a b x y : ℕ) → a ≡ 16 * x → b ≡ 16 * y → a + b ≡ 16 * (x + y)
    sum a b x y h k = omega arith

pub length_tables : (ps : List Placed) → length (tables ps) ≡ 16 * length ps
unfolding tables
length_tables ps = length_tables_to 256 ps ∙ ap (λ (n : ℕ). 16 * n) (before_all ps)

-- ---- head, rows, back words, and the whole

pub length-head_bytes : (size mode n o : ℕ) → length (head_bytes size mode n o) ≡ 24
unfolding head_bytes
length-head_bytes size mode n o = simp (length-append, length_le32)

pub length-head_words : (mode : Mode) (es : List Entry) → length (head_words mode es) ≡ 24
unfolding head_words
length-head_words mode es = length-head_bytes (image_size mode es) (flag_word mode) (back_size_of mode es) (back_offset mode es)

pub length-table_row : (end : ℕ) (ps : List Placed) (t : ℕ) → length (table_row end ps t) ≡ 8
unfolding table_row
length-table_row end ps t = simp (length-append, length_le32)

pub length-table_rows : (end : ℕ) (ps : List Placed) → length (table_rows end ps) ≡ 2048
unfolding table_rows
length-table_rows end ps =
    length_cat (table_row end ps) 8 (length-table_row end ps) (range 0 256) ∙ ap (λ (n : ℕ). 8 * n) (length_range 0 256)

pub length-back_words : (ps : List Placed) (n : ℕ) → length (back_words ps n) ≡ 4 * n
unfolding back_words
length-back_words ps n =
    length_cat (λ (i : ℕ). le32 (back_word ps i)) 4 (λ i. length_le32 (back_word ps i)) (range 0 n) ∙ ap (λ (k : ℕ). 4 * k) (length_range 0 n)

pub length_image : (mode : Mode) (es : List Entry) → length (image mode es) ≡ image_size mode es
unfolding image
length_image mode es =
    let ps = placed head_size es in
    simp length-append
    (omega (
      arith,
      length-head_words mode es,
      length-table_rows (head_size + entries_size es) ps,
      length_entries es,
      length_tables ps,
      length_placed head_size es,
      length-back_words ps (back_size_of mode es),
    ))

-- the back size in an image is that of its mode
pub back_in_twice : (mode : Mode) (n : ℕ) → back_in mode (back_in mode n) ≡ back_in mode n
back_in_twice Twoway n = refl
back_in_twice Oneway n = refl

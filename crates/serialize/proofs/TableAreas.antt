-- The bytes where the tables will stand, while close partitions the entries: for each table the pairs of its entries in put order, and
-- behind them what stood there. Assumes nothing.
use Rattle.std.proofs.Common.{◌≡◌, ℕ, zero, suc, ◌+◌, ◌-◌, ◌*◌, ◌<◌, ◌≤◌, List, [], ◌∷◌, ◌++◌, map, length, get_or, take, drop, sym, refl, ap, ◌∙◌, ap₂}
use Rattle.std.proofs.Common.{append_assoc, append-nil, arith, length-append, length-drop, length-take-le, take_all, take-suc, drop-drop, take-add}
use mathlib.Core.List.{map-append}
use lib.ListN.{length-map}
use lib.Seq.{sets, sets-eq}
use Rattle.image.specs.Bytes.{cat, filter, range}
use Rattle.image.specs.Tables.{Bucket, empty}
use Rattle.image.specs.Image.{Placed, of_table, count, bucket_of, bucket_bytes, entries_before}
use Rattle.image.proofs.Lists.{cat_append, cat_ext, length_cat, range_at, run_more}
use Rattle.image.proofs.Sizes.{length-bucket_bytes, before_all}
use Rattle.image.proofs.Stores.{sets_right_at, sets_run}
use Rattle.image.proofs.Parts.{before_most}
use Rattle.image.proofs.At.{At, at_same, at_equal, at_after, at_part}
use Rattle.image.proofs.AllOfList.{All}
use Rattle.serialize.specs.Steps.Partition.{pairs_stored}
use Rattle.serialize.proofs.EntryAdded.{own_table, of_table_own, of_table_other, Words, bucket_read}

-- ---- runs of bytes of the sizes that the tables have

module _ (ps : List Placed) (f : ℕ → List ℕ) (sized : (t : ℕ) → t < 256 → length (f t) ≡ 16 * count t ps) where
  pub length_areas_to : (t : ℕ) → t ≤ 256 → length (cat f (range 0 t)) ≡ 16 * entries_before t ps
  unfolding cat range entries_before
  length_areas_to zero h = refl
  length_areas_to (suc t) h =
      let sum = length-append (cat f (range 0 t)) (f t) in
      omega (arith, ap length (run_more f t) ∙ sum, length_areas_to t (omega arith), sized t (omega arith))

  pub length_areas : length (cat f (range 0 256)) ≡ 16 * length ps
  length_areas = length_areas_to 256 (omega arith) ∙ ap (λ (n : ℕ). 16 * n) (before_all ps)

  pub area_at : {img : List ℕ} (o : ℕ) → At img o (cat f (range 0 256)) → (t : ℕ) → t < 256 → At img (o + 16 * entries_before t ps) (f t)
  area_at o a t h =
      at_same (ap (λ (n : ℕ). o + n) (length_areas_to t (omega arith)))
      (at_after f o (range 0 t) t (range (suc t) (256 - suc t)) (at_equal (ap (cat f) (range_at 256 t h)) a))

  pub area_set : (g : ℕ → List ℕ) (vs : List ℕ) (t i o : ℕ) → t < 256 → o ≡ 16 * entries_before t ps + i → i + length vs ≤ 16 * count t ps
      → sets (f t) i vs ≡ g t → ((k : ℕ) → (k ≡ t → ⊥) → f k ≡ g k) → sets (cat f (range 0 256)) o vs ≡ cat g (range 0 256)
  area_set g vs t i o h e l one others =
      sets_run f g vs 256 t i o h (omega (arith, length_areas_to t (omega arith))) (omega (arith, sized t h)) one others

-- ---- any bytes, table by table

unfoldable pub table_area : List Placed → List ℕ → ℕ → List ℕ
table_area ps X t = take (16 * count t ps) (drop (16 * entries_before t ps) X)

areas_to : (ps : List Placed) (X : List ℕ) (m : ℕ) → cat (table_area ps X) (range 0 m) ≡ take (16 * entries_before m ps) X
unfolding cat range table_area entries_before
areas_to ps X zero = refl
areas_to ps X (suc m) =
    let a = entries_before m ps in
    let e : 16 * a + 16 * count m ps ≡ 16 * (a + count m ps) = omega arith in
    run_more (table_area ps X) m
    ∙ ap (λ (l : List ℕ). l ++ table_area ps X m) (areas_to ps X m)
    ∙ sym (take-add (16 * a) (16 * count m ps) X)
    ∙ ap (λ (n : ℕ). take n X) e

pub areas_all : (ps : List Placed) (X : List ℕ) → length X ≡ 16 * length ps → cat (table_area ps X) (range 0 256) ≡ X
areas_all ps X h =
    areas_to ps X 256 ∙ ap (λ (n : ℕ). take (16 * n) X) (before_all ps) ∙ take_all (16 * length ps) X (omega arith)

-- ---- pairs in them

cat_one : (b : Bucket) → cat bucket_bytes (b ∷ []) ≡ bucket_bytes b
unfolding cat
cat_one b = append-nil (bucket_bytes b)

-- the pairs of table t's entries, in put order
unfoldable pub pairs_of : List Placed → ℕ → List ℕ
pairs_of rs t = cat bucket_bytes (map bucket_of (of_table t rs))

-- the area of table t after the entries rs
unfoldable pub area_with : List Placed → List ℕ → List Placed → ℕ → List ℕ
area_with ps X rs t = pairs_of rs t ++ drop (8 * count t rs) (table_area ps X t)

pub length_pairs_of : (rs : List Placed) (t : ℕ) → length (pairs_of rs t) ≡ 8 * count t rs
unfolding pairs_of
length_pairs_of rs t =
    length_cat bucket_bytes 8 length-bucket_bytes (map bucket_of (of_table t rs)) ∙ ap (λ (n : ℕ). 8 * n) (length-map (of_table t rs) bucket_of)

pub areas_none : (ps : List Placed) (X : List ℕ) → length X ≡ 16 * length ps → cat (area_with ps X []) (range 0 256) ≡ X
unfolding area_with pairs_of of_table filter cat
areas_none ps X h = cat_ext (area_with ps X []) (table_area ps X) (λ t. refl) (range 0 256) ∙ areas_all ps X h

module _ (ps : List Placed) (X : List ℕ) (long : length X ≡ 16 * length ps) (rs : List Placed) where
  length_area : (t : ℕ) → t < 256 → length (table_area ps X t) ≡ 16 * count t ps
  unfolding table_area
  length_area t h =
      length-take-le (16 * count t ps) (drop (16 * entries_before t ps) X)
      (omega (arith, before_most ps t h, length-drop (16 * entries_before t ps) X))

  pub length_area_with : (t : ℕ) → t < 256 → count t rs ≤ count t ps → length (area_with ps X rs t) ≡ 16 * count t ps
  unfolding area_with
  length_area_with t h k =
      let D = drop (8 * count t rs) (table_area ps X t) in
      omega (arith, length-append (pairs_of rs t) D, length_pairs_of rs t, length-drop (8 * count t rs) (table_area ps X t), length_area t h)

  module _ (p : Placed) where
    pub count_own : count (own_table p) (rs ++ p ∷ []) ≡ count (own_table p) rs + 1
    count_own = ap length (of_table_own rs p) ∙ length-append (of_table (own_table p) rs) (p ∷ [])

    pub count_other : (t : ℕ) → (t ≡ own_table p → ⊥) → count t (rs ++ p ∷ []) ≡ count t rs
    count_other t h = ap length (of_table_other rs p t h)

    other : (t : ℕ) → (t ≡ own_table p → ⊥) → area_with ps X rs t ≡ area_with ps X (rs ++ p ∷ []) t
    unfolding area_with pairs_of
    other t h =
        sym (ap (λ (l : List Placed). cat bucket_bytes (map bucket_of l) ++ drop (8 * length l) (table_area ps X t)) (of_table_other rs p t h))

    own : count (own_table p) rs < count (own_table p) ps → own_table p < 256
        → sets (area_with ps X rs (own_table p)) (8 * count (own_table p) rs) (bucket_bytes (bucket_of p)) ≡ area_with ps X (rs ++ p ∷ []) (own_table p)
    unfolding area_with pairs_of
    own some below =
        let t = own_table p in
        let c = count t rs in
        let A = cat bucket_bytes (map bucket_of (of_table t rs)) in
        let D = drop (8 * c) (table_area ps X t) in
        let b = bucket_bytes (bucket_of p) in
        let n : length b ≡ 8 = length-bucket_bytes (bucket_of p) in
        let place : 8 * c ≡ length A + 0 = omega (arith, length_pairs_of rs t) in
        let later : 8 * c + (0 + length b) ≡ 8 * (c + 1) = omega arith in
        let pairs : cat bucket_bytes (map bucket_of (of_table t (rs ++ p ∷ []))) ≡ A ++ b =
        ap (λ (l : List Placed). cat bucket_bytes (map bucket_of l)) (of_table_own rs p)
        ∙ ap (cat bucket_bytes) (map-append bucket_of (of_table t rs) (p ∷ []))
        ∙ cat_append bucket_bytes (map bucket_of (of_table t rs)) (bucket_of p ∷ [])
        ∙ ap (λ (l : List ℕ). A ++ l) (cat_one (bucket_of p)) in
        sets_right_at b A D 0 (8 * c) place
        ∙ ap (λ (l : List ℕ). A ++ l) (sets-eq b D 0 (omega (arith, length-drop (8 * c) (table_area ps X t), length_area t below)))
        ∙ ap (λ (l : List ℕ). A ++ (b ++ l)) (drop-drop (0 + length b) (8 * c) (table_area ps X t) ∙ ap (λ (k : ℕ). drop k (table_area ps X t)) later)
        ∙ sym (append_assoc A b (drop (8 * (c + 1)) (table_area ps X t)))
        ∙ ap₂ (λ (l : List ℕ) (k : ℕ). l ++ drop (8 * k) (table_area ps X t)) (sym pairs) (sym count_own)

    pub areas_more : ((t : ℕ) → t < 256 → count t rs ≤ count t ps) → count (own_table p) rs < count (own_table p) ps → own_table p < 256
        → sets (cat (area_with ps X rs) (range 0 256)) (16 * entries_before (own_table p) ps + 8 * count (own_table p) rs) (bucket_bytes (bucket_of p))
        ≡ cat (area_with ps X (rs ++ p ∷ [])) (range 0 256)
    areas_more few some below =
        area_set ps (area_with ps X rs) (λ t h. length_area_with t h (few t h)) (area_with ps X (rs ++ p ∷ [])) (bucket_bytes (bucket_of p)) (own_table p)
        (8 * count (own_table p) rs) (16 * entries_before (own_table p) ps + 8 * count (own_table p) rs) below refl
        (omega (arith, length-bucket_bytes (bucket_of p))) (own some below) other

-- ---- pairs as they are read

each_one : (P : Bucket → Type 0) → P empty → (bs : List Bucket) → All P bs → (k : ℕ) → P (get_or bs k empty)
each_one P none [] all k = none
each_one P none (b ∷ bs) all zero = all.0
each_one P none (b ∷ bs) all (suc k) = each_one P none bs all.1 k

module _ {img : List ℕ} (o : ℕ) (bs : List Bucket) (there : At img o (cat bucket_bytes bs)) (words : All Words bs) where
  read : (c : ℕ) → c ≤ length bs → pairs_stored img o c ≡ take c bs
  unfolding pairs_stored bucket_bytes
  read zero h = refl
  read (suc c) h =
      let b = get_or bs c empty in
      let at = at_part bucket_bytes 8 length-bucket_bytes o bs c empty there (omega arith) in
      let is = bucket_read o c b at (each_one Words (omega arith, omega arith) bs words c) in
      ap₂ (λ (l : List Bucket) (x : Bucket). l ++ (x ∷ [])) (read c (omega arith)) is
      ∙ sym (take-suc bs c empty (omega arith))

  pub pairs_read : (c : ℕ) → c ≡ length bs → pairs_stored img o c ≡ bs
  pairs_read c e = read c (omega arith) ∙ take_all c bs (omega arith)

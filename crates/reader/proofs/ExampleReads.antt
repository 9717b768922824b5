-- The examples C8, C9, C10 and C12 hold of the rules of reading. Assumes nothing.
use Rattle.std.proofs.Common.{◌≡◌, ℕ, zero, suc, ◌+◌, ◌*◌, ◌/◌, ◌%◌, ◌^◌, ◌<◌, ◌≤◌, Bool, true, false, ◌&&◌, ◌||◌, ltb, List, [], ◌∷◌, ◌++◌, length, take}
use Rattle.std.proofs.Common.{drop, sym, refl, ap, ◌∙◌, arith, lit<, lit≤, take_all, drop-drop, le-ltb, lt-ltb, ne_eqb}
use native.Mathlib.Nat.{mod-one}
use borrow.Author.Tests.{lt-leb, eqb-false}
use Rattle.jhash.specs.Outcome.{value, refusal}
use Rattle.jhash.specs.NameHash.{hash_of}
use Rattle.jhash.proofs.Vectors.{hash_empty, hash_A}
use Rattle.image.specs.Bytes.{word, le32, same}
use Rattle.image.specs.Tables.{table_of, next}
use Rattle.image.specs.Image.{head_bytes}
use Rattle.image.specs.Head.{table_at, bucket_number}
use Rattle.image.proofs.Words.{word_drop}
use Rattle.reader.specs.Open.{some_past_end, num_from, opening}
use Rattle.reader.specs.Lookup.{found, nothing, Probe, pass, hit, probe_entry, probe_bucket, decide, lookup}
use Rattle.reader.specs.Examples.Reads.{row_of, head_of, c9, c10, taken_image, OneTaken, own_image, ReadsHold}
use Rattle.reader.proofs.Opens.{opening_by}
use Rattle.reader.specs.Steps.Resume.{search_rest}
use Rattle.reader.proofs.Searches.{probe_bucket_by, rest_start, rest_over, rest_step, lookup_hash_by, lookup_by_lem}

-- ---- the rows of a head one after the other, so that they are computed in one pass

unfoldable row_halves : ℕ → List ℕ → ℕ
row_halves zero l = 0
row_halves (suc m) l = word l 4 / 2 + row_halves m (drop 8 l)

unfoldable row_past_end : ℕ → ℕ → List ℕ → Bool
row_past_end size zero l = false
row_past_end size (suc m) l = (ltb 0 (word l 0) && ltb size (word l 0 + 8 * word l 4)) || row_past_end size m (drop 8 l)

-- what is left of an image from table t's row on
abbrev from_row : List ℕ → ℕ → List ℕ
from_row image t = drop (24 + 8 * t) image

module _ (image : List ℕ) (t : ℕ) where
  at_row : word image (24 + 8 * t) ≡ word (from_row image t) 0
  at_row = let e : 24 + 8 * t ≡ 24 + 8 * t + 0 = omega arith in ap (word image) e ∙ sym (word_drop image (24 + 8 * t) 0)

  number_row : word image (28 + 8 * t) ≡ word (from_row image t) 4
  number_row = let e : 28 + 8 * t ≡ 24 + 8 * t + 4 = omega arith in ap (word image) e ∙ sym (word_drop image (24 + 8 * t) 4)

  next_row : from_row image (suc t) ≡ drop 8 (from_row image t)
  next_row = let e : 24 + 8 * suc t ≡ 24 + 8 * t + 8 = omega arith in ap (λ (k : ℕ). drop k image) e ∙ sym (drop-drop 8 (24 + 8 * t) image)

num_from_rows : (image : List ℕ) (m t : ℕ) → num_from image t m ≡ row_halves m (from_row image t)
unfolding num_from row_halves
num_from_rows image zero t = refl
num_from_rows image (suc m) t =
    (λ i. number_row image t i / 2 + num_from_rows image m (suc t) i)
    ∙ ap (λ (l : List ℕ). word (from_row image t) 4 / 2 + row_halves m l) (next_row image t)

past_end_rows : (image : List ℕ) (m t : ℕ) → some_past_end image t m ≡ row_past_end (length image) m (from_row image t)
unfolding some_past_end row_past_end
past_end_rows image zero t = refl
past_end_rows image (suc m) t =
    (λ i. (ltb 0 (at_row image t i) && ltb (length image) (at_row image t i + 8 * number_row image t i)) || past_end_rows image m (suc t) i)
    ∙ ap (λ (l : List ℕ). past_end (word (from_row image t) 0) (word (from_row image t) 4) || row_past_end (length image) m l) (next_row image t)
  where
    past_end : ℕ → ℕ → Bool
    past_end o n = ltb 0 o && ltb (length image) (o + 8 * n)

-- opening a head
opens : (rows : List ℕ) (n : ℕ) → ltb (length (head_of rows)) 2072 ≡ false → row_past_end (length (head_of rows)) 256 (drop 24 (head_of rows)) ≡ false
    → row_halves 256 (drop 24 (head_of rows)) % 2 ^ 32 ≡ n → opening (head_of rows) ≡ value n
unfolding head_of head_bytes le32 word
opens rows n e f g =
    sym (opening_by (head_of rows) false true true false false e refl refl (past_end_rows (head_of rows) 256 0 ∙ f) refl)
    ∙ ap value (ap (λ (k : ℕ). k % 2 ^ 32) (num_from_rows (head_of rows) 256 0) ∙ g)

-- an image as long as the bytes that it begins with is these bytes
begun : (image l : List ℕ) (n : ℕ) → length l ≡ n → length image ≡ n → take (length l) image ≡ l → image ≡ l
begun image l n e f g = sym (take_all (length l) image (omega arith)) ∙ g

-- ---- a table with one bucket

-- what is seen in the bucket decides
one_read : (image name : List ℕ) (o : ℕ) (seen : Probe) → 2072 ≤ length image → length name < 4294967295 → o ≡ table_at image (table_of (hash_of name))
    → 0 < o → 1 ≡ bucket_number image (table_of (hash_of name)) → o + 8 ≤ length image → seen ≡ probe_bucket image name (hash_of name) o
    → lookup image name ≡ decide seen 1 (nothing 1)
one_read image name o seen head short offset above one inside sees =
    sym (lookup_by_lem image name false false (le-ltb (length image) 2072 head) (lt-leb 4294967295 (length name) short))
    ∙ sym
    (lookup_hash_by image name h o 1 false false false offset one (ne_eqb o 0 (λ z. omega arith)) refl (le-ltb (length image) (o + 8 * 1) (omega arith)))
    ∙ sym (rest_start image name h o 1)
    ∙ ap (λ (k : ℕ). search_rest image name h o 1 k 1) (mod-one (h / 256))
    ∙ sym (rest_step image name h o 1 0 1 seen (omega arith) (omega arith) (sees ∙ ap (probe_bucket image name h) bucket))
    ∙ ap (decide seen 1) (sym (rest_over image name h o 1 (next 1 0) 0 (omega arith)))
  where
    h : ℕ
    h = hash_of name

    bucket : o ≡ o + 8 * 0
    bucket = omega arith

one_passed : (image name : List ℕ) → OneTaken image name → lookup image name ≡ nothing 1
one_passed image name r =
    one_read image name o pass r.head r.short r.offset r.above r.one r.inside
    (probe_bucket_by image name w h o false false refl (ne_eqb w 0 (λ z. apart w r.entry z)) (ne_eqb (word image o) h r.other))
  where
    h : ℕ
    h = hash_of name

    o : ℕ
    o = r.at

    w : ℕ
    w = word image (o + 4)

    apart : (x : ℕ) → 0 < x → x ≡ 0 → ⊥
    apart x l e = omega arith

taken_passed : OneTaken taken_image []
unfolding taken_image head_of row_of head_bytes le32 word
taken_passed = record {
  at = 2072;
  head = lit≤ tt;
  short = lit< tt;
  offset = ap (λ (h : ℕ). table_at taken_image (table_of h)) (sym hash_empty);
  above = lit< tt;
  one = ap (λ (h : ℕ). bucket_number taken_image (table_of h)) (sym hash_empty);
  inside = lit≤ tt;
  entry = lit< tt;
  other = λ e. eqb-false (word taken_image 2072) 0x8ba9414b refl (e ∙ hash_empty);
}

own_hit : lookup own_image (65 ∷ []) ≡ found (record { id = 5; buckets = 1; offset = 2072 })
unfolding own_image head_of row_of head_bytes le32 word probe_bucket probe_entry same
own_hit =
    one_read own_image (65 ∷ []) 2082 (hit (record { id = 5; offset = 2072 })) (lit≤ tt) (lit< tt)
    (ap (λ (h : ℕ). table_at own_image (table_of h)) (sym hash_A))
    (lit< tt)
    (ap (λ (h : ℕ). bucket_number own_image (table_of h)) (sym hash_A)) (lit≤ tt) (ap (λ (h : ℕ). probe_bucket own_image (65 ∷ []) h 2082) (sym hash_A))

-- ---- all rows

module _ (image : List ℕ) where
  c8_right : length image ≡ 2071 → opening image ≡ refusal 1
  unfolding opening
  c8_right e = simp (lt-ltb (length image) 2072 (omega arith))

  c9_right : length image ≡ 2072 → take (length c9.begins) image ≡ c9.begins → opening image ≡ value 3
  unfolding head_of row_of head_bytes le32 word row_halves row_past_end
  c9_right e f = ap opening (begun image c9.begins 2072 refl e f) ∙ opens (row_of 0 7) 3 refl refl refl

  c10_right : length image ≡ 2072 → take (length c10.begins) image ≡ c10.begins → opening image ≡ value 2147483645
  unfolding head_of row_of head_bytes le32 word row_halves row_past_end
  c10_right e f =
      ap opening (begun image c10.begins 2072 refl e f)
      ∙ opens (row_of 0 4294967295 ++ row_of 0 4294967295 ++ row_of 0 4294967295) 2147483645 refl refl refl

pub reads_hold : ReadsHold
reads_hold = record {
  opened = (λ image e f. c8_right image e, (c9_right, (c10_right, tt)));
  looked_up = (one_passed taken_image [] taken_passed, (own_hit, tt));
  one_taken = one_passed;
}

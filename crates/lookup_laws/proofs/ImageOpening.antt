-- An image of entries is opened, and num is their number. Assumes nothing.
use mathlib.Core.Path.{◌≡◌, refl, ap, ◌∙◌}
use mathlib.Core.Bool.{Bool, true, false, cond, ◌&&◌, ◌||◌, and-false}
use mathlib.Core.List.{List, [], ◌∷◌, ◌++◌}
use Prim.Native.Nat.{ℕ, zero, suc, ◌+◌, ◌*◌, ◌/◌, ◌^◌, ◌≤◌, ◌<◌}
use native.Mathlib.Nat.{mod-eq_of_lt}
use native.Mathlib.Omega.{arith}
use borrow.Author.Tests.{le-ltb, eq-eqb}
use lib.Dec.{eqb, ltb}
use lib.ListN.{length, length-append}
use Rattle.jhash.specs.Outcome.{value}
use Rattle.image.specs.Bytes.{word, le32}
use Rattle.image.specs.Image.{Entry, head_size, count, entries_before, table_offset, flag_word, back_size_of, entries_end, image_size, back_offset}
use Rattle.image.specs.Image.{head_words, image}
use Rattle.image.specs.declared.Mode.{Mode}
use Rattle.image.proofs.Words.{length_le32}
use Rattle.image.proofs.Sizes.{length_placed, before_suc, before_all, length_image}
use Rattle.image.specs.Head.{table_at, bucket_number, back_size_at, back_offset_at, table_past_end, back_past_end}
use Rattle.reader.specs.Open.{some_past_end, num_from, has_letters, opening}
use Rattle.image.proofs.At.{At, at_same, at_left, at_right, at_word}
use Rattle.image.proofs.Parts.{placed_in, head_at, most, table_at_image, bucket_number_image}

-- ---- the words of the head

abbrev letters : List ℕ
letters = 67 ∷ 81 ∷ 68 ∷ 66 ∷ []

abbrev magic : ℕ
magic = 0x62445371

module _ (mode : Mode) (es : List Entry) where
  -- the head to the word at 12, to 16, to 20
  to_12 : List ℕ
  to_12 = letters ++ le32 (image_size mode es) ++ le32 (flag_word mode)

  to_16 : List ℕ
  to_16 = letters ++ le32 (image_size mode es) ++ le32 (flag_word mode) ++ le32 magic

  to_20 : List ℕ
  to_20 = letters ++ le32 (image_size mode es) ++ le32 (flag_word mode) ++ le32 magic ++ le32 (back_size_of mode es)

  six : At (image mode es) 0 (to_20 ++ le32 (back_offset mode es))
  unfolding head_words to_20
  six = head_at mode es

  five : At (image mode es) 0 (to_16 ++ le32 (back_size_of mode es))
  unfolding to_20 to_16
  five = at_left to_20 (le32 (back_offset mode es)) six

  four : At (image mode es) 0 (to_12 ++ le32 magic)
  unfolding to_16 to_12
  four = at_left to_16 (le32 (back_size_of mode es)) five

  three : At (image mode es) 0 (letters ++ le32 (image_size mode es) ++ le32 (flag_word mode))
  unfolding to_12
  three = at_left to_12 (le32 magic) four

  two : At (image mode es) 0 (letters ++ le32 (image_size mode es))
  two = at_left (letters ++ le32 (image_size mode es)) (le32 (flag_word mode)) three

  letters_at : At (image mode es) 0 letters
  letters_at = at_left letters (le32 (image_size mode es)) two

  pub letters_image : has_letters (image mode es) ≡ true
  letters_image = ap has_letters letters_at.stands

  pub magic_image : word (image mode es) 12 ≡ magic
  unfolding to_12
  magic_image = at_word magic (at_same twelve (at_right to_12 (le32 magic) four)) (omega arith)
    where
      twelve : 0 + length to_12 ≡ 12
      twelve = simp (length-append, length_le32)

  module _ (fits : image_size mode es ≤ 4294967295) where
    pub size_image : word (image mode es) 4 ≡ image_size mode es
    size_image = at_word (image_size mode es) (at_right letters (le32 (image_size mode es)) two) (omega arith)

    pub back_size_at_image : back_size_at (image mode es) ≡ back_size_of mode es
    unfolding to_16
    back_size_at_image = at_word (back_size_of mode es) (at_same sixteen (at_right to_16 (le32 (back_size_of mode es)) five)) (omega arith)
      where
        sixteen : 0 + length to_16 ≡ 16
        sixteen = simp (length-append, length_le32)

    pub back_offset_at_image : back_offset_at (image mode es) ≡ back_offset mode es
    unfolding to_20 back_offset
    back_offset_at_image = at_word (back_offset mode es) (at_same twenty (at_right to_20 (le32 (back_offset mode es)) six))
        (below (eqb (back_size_of mode es) 0))
      where
        twenty : 0 + length to_20 ≡ 20
        twenty = simp (length-append, length_le32)

        below : (b : Bool) → cond b 0 (entries_end es + 16 * length es) < 2 ^ 32
        below true = omega arith
        below false = omega arith

    -- ---- nothing reaches past the end of the image

    pub long_enough : ltb (length (image mode es)) head_size ≡ false
    long_enough = le-ltb (length (image mode es)) head_size (omega (arith, length_image mode es))

    pub table_inside : (t : ℕ) → t < 256 → table_past_end (image mode es) t ≡ false
    unfolding table_offset
    table_inside t h =
        le-ltb (length (image mode es)) (table_at (image mode es) t + 8 * bucket_number (image mode es) t)
        (rw (table_at_image mode es fits t h, bucket_number_image mode es fits t h, length_image mode es)
        (some_table_inside (eqb (count t (placed_in es)) 0)))
      where
        some_table_inside : (b : Bool) → cond b 0 (entries_end es + 16 * entries_before t (placed_in es)) + 8 * (2 * count t (placed_in es))
            ≤ image_size mode es
        some_table_inside true = omega (arith, most mode es fits t h)
        some_table_inside false = omega (arith, most mode es fits t h)

    pub back_inside : back_past_end (image mode es) ≡ false
    unfolding back_offset
    back_inside =
        le-ltb (length (image mode es)) (back_offset_at (image mode es) + 4 * back_size_at (image mode es))
        (rw (back_offset_at_image, back_size_at_image, length_image mode es) (back_array_inside (eqb (back_size_of mode es) 0)))
      where
        back_array_inside : (b : Bool) → cond b 0 (entries_end es + 16 * length es) + 4 * back_size_of mode es ≤ image_size mode es
        back_array_inside true = omega arith
        back_array_inside false = omega arith

    tables_inside : (m t : ℕ) → t + m ≤ 256 → some_past_end (image mode es) t m ≡ false
    unfolding some_past_end
    tables_inside zero t h = refl
    tables_inside (suc m) t h =
        ap (λ (b : Bool). (ltb 0 (table_at (image mode es) t) && b) || some_past_end (image mode es) (suc t) m) (table_inside t (omega arith))
        ∙ ap (λ (b : Bool). b || some_past_end (image mode es) (suc t) m) (and-false (ltb 0 (table_at (image mode es) t)))
        ∙ tables_inside m (suc t) (omega arith)

    -- ---- the number of entries

    num_from_image : (m t : ℕ) → t + m ≤ 256 → entries_before t (placed_in es) + num_from (image mode es) t m ≡ entries_before (t + m) (placed_in es)
    unfolding num_from
    num_from_image zero t h =
        let e : t ≡ t + 0 = omega arith in
        rw (← e) (omega arith)
    num_from_image (suc m) t h =
        let e : suc t + m ≡ t + suc m = omega arith in
        let s = before_suc t (placed_in es) in
        let b = bucket_number_image mode es fits t (omega arith) in
        let i = num_from_image m (suc t) (omega arith) in
        rw (← e)
        (sum (bucket_number (image mode es) t) (count t (placed_in es)) (entries_before t (placed_in es)) (entries_before (suc t) (placed_in es))
        (num_from (image mode es) (suc t) m) (entries_before (suc t + m) (placed_in es)) b s i)
      where
        sum : (b c p q r a : ℕ) → b ≡ 2 * c → q ≡ p + c → q + r ≡ a → p + (b / 2 + r) ≡ a
        sum b c p q r a e f g = omega arith

    none_before : entries_before 0 (placed_in es) ≡ 0
    unfolding entries_before
    none_before = refl

    num_from_all : num_from (image mode es) 0 256 ≡ length es
    num_from_all =
        let i : entries_before 0 (placed_in es) + num_from (image mode es) 0 256 ≡ entries_before 256 (placed_in es) = num_from_image 256 0 (omega arith) in
        omega (arith, none_before, before_all (placed_in es), length_placed head_size es)

    pub opening_image : opening (image mode es) ≡ value (length es)
    unfolding opening
    opening_image =
        rw (
          long_enough,
          letters_image,
          eq-eqb (word (image mode es) 12) magic magic_image,
          tables_inside 256 0 (omega arith),
          back_inside,
          and-false (ltb 0 (back_offset_at (image mode es))),
          num_from_all,
        )
        (ap value (mod-eq_of_lt (omega arith)))

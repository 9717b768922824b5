-- Bytes that stand at an offset of an image, and the words that are read there. Assumes nothing.
use Rattle.std.proofs.Common.{◌≡◌, ℕ, zero, suc, ◌+◌, ◌*◌, ◌^◌, ◌<◌, ◌≤◌, List, [], ◌∷◌, ◌++◌, length, get_or, take, drop, sym, ap, ◌∙◌, append_assoc}
use Rattle.std.proofs.Common.{append-nil, add-zero, arith, length-append, length-drop, drop-drop}
use lib.Seq.{take-append_seam, drop-append_seam}
use Rattle.image.specs.Bytes.{word, le32, cat}
use Rattle.image.proofs.Words.{word_drop, word_le32, length_le32}
use Rattle.image.proofs.Lists.{cat_append, cat_cons}

-- the bytes bs stand in img from offset o on
pub record At (img : List ℕ) (o : ℕ) (bs : List ℕ) : Type 0 where
  pub post : List ℕ
  pub stands : drop o img ≡ bs ++ post

pub at_whole : (img : List ℕ) → At img 0 img
at_whole img = record { post = []; stands = sym (append-nil img) }

-- at an offset, or of bytes, that are written otherwise
pub at_same : {img : List ℕ} {o p : ℕ} {bs : List ℕ} → o ≡ p → At img o bs → At img p bs
at_same {img} {o} {p} {bs} e a = rw e at a

pub at_equal : {img : List ℕ} {o : ℕ} {bs cs : List ℕ} → bs ≡ cs → At img o bs → At img o cs
at_equal {img} {o} {bs} {cs} e a = rw e at a

module _ {img : List ℕ} {o : ℕ} where
  -- the first part, and what follows it
  pub at_left : (xs ys : List ℕ) → At img o (xs ++ ys) → At img o xs
  at_left xs ys a = record { post = ys ++ a.post; stands = a.stands ∙ append_assoc xs ys a.post }

  pub at_right : (xs ys : List ℕ) → At img o (xs ++ ys) → At img (o + length xs) ys
  at_right xs ys a = record {
    post = a.post;
    stands =
        sym (drop-drop (length xs) o img)
        ∙ ap (drop (length xs)) (a.stands ∙ append_assoc xs ys a.post)
        ∙ drop-append_seam xs (ys ++ a.post);
  }

  -- they are in the image, and are read back
  pub at_fits : {bs : List ℕ} → At img o bs → 0 < length bs → o + length bs ≤ length img
  at_fits {bs} a h = omega (arith, length-drop o img, length-append bs a.post, ap length a.stands)

  pub at_take : {bs : List ℕ} → At img o bs → take (length bs) (drop o img) ≡ bs
  at_take {bs} a = rw a.stands (take-append_seam bs a.post)

  pub at_word : (w : ℕ) → At img o (le32 w) → w < 2 ^ 32 → word img o ≡ w
  at_word w a h =
      ap (word img) (sym (add-zero o))
      ∙ sym (word_drop img o 0)
      ∙ ap (λ (l : List ℕ). word l 0) a.stands
      ∙ word_le32 w a.post h

  -- two words in a row
  pub at_second : (v w : ℕ) → At img o (le32 v ++ le32 w) → At img (o + 4) (le32 w)
  at_second v w a = at_same (ap (λ (n : ℕ). o + n) (length_le32 v)) (at_right (le32 v) (le32 w) a)

-- a part of many
module _ {A : Type 0} (f : A → List ℕ) {img : List ℕ} where
  pub at_after : (o : ℕ) (xs : List A) (y : A) (ys : List A) → At img o (cat f (xs ++ y ∷ ys)) → At img (o + length (cat f xs)) (f y)
  at_after o xs y ys a =
      at_left (f y) (cat f ys)
      (at_right (cat f xs) (f y ++ cat f ys) (at_equal (cat_append f xs (y ∷ ys) ∙ ap (λ (l : List ℕ). cat f xs ++ l) (cat_cons f y ys)) a))

  -- parts of one size
  pub at_part : (size : ℕ) → ((x : A) → length (f x) ≡ size) → (o : ℕ) (xs : List A) (i : ℕ) (d : A) → At img o (cat f xs) → i < length xs
      → At img (o + size * i) (f (get_or xs i d))
  unfolding cat
  at_part size sized o [] i d a h = absurd (omega arith)
  at_part size sized o (x ∷ xs) zero d a h =
      let e : o ≡ o + size * 0 = omega arith in
      at_same e (at_left (f x) (cat f xs) a)
  at_part size sized o (x ∷ xs) (suc i) d a h =
      at_same (next (length (f x)) (sized x))
      (at_part size sized (o + length (f x)) xs i d (at_right (f x) (cat f xs) a) (omega arith))
    where
      next : (l : ℕ) → l ≡ size → o + l + size * i ≡ o + size * suc i
      next l e = omega arith

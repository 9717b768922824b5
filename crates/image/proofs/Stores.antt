-- Runs of stores: one after the other, and within one part of a list. Assumes nothing.
use Rattle.std.proofs.Common.{◌≡◌, ℕ, zero, suc, ◌+◌, ◌-◌, ◌*◌, ◌<◌, ◌≤◌, List, [], ◌∷◌, ◌++◌, length, get_or, drop, set, sym, refl, ap, ◌∙◌, add-zero}
use Rattle.std.proofs.Common.{add-suc, suc-add, arith, length-set, drop-cons}
use lib.Seq.{sets, set-append_left}
use Rattle.image.specs.Bytes.{cat, range}
use Rattle.image.proofs.Lists.{cat_append, cat_run, range_at}

-- the loop that stores src from `at` on, before its byte j
pub record StoreInv (buf₀ : List ℕ) (at : ℕ) (src buf : List ℕ) (j : ℕ) : Type 0 where
  pub inside : j ≤ length src
  pub same_length : length buf ≡ length buf₀
  pub rest : sets buf (at + j) (drop j src) ≡ sets buf₀ at src

module _ {A : Type 0} where
  pub sets_append : (xs ys l : List A) (i : ℕ) → sets (sets l i xs) (i + length xs) ys ≡ sets l i (xs ++ ys)
  sets_append [] ys l i = ap (λ (k : ℕ). sets l k ys) (add-zero i)
  sets_append (x ∷ xs) ys l i =
      let e : i + suc (length xs) ≡ suc i + length xs = add-suc i (length xs) ∙ sym (suc-add i (length xs)) in
      ap (λ (k : ℕ). sets (sets (set l i x) (suc i) xs) k ys) e ∙ sets_append xs ys (set l i x) (suc i)

  -- the same, where the second begins is said by a number
  pub sets_then : (xs ys l : List A) (i j : ℕ) → j ≡ i + length xs → sets (sets l i xs) j ys ≡ sets l i (xs ++ ys)
  sets_then xs ys l i j e = ap (λ (k : ℕ). sets (sets l i xs) k ys) e ∙ sets_append xs ys l i

  -- one element of a copy
  pub sets_step : (src l : List A) (i j : ℕ) (d : A) → j < length src
      → sets (set l (i + j) (get_or src j d)) (i + (j + 1)) (drop (j + 1) src) ≡ sets l (i + j) (drop j src)
  sets_step src l i j d h =
      let e : i + (j + 1) ≡ suc (i + j) = omega arith in
      let f : j + 1 ≡ suc j = omega arith in
      ap (λ (k : ℕ). sets (set l (i + j) (get_or src j d)) k (drop (j + 1) src)) e
      ∙ ap (λ (k : ℕ). sets (set l (i + j) (get_or src j d)) (suc (i + j)) (drop k src)) f
      ∙ sym (ap (λ (r : List A). sets l (i + j) r) (drop-cons src j d h))

  set_append_right : (xs ys : List A) (i : ℕ) (a : A) → set (xs ++ ys) (length xs + i) a ≡ xs ++ set ys i a
  set_append_right [] ys i a = let e : 0 + i ≡ i = omega arith in ap (λ (k : ℕ). set ys k a) e
  set_append_right (x ∷ xs) ys i a =
      ap (λ (k : ℕ). set (x ∷ (xs ++ ys)) k a) (suc-add (length xs) i) ∙ ap (λ (r : List A). x ∷ r) (set_append_right xs ys i a)

  -- stores behind a first part
  pub sets_right : (vs xs ys : List A) (i : ℕ) → sets (xs ++ ys) (length xs + i) vs ≡ xs ++ sets ys i vs
  sets_right [] xs ys i = refl
  sets_right (v ∷ vs) xs ys i =
      ap (λ (r : List A). sets r (suc (length xs + i)) vs) (set_append_right xs ys i v)
      ∙ ap (λ (k : ℕ). sets (xs ++ set ys i v) k vs) (sym (add-suc (length xs) i))
      ∙ sets_right vs xs (set ys i v) (suc i)

  pub sets_right_at : (vs xs ys : List A) (i j : ℕ) → j ≡ length xs + i → sets (xs ++ ys) j vs ≡ xs ++ sets ys i vs
  sets_right_at vs xs ys i j e = ap (λ (k : ℕ). sets (xs ++ ys) k vs) e ∙ sets_right vs xs ys i

  -- stores within a first part
  pub sets_left : (vs xs ys : List A) (i : ℕ) → i + length vs ≤ length xs → sets (xs ++ ys) i vs ≡ sets xs i vs ++ ys
  sets_left [] xs ys i h = refl
  sets_left (v ∷ vs) xs ys i h =
      let k : i < length xs = omega arith in
      ap (λ (r : List A). sets r (suc i) vs) (set-append_left xs ys i v k)
      ∙ sets_left vs (set xs i v) ys (suc i) (omega (arith, length-set xs i v))

  -- stores of a whole part
  pub sets_whole : (vs xs ys : List A) → length vs ≡ length xs → sets (xs ++ ys) 0 vs ≡ vs ++ ys
  sets_whole [] [] ys h = refl
  sets_whole [] (x ∷ xs) ys h = absurd (omega arith)
  sets_whole (v ∷ vs) [] ys h = absurd (omega arith)
  sets_whole (v ∷ vs) (x ∷ xs) ys h =
      let k : length vs ≡ length xs = omega arith in
      sets_right_at vs (v ∷ []) (xs ++ ys) 0 1 refl ∙ ap (λ (r : List A). v ∷ r) (sets_whole vs xs ys k)

-- ---- stores within one part of many

module _ {A : Type 0} (f : A → List ℕ) where
  pub sets_cat : (vs : List ℕ) (xs ys : List A) (y : A) (i o : ℕ) → o ≡ length (cat f xs) + i → i + length vs ≤ length (f y)
      → sets (cat f (xs ++ y ∷ ys)) o vs ≡ cat f xs ++ (sets (f y) i vs ++ cat f ys)
  unfolding cat
  sets_cat vs xs ys y i o e h =
      ap (λ (l : List ℕ). sets l o vs) (cat_append f xs (y ∷ ys))
      ∙ sets_right_at vs (cat f xs) (f y ++ cat f ys) i o e
      ∙ ap (λ (l : List ℕ). cat f xs ++ l) (sets_left vs (f y) (cat f ys) i h)

  -- a whole part, where all have one size
  pub sets_part : (k : ℕ) → ((x : A) → length (f x) ≡ k) → (xs : List A) (i : ℕ) (y : A) → i < length xs
      → sets (cat f xs) (k * i) (f y) ≡ cat f (set xs i y)
  unfolding cat
  sets_part k sized [] i y h = absurd (omega arith)
  sets_part k sized (x ∷ xs) zero y h =
      let z : k * 0 ≡ 0 = omega arith in
      ap (λ (o : ℕ). sets (f x ++ cat f xs) o (f y)) z ∙ sets_whole (f y) (f x) (cat f xs) (sized y ∙ sym (sized x))
  sets_part k sized (x ∷ xs) (suc i) y h =
      let e : k * suc i ≡ k + k * i = omega arith in
      sets_right_at (f y) (f x) (cat f xs) (k * i) (k * suc i) (e ∙ ap (λ (n : ℕ). n + k * i) (sym (sized x)))
      ∙ ap (λ (l : List ℕ). f x ++ l) (sets_part k sized xs i y (omega arith))

-- one part of a run changes
pub sets_run : (f g : ℕ → List ℕ) (vs : List ℕ) (n t i o : ℕ) → t < n → o ≡ length (cat f (range 0 t)) + i → i + length vs ≤ length (f t)
    → sets (f t) i vs ≡ g t → ((k : ℕ) → (k ≡ t → ⊥) → f k ≡ g k)
    → sets (cat f (range 0 n)) o vs ≡ cat g (range 0 n)
unfolding cat
sets_run f g vs n t i o h e l one others =
    ap (λ (r : List ℕ). sets (cat f r) o vs) (range_at n t h)
    ∙ sets_cat f vs (range 0 t) after t i o e l
    ∙ ap (λ (r : List ℕ). r ++ (sets (f t) i vs ++ cat f after)) (cat_run f g 0 t (λ k q. others (0 + k) (λ z. omega arith)))
    ∙ ap (λ (r : List ℕ). cat g (range 0 t) ++ (r ++ cat f after)) one
    ∙ ap (λ (r : List ℕ). cat g (range 0 t) ++ (g t ++ r)) (cat_run f g (suc t) (n - suc t) (λ k q. others (suc t + k) (λ z. omega arith)))
    ∙ sym (ap (cat g) (range_at n t h) ∙ cat_append g (range 0 t) (t ∷ after))
  where
    after : List ℕ
    after = range (suc t) (n - suc t)

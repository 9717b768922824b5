-- Laws of the list functions of specs/Bytes: parts one after the other, the elements that pass a test, runs of numbers. Assumes nothing.
use Rattle.std.proofs.Common.{◌≡◌, ℕ, zero, suc, ◌+◌, ◌-◌, ◌*◌, ◌<◌, Bool, true, false, cond, List, [], ◌∷◌, ◌++◌, length, get_or, sym, refl, ap, ◌∙◌}
use Rattle.std.proofs.Common.{append_assoc, append-nil, suc-add, arith, length-append}
use Rattle.image.specs.Bytes.{cat, filter, range}

module _ {A : Type 0} (f : A → List ℕ) where
  pub cat_cons : (x : A) (xs : List A) → cat f (x ∷ xs) ≡ f x ++ cat f xs
  unfolding cat
  cat_cons x xs = refl

  pub cat_append : (xs ys : List A) → cat f (xs ++ ys) ≡ cat f xs ++ cat f ys
  unfolding cat
  cat_append [] ys = refl
  cat_append (x ∷ xs) ys = ap (λ (l : List ℕ). f x ++ l) (cat_append xs ys) ∙ sym (append_assoc (f x) (cat f xs) (cat f ys))

  -- parts of one size
  pub length_cat : (k : ℕ) → ((x : A) → length (f x) ≡ k) → (xs : List A) → length (cat f xs) ≡ k * length xs
  unfolding cat
  length_cat k h [] = omega arith
  length_cat k h (x ∷ xs) =
      let e = length-append (f x) (cat f xs) in
      let p = h x in
      let q = length_cat k h xs in
      sum k (length xs) (length (f x)) (length (cat f xs)) (length (f x ++ cat f xs)) e p q
    where
      sum : (k n a b c : ℕ) → c ≡ a + b → a ≡ k → b ≡ k * n → c ≡ k * suc n
      sum k n a b c e p q = omega arith

-- parts that are equal one by one
pub cat_ext : {A : Type 0} (f g : A → List ℕ) → ((x : A) → f x ≡ g x) → (xs : List A) → cat f xs ≡ cat g xs
unfolding cat
cat_ext f g h [] = refl
cat_ext f g h (x ∷ xs) = ap (λ (l : List ℕ). l ++ cat f xs) (h x) ∙ ap (λ (l : List ℕ). g x ++ l) (cat_ext f g h xs)

-- parts of the same lengths one by one
pub length_cat_const : {A : Type 0} (f g : A → List ℕ) → ((x : A) → length (f x) ≡ length (g x)) → (xs : List A) → length (cat f xs) ≡ length (cat g xs)
unfolding cat
length_cat_const f g h [] = refl
length_cat_const f g h (x ∷ xs) =
    omega
    (arith, length-append (f x) (cat f xs), length-append (g x) (cat g xs), h x, length_cat_const f g h xs)

module _ {A : Type 0} (test : A → Bool) where
  pub filter_nil : filter test [] ≡ []
  unfolding filter
  filter_nil = refl

  pub filter-cons : (x : A) (xs : List A) → filter test (x ∷ xs) ≡ cond (test x) (x ∷ filter test xs) (filter test xs)
  unfolding filter
  filter-cons x xs = refl

  pub filter_yes : (x : A) (xs : List A) → test x ≡ true → filter test (x ∷ xs) ≡ x ∷ filter test xs
  unfolding filter
  filter_yes x xs h = rw h

  pub filter_no : (x : A) (xs : List A) → test x ≡ false → filter test (x ∷ xs) ≡ filter test xs
  unfolding filter
  filter_no x xs h = rw h

  pub filter-append : (xs ys : List A) → filter test (xs ++ ys) ≡ filter test xs ++ filter test ys
  unfolding filter
  filter-append [] ys = refl
  filter-append (x ∷ xs) ys = filter_with_first (filter-append xs ys) (test x)
    where
      filter_with_first : filter test (xs ++ ys) ≡ filter test xs ++ filter test ys → (b : Bool)
          → cond b (x ∷ filter test (xs ++ ys)) (filter test (xs ++ ys))
          ≡ cond b (x ∷ filter test xs) (filter test xs) ++ filter test ys
      filter_with_first ih true = ap (λ (l : List A). x ∷ l) ih
      filter_with_first ih false = ih

pub length_range : (s n : ℕ) → length (range s n) ≡ n
unfolding range
length_range s zero = refl
length_range s (suc n) = ap suc (length_range (suc s) n)

-- the last of a run
pub range_more : (s n : ℕ) → range s (suc n) ≡ range s n ++ ((s + n) ∷ [])
unfolding range
range_more s zero = let e : s ≡ s + 0 = omega arith in ap {B = List ℕ} (λ (k : ℕ). k ∷ []) e
range_more s (suc n) =
    let e : suc s + n ≡ s + suc n = add_shift in
    ap (λ (l : List ℕ). s ∷ l) (range_more (suc s) n ∙ ap (λ (k : ℕ). range (suc s) n ++ (k ∷ [])) e)
  where
    add_shift : suc s + n ≡ s + suc n
    add_shift = omega arith

pub run_more : (f : ℕ → List ℕ) (t : ℕ) → cat f (range 0 (suc t)) ≡ cat f (range 0 t) ++ f t
unfolding cat
run_more f t =
    let z : 0 + t ≡ t = omega arith in
    ap (cat f) (range_more 0 t ∙ ap (λ (k : ℕ). range 0 t ++ (k ∷ [])) z)
    ∙ cat_append f (range 0 t) (t ∷ [])
    ∙ ap (λ (l : List ℕ). cat f (range 0 t) ++ l) (append-nil (f t))

-- a run in two parts
pub range_split : (s n m : ℕ) → range s (n + m) ≡ range s n ++ range (s + n) m
unfolding range
range_split s zero m =
    let e : 0 + m ≡ m = omega arith in
    let d : s ≡ s + 0 = omega arith in
    ap (λ (k : ℕ). range s k) e ∙ ap (λ (k : ℕ). range k m) d
range_split s (suc n) m =
    ap (λ (k : ℕ). range s k) (suc-add n m)
    ∙ ap (λ (l : List ℕ). s ∷ l) (range_split (suc s) n m ∙ ap (λ (k : ℕ). range (suc s) n ++ range k m) shift)
  where
    shift : suc s + n ≡ s + suc n
    shift = omega arith

pub get_or_range : (s n i : ℕ) → i < n → get_or (range s n) i 0 ≡ s + i
unfolding range
get_or_range s zero i h = absurd (omega arith)
get_or_range s (suc n) zero h = omega arith
get_or_range s (suc n) (suc i) h =
    let k : i < n = omega arith in
    get_or_range (suc s) n i k ∙ shift
  where
    shift : suc s + i ≡ s + suc i
    shift = omega arith

-- a run around one of its numbers
pub range_at : (n t : ℕ) → t < n → range 0 n ≡ range 0 t ++ t ∷ range (suc t) (n - suc t)
unfolding range
range_at n t h =
    let e : n ≡ t + suc (n - suc t) = omega arith in
    let z : 0 + t ≡ t = omega arith in
    ap (range 0) e ∙ range_split 0 t (suc (n - suc t)) ∙ ap (λ (k : ℕ). range 0 t ++ k ∷ range (suc k) (n - suc t)) z

-- parts that are equal along a run
pub cat_run : (f g : ℕ → List ℕ) (s n : ℕ) → ((i : ℕ) → i < n → f (s + i) ≡ g (s + i)) → cat f (range s n) ≡ cat g (range s n)
unfolding range cat
cat_run f g s zero h = refl
cat_run f g s (suc n) h =
    let z : s + 0 ≡ s = omega arith in
    let p : f s ≡ g s = rw z at (h 0 (omega arith)) in
    ap (λ (l : List ℕ). l ++ cat f (range (suc s) n)) p
    ∙ ap (λ (l : List ℕ). g s ++ l) (cat_run f g (suc s) n (λ i k. shift i (h (suc i) (omega arith))))
  where
    shift : (i : ℕ) → f (s + suc i) ≡ g (s + suc i) → f (suc s + i) ≡ g (suc s + i)
    shift i e = let z : s + suc i ≡ suc s + i = omega arith in rw z at e

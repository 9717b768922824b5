-- Zero bytes in a name, step by step; and what precedes the first of them. Assumes nothing.
use Rattle.std.proofs.Common.{◌≡◌, ℕ, zero, suc, ◌+◌, ◌-◌, ◌<◌, ◌≤◌, Bool, true, false, cond, not, ◌&&◌, ◌||◌, eqb, ltb, List, [], ◌∷◌, ◌++◌, length, get_or}
use Rattle.std.proofs.Common.{take, drop, sym, refl, ap, ◌∙◌, ap₂, add-one, arith, length-drop, take-append-drop, take_all, drop-cons}
use Rattle.std.proofs.Common.{drop-drop, take-add, le-ltb, lt-ltb, eq-eqb, ne_eqb}
use Rattle.std.proofs.lemmas.Iterator.{index_from_first}
use Rattle.std.specs.Prelude.{Option, MatchOption, unwrap_or}
use Rattle.std.specs.List.{AllWithin, HoldsAt}
use mathlib.Core.Bool.{or_assoc}
use Rattle.image.specs.Bytes.{same}
use Rattle.image.specs.Zero.{has_zero, before_zero}
use Rattle.image.proofs.Bools.{false_not_true}

-- ---- the loop over a name, before byte i

-- what is left has a zero byte exactly where the name has
pub record ZeroInv (name : List ℕ) (i : ℕ) : Type 0 where
  pub inside : i ≤ length name
  pub rest : has_zero (drop i name) ≡ has_zero name

-- two joined parts have a zero byte where one of them has
zero_append : (a b : List ℕ) → has_zero (a ++ b) ≡ (has_zero a || has_zero b)
unfolding has_zero
zero_append [] b = refl
zero_append (x ∷ a) b = ap (λ (t : Bool). eqb x 0 || t) (zero_append a b) ∙ sym (or_assoc (eqb x 0) (has_zero a) (has_zero b))

-- the first k bytes and the others
zero_parts : (s : List ℕ) (k : ℕ) → has_zero s ≡ (has_zero (take k s) || has_zero (drop k s))
zero_parts s k = ap has_zero (sym (take-append-drop k s)) ∙ zero_append (take k s) (drop k s)

-- the same of the bytes from i on
zero_split : (s : List ℕ) (i k : ℕ) → has_zero (drop i s) ≡ (has_zero (take k (drop i s)) || has_zero (drop (i + k) s))
zero_split s i k = zero_parts (drop i s) k ∙ ap (λ (l : List ℕ). has_zero (take k (drop i s)) || has_zero l) (drop-drop k i s)

-- a test of each of the four bytes at i
first_byte : (s : List ℕ) (i j k : ℕ) → i + 1 ≡ j → i < length s → has_zero (take (suc k) (drop i s)) ≡ (eqb (get_or s i 0) 0 || has_zero (take k (drop j s)))
unfolding has_zero
first_byte s i j k e p = rw (← e, add-one, drop-cons s i 0 p)

join : (a b c d : Bool) → (a || (b || (c || (d || false)))) ≡ (((a || b) || c) || d)
join true b c d = refl
join false true c d = refl
join false false true d = refl
join false false false true = refl
join false false false false = refl

abbrev pub four : List ℕ → ℕ → Bool
four s i = ((eqb (get_or s i 0) 0 || eqb (get_or s (i + 1) 0) 0) || eqb (get_or s (i + 2) 0) 0) || eqb (get_or s (i + 3) 0) 0

pub zero_four : (s : List ℕ) (i : ℕ) → i + 4 ≤ length s → four s i ≡ has_zero (take 4 (drop i s))
unfolding has_zero
zero_four s i p =
    sym
    (first_byte s i (i + 1) 3 refl (omega arith)
    ∙ ap (λ (t : Bool). eqb (get_or s i 0) 0 || t)
    (first_byte s (i + 1) (i + 2) 2 (omega arith) (omega arith)
    ∙ ap (λ (t : Bool). eqb (get_or s (i + 1) 0) 0 || t)
    (first_byte s (i + 2) (i + 3) 1 (omega arith) (omega arith)
    ∙ ap (λ (t : Bool). eqb (get_or s (i + 2) 0) 0 || t) (first_byte s (i + 3) (i + 4) 0 (omega arith) (omega arith))))
    ∙ join (eqb (get_or s i 0) 0) (eqb (get_or s (i + 1) 0) 0) (eqb (get_or s (i + 2) 0) 0) (eqb (get_or s (i + 3) 0) 0))

-- eight bytes are four and four
pub zero_eight : (s : List ℕ) (i : ℕ) (a b : Bool) → a ≡ has_zero (take 4 (drop i s)) → b ≡ has_zero (take 4 (drop (i + 4) s))
    → (a || b) ≡ has_zero (take 8 (drop i s))
zero_eight s i a b ea eb =
    ap₂ (λ (x y : Bool). x || y) ea (eb ∙ ap (λ (l : List ℕ). has_zero (take 4 l)) (sym (drop-drop 4 i s)))
    ∙ sym (zero_append (take 4 (drop i s)) (take 4 (drop 4 (drop i s))))
    ∙ ap has_zero (sym (take-add 4 4 (drop i s)))

-- the last k bytes are all from there on
pub zero_last : (s : List ℕ) (k : ℕ) → k ≤ length s → has_zero (take k (drop (length s - k) s)) ≡ has_zero (drop (length s - k) s)
zero_last s k p =
    let l = length-drop (length s - k) s in
    ap has_zero (take_all k (drop (length s - k) s) (omega arith))

-- the first k bytes at i have a zero byte, or it is left to the others
pub zero_in_front : (s : List ℕ) (i k : ℕ) → has_zero (take k (drop i s)) ≡ true → has_zero (drop i s) ≡ true
zero_in_front s i k h = zero_split s i k ∙ ap (λ (t : Bool). t || has_zero (drop (i + k) s)) h

pub none_in_front : (s : List ℕ) (i k : ℕ) → has_zero (take k (drop i s)) ≡ false → has_zero (drop i s) ≡ has_zero (drop (i + k) s)
none_in_front s i k h = zero_split s i k ∙ ap (λ (t : Bool). t || has_zero (drop (i + k) s)) h

pub none_in_first : (s : List ℕ) (k : ℕ) → has_zero (take k s) ≡ false → has_zero (drop k s) ≡ has_zero s
none_in_first s k h = sym (zero_parts s k ∙ ap (λ (t : Bool). t || has_zero (drop k s)) h)

-- a zero byte of the first k bytes, or of the k bytes at j, is one of all
pub zero_at_an_end : (s : List ℕ) (k j : ℕ) (a b : Bool) → a ≡ has_zero (take k s) → b ≡ has_zero (take k (drop j s)) → (a || b) ≡ true → true ≡ has_zero s
zero_at_an_end s k j a b ea eb h = sym (zero_at_either a ea h)
  where
    later : (x : Bool) → (x || true) ≡ true
    later true = refl
    later false = refl

    zero_at_either : (t : Bool) → t ≡ has_zero (take k s) → (t || b) ≡ true → has_zero s ≡ true
    zero_at_either true e h = zero_parts s k ∙ ap (λ (x : Bool). x || has_zero (drop k s)) (sym e)
    zero_at_either false e h =
        zero_parts s j
        ∙ ap (λ (x : Bool). has_zero (take j s) || x) (zero_in_front s j k (sym eb ∙ h))
        ∙ later (has_zero (take j s))

-- where the question is left to the bytes from i on, it may be left to more bytes: those from j on
pub zero_overlap : (s : List ℕ) (j i : ℕ) → j ≤ i → has_zero (drop i s) ≡ has_zero s → has_zero (drop j s) ≡ has_zero s
zero_overlap s j i p h =
    rest_decides (has_zero (take j s)) (has_zero (drop j s)) (has_zero (take (i - j) (drop j s))) (has_zero (drop i s)) (has_zero s) h (zero_parts s j) part
  where
    e : j + (i - j) ≡ i
    e = omega arith

    part : has_zero (drop j s) ≡ (has_zero (take (i - j) (drop j s)) || has_zero (drop i s))
    part = zero_split s j (i - j) ∙ ap (λ (k : ℕ). has_zero (take (i - j) (drop j s)) || has_zero (drop k s)) e

    rest_decides : (a b c d t : Bool) → d ≡ t → t ≡ (a || b) → b ≡ (c || d) → b ≡ t
    rest_decides a true c d true ed et eb = refl
    rest_decides a false c d false ed et eb = refl
    rest_decides true true c d false ed et eb = absurd (false_not_true et)
    rest_decides false true c d false ed et eb = absurd (false_not_true et)
    rest_decides a false true d true ed et eb = absurd (false_not_true eb)
    rest_decides a false false d true ed et eb = absurd (false_not_true (eb ∙ ed))

-- the last eight bytes have none, and the question is left to bytes among them
pub none_at_last : (s : List ℕ) (i : ℕ) → 8 ≤ length s → length s - 8 ≤ i → has_zero (take 8 (drop (length s - 8) s)) ≡ false
    → has_zero (drop i s) ≡ has_zero s → false ≡ has_zero s
none_at_last s i p q none rest = sym (sym (zero_last s 8 p) ∙ none) ∙ zero_overlap s (length s - 8) i q rest

-- a name of k to 2 k bytes: its first k and its last k
pub zero_ends : (s : List ℕ) (k : ℕ) (a b : Bool) → k ≤ length s → length s ≤ k + k → a ≡ has_zero (take k s) → b ≡ has_zero (take k (drop (length s - k) s))
    → (a || b) ≡ has_zero s
zero_ends s k a b p q ea eb = either_decides a ea
  where
    parts : (t : Bool) → t ≡ has_zero (take k s) → has_zero s ≡ (t || has_zero (drop k s))
    parts t e = zero_parts s k ∙ ap (λ (x : Bool). x || has_zero (drop k s)) (sym e)

    either_decides : (t : Bool) → t ≡ has_zero (take k s) → (t || b) ≡ has_zero s
    either_decides true e = sym (parts true e)
    either_decides false e = eb ∙ zero_last s k p ∙ zero_overlap s (length s - k) k (omega arith) (sym (parts false e))

-- a name's reading ends where the search for its first zero byte does
pub first_zero : (s : List ℕ) (r : Option ℕ)
    → MatchOption r (AllWithin (λ x. x ≡ 0 → ⊥) s 0 (length s)) (λ i. (i < length s) × HoldsAt (λ x. x ≡ 0) s i × AllWithin (λ x. x ≡ 0 → ⊥) s 0 i)
    → length (before_zero s) ≡ unwrap_or r (length s)
unfolding before_zero
first_zero s r = index_from_first (λ (l : List ℕ). length (before_zero l)) (λ x. x ≡ 0) (λ x. x ≡ 0 → ⊥) refl ends_there goes_on s r
  where
    ends_there : (x : ℕ) (xs : List ℕ) → x ≡ 0 → length (before_zero (x ∷ xs)) ≡ 0
    ends_there x xs e = rw (eq-eqb x 0 e)

    goes_on : (x : ℕ) (xs : List ℕ) → (x ≡ 0 → ⊥) → length (before_zero (x ∷ xs)) ≡ length (before_zero xs) + 1
    goes_on x xs n = rw (ne_eqb x 0 n) (omega arith)

-- the panel's reading is a front of the name, has no zero byte, and is the longest such front
pub before_front : (s : List ℕ) → before_zero s ≡ take (length (before_zero s)) s
unfolding before_zero
before_front [] = refl
before_front (x ∷ xs) = front_with_first (eqb x 0) (before_front xs)
  where
    front_with_first : (t : Bool) → before_zero xs ≡ take (length (before_zero xs)) xs
        → cond t [] (x ∷ before_zero xs) ≡ take (length (cond t [] (x ∷ before_zero xs))) (x ∷ xs)
    front_with_first true rest = refl
    front_with_first false rest = ap (λ (l : List ℕ). x ∷ l) rest

pub before_short : (s : List ℕ) → length (before_zero s) ≤ length s
unfolding before_zero
before_short [] = omega arith
before_short (x ∷ xs) = short_with_first (eqb x 0) (before_short xs)
  where
    short_with_first : (t : Bool) → length (before_zero xs) ≤ length xs → length (cond t [] (x ∷ before_zero xs)) ≤ length (x ∷ xs)
    short_with_first true rest = omega arith
    short_with_first false rest = omega arith

pub before_free : (s : List ℕ) → has_zero (before_zero s) ≡ false
unfolding before_zero has_zero
before_free [] = refl
before_free (x ∷ xs) = free_with_first (eqb x 0) refl (before_free xs)
  where
    free_with_first : (t : Bool) → eqb x 0 ≡ t → has_zero (before_zero xs) ≡ false → has_zero (cond t [] (x ∷ before_zero xs)) ≡ false
    free_with_first true e rest = refl
    free_with_first false e rest = ap (λ (b : Bool). b || has_zero (before_zero xs)) e ∙ rest

pub before_longest : (s : List ℕ) (k : ℕ) → k ≤ length s → has_zero (take k s) ≡ false → k ≤ length (before_zero s)
unfolding before_zero has_zero
before_longest s zero p h = omega arith
before_longest [] (suc k) p h = absurd (omega arith)
before_longest (x ∷ xs) (suc k) p h = longest_with_first (eqb x 0) h (before_longest xs k (omega arith))
  where
    longest_with_first : (t : Bool) → (t || has_zero (take k xs)) ≡ false → (has_zero (take k xs) ≡ false → k ≤ length (before_zero xs))
        → suc k ≤ length (cond t [] (x ∷ before_zero xs))
    longest_with_first true e rest = absurd (false_not_true (sym e))
    longest_with_first false e rest = let l = rest e in omega arith

-- both readings of a name agree exactly where it has no zero byte
pub readings_same : (s : List ℕ) → same (before_zero s) s ≡ not (has_zero s)
unfolding before_zero has_zero same
readings_same [] = refl
readings_same (x ∷ xs) = same_with_first (eqb x 0) (readings_same xs)
  where
    same_with_first : (t : Bool) → same (before_zero xs) xs ≡ not (has_zero xs) → same (cond t [] (x ∷ before_zero xs)) (x ∷ xs) ≡ not (t || has_zero xs)
    same_with_first true rest = refl
    same_with_first false rest = ap (λ (b : Bool). b && same (before_zero xs) xs) (eq-eqb x x refl) ∙ rest

-- it is as long as the name exactly where the name has none
pub before_all : (s : List ℕ) → has_zero s ≡ false → length (before_zero s) ≡ length s
unfolding before_zero has_zero
before_all [] h = refl
before_all (x ∷ xs) h = all_with_first (eqb x 0) h (before_all xs)
  where
    all_with_first : (t : Bool) → (t || has_zero xs) ≡ false → (has_zero xs ≡ false → length (before_zero xs) ≡ length xs)
        → length (cond t [] (x ∷ before_zero xs)) ≡ length (x ∷ xs)
    all_with_first true e rest = absurd (false_not_true (sym e))
    all_with_first false e rest = ap suc (rest e)

pub before_less : (s : List ℕ) → has_zero s ≡ true → length (before_zero s) < length s
unfolding before_zero has_zero
before_less [] h = absurd (false_not_true h)
before_less (x ∷ xs) h = less_with_first (eqb x 0) h (before_less xs)
  where
    less_with_first : (t : Bool) → (t || has_zero xs) ≡ true → (has_zero xs ≡ true → length (before_zero xs) < length xs)
        → length (cond t [] (x ∷ before_zero xs)) < length (x ∷ xs)
    less_with_first true e rest = omega arith
    less_with_first false e rest = let l = rest e in omega arith

-- it is shorter exactly where there is one
pub before_test : (s : List ℕ) → ltb (length (before_zero s)) (length s) ≡ has_zero s
before_test s = by_zero_byte (has_zero s) refl
  where
    by_zero_byte : (t : Bool) → has_zero s ≡ t → ltb (length (before_zero s)) (length s) ≡ has_zero s
    by_zero_byte true e = lt-ltb (length (before_zero s)) (length s) (before_less s e) ∙ sym e
    by_zero_byte false e = le-ltb (length (before_zero s)) (length s) (omega (arith, before_all s e)) ∙ sym e

-- Equality of byte strings: what the test tells, and when it holds, step by step, by bytes and by words. Assumes nothing.
use Rattle.std.proofs.Common.{◌≡◌, ℕ, suc, ◌+◌, ◌*◌, ◌<◌, ◌≤◌, Bool, true, false, ◌&&◌, eqb, List, [], ◌∷◌, length, get_or, drop, sym, refl, ap, ◌∙◌, add-one}
use Rattle.std.proofs.Common.{arith, drop_of_length-le, drop-cons, eq-eqb, ne_eqb, eqb-true}
use native.Mathlib.Decide.{ℕ_discrete}
use mathlib.Core.Bool.{and-false, and-eq-true_iff}
use Rattle.jhash.specs.Word.{AllBytes}
use Rattle.jhash.proofs.WordRead.{word_of, word_below}
use Rattle.image.specs.Bytes.{word, le32, same}
use Rattle.image.proofs.Words.{le32_bytes}

-- the loops over two byte strings, before byte i: what is left is equal exactly where all from `from` on is
pub record SameInv (a b : List ℕ) (from i : ℕ) : Type 0 where
  pub inside : i ≤ length a
  pub rest : same (drop i a) (drop i b) ≡ same (drop from a) (drop from b)

-- ---- the test tells equal strings

pub same_self : (xs : List ℕ) → same xs xs ≡ true
unfolding same
same_self [] = refl
same_self (x ∷ xs) = rw (eq-eqb x x refl) (same_self xs)

pub same_true : (xs ys : List ℕ) → same xs ys ≡ true → xs ≡ ys
unfolding same
same_true [] [] e = refl
same_true [] (y ∷ ys) e = let z : ◌≡◌ {A = ℕ} 0 1 = cc in absurd (omega arith)
same_true (x ∷ xs) [] e = let z : ◌≡◌ {A = ℕ} 0 1 = cc in absurd (omega arith)
same_true (x ∷ xs) (y ∷ ys) e =
    let both = (and-eq-true_iff (eqb x y) (same xs ys)).0 e in
    ap (λ (k : ℕ). k ∷ xs) (eqb-true x y both.0) ∙ ap (λ (l : List ℕ). y ∷ l) (same_true xs ys both.1)

-- it fails where the strings differ
pub same_false : (xs ys : List ℕ) → (xs ≡ ys → ⊥) → same xs ys ≡ false
same_false xs ys differ = never_same (same xs ys) refl
  where
    never_same : (t : Bool) → same xs ys ≡ t → t ≡ false
    never_same true e = absurd (differ (same_true xs ys e))
    never_same false e = refl

-- ---- step by step

-- strings of different lengths
pub same_lengths : (a b : List ℕ) → (length a ≡ length b → ⊥) → same a b ≡ false
unfolding same
same_lengths [] [] h = absurd (h refl)
same_lengths [] (y ∷ ys) h = refl
same_lengths (x ∷ xs) [] h = refl
same_lengths (x ∷ xs) (y ∷ ys) h =
    ap (λ (t : Bool). eqb x y && t) (same_lengths xs ys (λ e. h (ap suc e))) ∙ and-false (eqb x y)

-- nothing is left
pub same_none : (a b : List ℕ) (i : ℕ) → length a ≤ i → length b ≤ i → same (drop i a) (drop i b) ≡ true
unfolding same
same_none a b i p q = rw (drop_of_length-le a {i = i} p, drop_of_length-le b {i = i} q)

-- one byte at i, where j is the next
module _ (a b : List ℕ) (i j : ℕ) (e : i + 1 ≡ j) (p : i < length a) (q : i < length b) where
  pub same_byte : same (drop i a) (drop i b) ≡ eqb (get_or a i 0) (get_or b i 0) && same (drop j a) (drop j b)
  unfolding same
  same_byte = rw (← e, add-one, drop-cons a i 0 p, drop-cons b i 0 q)

  pub other_byte : (get_or a i 0 ≡ get_or b i 0 → ⊥) → false ≡ same (drop i a) (drop i b)
  other_byte h = sym (same_byte ∙ ap (λ (t : Bool). t && same (drop j a) (drop j b)) (ne_eqb (get_or a i 0) (get_or b i 0) h))

  pub equal_byte : get_or a i 0 ≡ get_or b i 0 → same (drop j a) (drop j b) ≡ same (drop i a) (drop i b)
  equal_byte h = sym (same_byte ∙ ap (λ (t : Bool). t && same (drop j a) (drop j b)) (eq-eqb (get_or a i 0) (get_or b i 0) h))

-- byte k of s, counted from i, and the four bytes of a word
abbrev byte : List ℕ → ℕ → ℕ → ℕ
byte s i k = get_or s (i + k) 0

of_bytes : (s : List ℕ) (i : ℕ) → get_or s i 0 + byte s i 1 * 256 + byte s i 2 * 65536 + byte s i 3 * 16777216 ≡ word s i
of_bytes s i = word_of s i (get_or s i 0) (byte s i 1) (byte s i 2) (byte s i 3) refl refl refl refl

bytes_of : (s : List ℕ) (i : ℕ) → AllBytes s → le32 (word s i) ≡ get_or s i 0 ∷ byte s i 1 ∷ byte s i 2 ∷ byte s i 3 ∷ []
bytes_of s i h =
    ap le32 (sym (of_bytes s i)) ∙ le32_bytes (get_or s i 0) (byte s i 1) (byte s i 2) (byte s i 3) (h i) (h (i + 1)) (h (i + 2)) (h (i + 3))

-- a test that fails in one of four parts
and_four : (p q r s t : Bool) → (p ≡ true → q ≡ true → r ≡ true → s ≡ true → ⊥) → p && (q && (r && (s && t))) ≡ false
and_four false q r s t h = refl
and_four true false r s t h = refl
and_four true true false s t h = refl
and_four true true true false t h = refl
and_four true true true true t h = absurd (h refl refl refl refl)

module _ (a b : List ℕ) (i : ℕ) (p : i + 4 ≤ length a) (q : i + 4 ≤ length b) where
  -- is byte k the same?
  abbrev same_at : ℕ → Bool
  same_at k = eqb (byte a i k) (byte b i k)

  abbrev rest : Bool
  rest = same (drop (i + 4) a) (drop (i + 4) b)

  four : same (drop i a) (drop i b) ≡ eqb (get_or a i 0) (get_or b i 0) && (same_at 1 && (same_at 2 && (same_at 3 && rest)))
  four =
      same_byte a b i (i + 1) refl (omega arith) (omega arith)
      ∙ ap (λ (t : Bool). eqb (get_or a i 0) (get_or b i 0) && t)
      (same_byte a b (i + 1) (i + 2) (omega arith) (omega arith) (omega arith)
      ∙ ap (λ (t : Bool). same_at 1 && t)
      (same_byte a b (i + 2) (i + 3) (omega arith) (omega arith) (omega arith)
      ∙ ap (λ (t : Bool). same_at 2 && t)
      (same_byte a b (i + 3) (i + 4) (omega arith) (omega arith) (omega arith))))

  -- another word
  pub other_word : (word a i ≡ word b i → ⊥) → same (drop i a) (drop i b) ≡ false
  other_word h = four ∙ and_four (eqb (get_or a i 0) (get_or b i 0)) (same_at 1) (same_at 2) (same_at 3) rest (λ d0 d1 d2 d3. h (alike d0 d1 d2 d3))
    where
      alike : eqb (get_or a i 0) (get_or b i 0) ≡ true → same_at 1 ≡ true → same_at 2 ≡ true → same_at 3 ≡ true → word a i ≡ word b i
      alike d0 d1 d2 d3 =
          sym
          (word_of a i (get_or b i 0) (byte b i 1) (byte b i 2) (byte b i 3) (sym (eqb-true (get_or a i 0) (get_or b i 0) d0))
          (sym (eqb-true (byte a i 1) (byte b i 1) d1)) (sym (eqb-true (byte a i 2) (byte b i 2) d2)) (sym (eqb-true (byte a i 3) (byte b i 3) d3)))
          ∙ of_bytes b i

  -- the same word
  pub same_word : AllBytes a → AllBytes b → word a i ≡ word b i → same (drop i a) (drop i b) ≡ rest
  same_word ha hb e =
      let l = sym (bytes_of a i ha) ∙ ap le32 e ∙ bytes_of b i hb in
      four ∙ all (get_or a i 0) (byte a i 1) (byte a i 2) (byte a i 3) (get_or b i 0) (byte b i 1) (byte b i 2) (byte b i 3) rest l
    where
      all : (a0 a1 a2 a3 b0 b1 b2 b3 : ℕ) (t : Bool) → ◌≡◌ {A = List ℕ} (a0 ∷ a1 ∷ a2 ∷ a3 ∷ []) (b0 ∷ b1 ∷ b2 ∷ b3 ∷ [])
          → eqb a0 b0 && (eqb a1 b1 && (eqb a2 b2 && (eqb a3 b3 && t))) ≡ t
      all a0 a1 a2 a3 b0 b1 b2 b3 t l =
          let e0 : a0 ≡ b0 = cc in
          let e1 : a1 ≡ b1 = cc in
          let e2 : a2 ≡ b2 = cc in
          let e3 : a3 ≡ b3 = cc in
          rw (eq-eqb a0 b0 e0, eq-eqb a1 b1 e1, eq-eqb a2 b2 e2, eq-eqb a3 b3 e3)

-- two words as one number, the second above the first
abbrev pub word8 : List ℕ → ℕ → ℕ
word8 s i = word s i + word s (i + 4) * 4294967296

module _ (a b : List ℕ) (i : ℕ) (p : i + 8 ≤ length a) (q : i + 8 ≤ length b) (ha : AllBytes a) (hb : AllBytes b) where
  -- one word equal: the next decides
  then : word a i ≡ word b i → same (drop i a) (drop i b) ≡ same (drop (i + 4) a) (drop (i + 4) b)
  then e = same_word a b i (omega arith) (omega arith) ha hb e

  -- other eight bytes
  pub other_word8 : (word8 a i ≡ word8 b i → ⊥) → same (drop i a) (drop i b) ≡ false
  other_word8 h =
      elim (ℕ_discrete (word a i) (word b i)) [
        | yes e ↦ then e ∙ other_word a b (i + 4) (omega arith) (omega arith) (λ f. h (omega (arith, e, f)))
        | no n ↦ other_word a b i (omega arith) (omega arith) n
      ]

  -- the same eight bytes
  pub same_word8 : word8 a i ≡ word8 b i → same (drop i a) (drop i b) ≡ same (drop (i + 8) a) (drop (i + 8) b)
  same_word8 e =
      let la = word_below a i ha in
      let lb = word_below b i hb in
      let low : word a i ≡ word b i = omega arith in
      let high : word a (i + 4) ≡ word b (i + 4) = omega arith in
      let j : i + 4 + 4 ≡ i + 8 = omega arith in
      then low
      ∙ same_word a b (i + 4) (omega arith) (omega arith) ha hb high
      ∙ ap (λ (k : ℕ). same (drop k a) (drop k b)) j

-- Words and their bytes: where they are read and stored, and that reading gives what was stored. Assumes nothing.
use Rattle.std.proofs.Common.{◌≡◌, ℕ, suc, ◌+◌, ◌*◌, ◌/◌, ◌%◌, ◌^◌, ◌<◌, ◌≤◌, List, [], ◌∷◌, ◌++◌, length, get_or, drop, set, sym, refl, ap, ◌∙◌, arith}
use Rattle.std.proofs.Common.{length-set, get_or-drop}
use native.Mathlib.Nat.{div-div-eq-div-mul}
use native.Mathlib.Numerals.{towards_suc}
use lib.Seq.{sets, set_out}
use Rattle.image.specs.Bytes.{word, le32}

-- the word at o is the first of what is dropped to there
pub word_drop : (s : List ℕ) (n o : ℕ) → word (drop n s) o ≡ word s (n + o)
unfolding word
word_drop s n o =
    omega
    (arith, get_or-drop n s o 0, get_or-drop n s (o + 1) 0, get_or-drop n s (o + 2) 0, get_or-drop n s (o + 3) 0, shift 1, shift 2, shift 3)
  where
    shift : (k : ℕ) → get_or s (n + (o + k)) 0 ≡ get_or s (n + o + k) 0
    shift k = let e : n + (o + k) ≡ n + o + k = omega arith in ap (λ (i : ℕ). get_or s i 0) e

-- a number's lowest digit to the base 256, and what is above it
low : (a x : ℕ) → a < 256 → (a + x * 256) % 256 ≡ a
low a x h = omega arith

high : (a x : ℕ) → a < 256 → (a + x * 256) / 256 ≡ x
high a x h = omega arith

joined : (w : ℕ) → w % 256 + w / 256 * 256 ≡ w
joined w = omega arith

-- a word reads back
pub word_le32 : (w : ℕ) (rest : List ℕ) → w < 2 ^ 32 → word (le32 w ++ rest) 0 ≡ w
unfolding word le32
word_le32 w rest h =
    let two : w / 256 / 256 ≡ w / 65536 = div-div-eq-div-mul w 256 256 in
    let three : w / 65536 / 256 ≡ w / 16777216 = div-div-eq-div-mul w 65536 256 in
    let j2 : w / 65536 % 256 + w / 16777216 * 256 ≡ w / 65536 = rw three at (joined (w / 65536)) in
    let j1 : w / 256 % 256 + w / 65536 * 256 ≡ w / 256 = rw two at (joined (w / 256)) in
    let top : w / 16777216 % 256 ≡ w / 16777216 = omega arith in
    let j0 = joined w in
    digits (w % 256) (w / 256 % 256) (w / 65536 % 256) (w / 16777216 % 256) (w / 256) (w / 65536) (w / 16777216) w j0 j1 j2 top
  where
    digits : (a b c d x y z w : ℕ) → a + x * 256 ≡ w → b + y * 256 ≡ x → c + z * 256 ≡ y → d ≡ z → a + b * 256 + c * 65536 + d * 16777216 ≡ w
    digits a b c d x y z w p q r t = omega arith

pub length_le32 : (w : ℕ) → length (le32 w) ≡ 4
unfolding le32
length_le32 w = refl

-- four bytes are those of their word
pub le32_bytes : (a b c d : ℕ) → a < 256 → b < 256 → c < 256 → d < 256
    → le32 (a + b * 256 + c * 65536 + d * 16777216) ≡ a ∷ b ∷ c ∷ d ∷ []
unfolding le32
le32_bytes a b c d ha hb hc hd =
    let w = a + b * 256 + c * 65536 + d * 16777216 in
    let x = b + (c + d * 256) * 256 in
    let e : w ≡ a + x * 256 = omega arith in
    let w1 : w / 256 ≡ x = ap (λ (k : ℕ). k / 256) e ∙ high a x ha in
    let w2 : w / 65536 ≡ c + d * 256 =
    sym (div-div-eq-div-mul w 256 256) ∙ ap (λ (k : ℕ). k / 256) w1 ∙ high b (c + d * 256) hb in
    let w3 : w / 16777216 ≡ d = sym (div-div-eq-div-mul w 65536 256) ∙ ap (λ (k : ℕ). k / 256) w2 ∙ high c d hc in
    let e0 : w % 256 ≡ a = ap (λ (k : ℕ). k % 256) e ∙ low a x ha in
    let e1 : w / 256 % 256 ≡ b = ap (λ (k : ℕ). k % 256) w1 ∙ low b (c + d * 256) hb in
    let e2 : w / 65536 % 256 ≡ c = ap (λ (k : ℕ). k % 256) w2 ∙ low c d hc in
    let e3 : w / 16777216 % 256 ≡ d = ap (λ (k : ℕ). k % 256) w3 ∙ small d hd in
    four (w % 256) (w / 256 % 256) (w / 65536 % 256) (w / 16777216 % 256) a b c d e0 e1 e2 e3
  where
    small : (d : ℕ) → d < 256 → d % 256 ≡ d
    small d h = omega arith

    four : (p q r s a b c d : ℕ) → p ≡ a → q ≡ b → r ≡ c → s ≡ d → ◌≡◌ {A = List ℕ} (p ∷ q ∷ r ∷ s ∷ []) (a ∷ b ∷ c ∷ d ∷ [])
    four p q r s a b c d e f g h = cc

-- four stores in a row
pub stored : (l : List ℕ) (i v : ℕ)
    → set (set (set (set l i (v % 256)) (i + 1) (v / 256 % 256)) (i + 2) (v / 65536 % 256)) (i + 3) (v / 16777216 % 256) ≡ sets l i (le32 v)
unfolding le32
stored l i v = simp towards_suc

-- past the end nothing is stored
pub sets_past : (vs l : List ℕ) (i : ℕ) → length l ≤ i → sets l i vs ≡ l
sets_past [] l i h = refl
sets_past (a ∷ vs) l i h =
    let e : set l i a ≡ l = set_out l i a h in
    sets_past vs (set l i a) (suc i) (omega (arith, length-set l i a)) ∙ e

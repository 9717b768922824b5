-- Digits in front of a line, and the number that they write. Assumes nothing.
use Prim.Native.Nat.{ℕ, zero, suc, ◌+◌, ◌*◌, ◌-◌, ◌^◌, ◌≤◌, ◌<◌}
use native.Mathlib.Omega.{arith}
use native.Mathlib.Numerals.{add-one}
use native.Mathlib.Nat.{pow-succ', pow-le-pow_right}
use mathlib.Core.Path.{◌≡◌, refl, sym, ap, ◌∙◌}
use mathlib.Core.Bool.{Bool, true, false, cond}
use mathlib.Core.List.{List, [], ◌∷◌}
use lib.ListN.{length, get_or, drop, drop_of_length-le}
use lib.Seq.{drop-cons}
use lib.Dec.{lit<}
use Rattle.catalogue.specs.Lines.{is_digit, leading_digits, number_from, decimal}

-- ---- how many digits

-- n digits stand in front, and no more
pub digits_in_front : (line : List ℕ) (n : ℕ) → n ≤ length line → ((k : ℕ) → k < n → is_digit (get_or line k 0) ≡ true)
    → (n < length line → is_digit (get_or line n 0) ≡ false) → n ≡ leading_digits line
unfolding leading_digits
digits_in_front [] n h d e = omega arith
digits_in_front (b ∷ bs) zero h d e = sym (ap (λ (t : Bool). cond t (suc (leading_digits bs)) 0) (e (omega arith)))
digits_in_front (b ∷ bs) (suc n) h d e =
    ap suc (digits_in_front bs n (omega arith) (λ k l. d (suc k) (omega arith)) (λ l. e (omega arith)))
    ∙ sym (ap (λ (t : Bool). cond t (suc (leading_digits bs)) 0) (d 0 (omega arith)))

-- ---- the number

-- it is no less than what was read of it
least : (v : ℕ) (digits : List ℕ) → v ≤ number_from v digits
unfolding number_from
least v [] = omega arith
least v (b ∷ bs) = omega (arith, least (v * 10 + (b - 48)) bs)

-- one digit more, whatever was read before it
pub digit_read_lem : (digits : List ℕ) (v i d : ℕ) → i < length digits → d ≡ get_or digits i 0 - 48
    → number_from v (drop i digits) ≡ number_from (v * 10 + d) (drop (i + 1) digits)
unfolding number_from
digit_read_lem digits v i d h e =
    ap (number_from v) (drop-cons digits i 0 h)
    ∙ ap (λ (k : ℕ). number_from (v * 10 + (get_or digits i 0 - 48)) (drop k digits)) (sym (add-one i))
    ∙ ap (λ (x : ℕ). number_from (v * 10 + x) (drop (i + 1) digits)) (sym e)

-- no digit is left
pub number_end : (digits : List ℕ) (v i : ℕ) → length digits ≤ i → number_from v (drop i digits) ≡ v
unfolding number_from
number_end digits v i h = ap (number_from v) (drop_of_length-le digits h)

module _ (digits : List ℕ) (v i : ℕ) (so : number_from v (drop i digits) ≡ decimal digits) where
  pub digit_read : i < length digits → number_from (v * 10 + (get_or digits i 0 - 48)) (drop (i + 1) digits) ≡ decimal digits
  digit_read h = sym (digit_read_lem digits v i (get_or digits i 0 - 48) h refl) ∙ so

  -- the number is at least what is read with the next digit
  pub reaches : i < length digits → v * 10 + (get_or digits i 0 - 48) ≤ decimal digits
  reaches h = omega (arith, digit_read h, least (v * 10 + (get_or digits i 0 - 48)) (drop (i + 1) digits))

  pub number_read : length digits ≤ i → v ≡ decimal digits
  number_read h = sym (number_end digits v i h) ∙ so

-- what bounds it: each byte stands for less than 208
pub bound_more : (v d i : ℕ) → v + 26 ≤ 26 * 10 ^ i → d < 208 → v * 10 + d + 26 ≤ 26 * 10 ^ (i + 1)
bound_more v d i h k =
    let e : 10 ^ (i + 1) ≡ 10 * 10 ^ i = ap (λ (n : ℕ). 10 ^ n) (add-one i) ∙ pow-succ' 10 i in
    rw e (omega arith)

pub bound_fits : (v d i : ℕ) → v + 26 ≤ 26 * 10 ^ i → d < 208 → i < 10 → v * 10 + d < 2 ^ 64
bound_fits v d i h k l =
    let few : i ≤ 10 = omega arith in
    let p : 10 ^ i ≤ 10 ^ 10 = pow-le-pow_right (lit< tt) few in
    let q : 10 ^ 10 ≡ 10000000000 = refl in
    omega arith

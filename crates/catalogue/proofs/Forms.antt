-- The form of a line. Assumes nothing.
use Prim.Native.Nat.{ℕ, ◌+◌, ◌≤◌, ◌<◌}
use native.Mathlib.Omega.{arith}
use native.Mathlib.Decide.{dec_lt}
use mathlib.Core.Path.{◌≡◌, refl, sym, ap, ◌∙◌}
use mathlib.Core.Bool.{Bool, true, false, cond, ◌&&◌}
use mathlib.Core.List.{List}
use lib.ListN.{length, get_or, take, get_or-eq_default}
use lib.Dec.{eqb, leb}
use borrow.Author.Tests.{leb-true, eqb-true, le-leb, eq-eqb}
use Rattle.image.proofs.Bools.{and_first, and_second, chose_first}
use Rattle.catalogue.specs.Lines.{Form, leading_digits, decimal, entry, other, form_with, parse_line}

-- a line's form by its four tests, n being the digits in front
module _ (line : List ℕ) (n : ℕ) (e : n ≡ leading_digits line) where
  form_here : parse_line line ≡ form_with line n
  unfolding parse_line
  form_here = ap (form_with line) (sym e)

  chosen_other : (a b c d : Bool) (x y : Form) → (a ≡ true → b ≡ true → c ≡ true → d ≡ true → ⊥) → cond (a && b && c && d) x y ≡ y
  chosen_other true true true true x y h = absurd (h refl refl refl refl)
  chosen_other true true true false x y h = refl
  chosen_other true true false d x y h = refl
  chosen_other true false c d x y h = refl
  chosen_other false b c d x y h = refl

  pub other_unless : (1 ≤ n → n ≤ 10 → get_or line n 0 ≡ 32 → decimal (take n line) ≤ 4294967295 → ⊥) → parse_line line ≡ other
  other_unless h =
      form_here
      ∙ chosen_other (leb 1 n) (leb n 10) (eqb (get_or line n 0) 32) (leb (decimal (take n line)) 4294967295) _ _
      (λ p q r s. h (leb-true 1 n p) (leb-true n 10 q) (eqb-true (get_or line n 0) 32 r) (leb-true (decimal (take n line)) 4294967295 s))

  pub form_read : 1 ≤ n → n ≤ 10 → get_or line n 0 ≡ 32 → decimal (take n line) ≤ 4294967295 → parse_line line ≡ entry (decimal (take n line)) (n + 1)
  form_read low high space word =
      let p = le-leb 1 n low in
      let q = le-leb n 10 high in
      let r = eq-eqb (get_or line n 0) 32 space in
      let s = le-leb (decimal (take n line)) 4294967295 word in
      form_here ∙ (λ i. cond (p i && q i && r i && s i) (entry (decimal (take n line)) (n + 1)) other)

-- where a name begins
pub record Named (line : List ℕ) (at : ℕ) : Type 0 where
  pub inside : at ≤ length line
  pub low : at ≤ 11

never : {P : Type 0} (id at : ℕ) → other ≡ entry id at → P
never id at e = let z : ◌≡◌ {A = ℕ} 0 1 = cc in absurd (omega arith)

-- past the end there is no space
space_inside : (line : List ℕ) (n : ℕ) → get_or line n 0 ≡ 32 → n < length line
space_inside line n e = elim (dec_lt n (length line)) [
  | yes p ↦ p
  | no p ↦ absurd (let z : ◌≡◌ {A = ℕ} 32 0 = sym e ∙ get_or-eq_default line 0 (omega arith) in omega arith)
]

pub named : (line : List ℕ) (id at : ℕ) → parse_line line ≡ entry id at → Named line at
unfolding parse_line
named line id at e =
    let n = leading_digits line in
    let some-digits = leb 1 n in
    let few-digits = leb n 10 in
    let space = eqb (get_or line n 0) 32 in
    let word = leb (decimal (take n line)) 4294967295 in
    let front = some-digits && few-digits && space in
    let chosen = chose_first (front && word) (entry (decimal (take n line)) (n + 1)) other (entry id at) (never id at) e in
    let held = and_first front word chosen.0 in
    let few = leb-true n 10 (and_second some-digits few-digits (and_first (some-digits && few-digits) space held)) in
    let in-line = space_inside line n (eqb-true (get_or line n 0) 32 (and_second (some-digits && few-digits) space held)) in
    let same : n + 1 ≡ at = cc chosen.1 in
    record { inside = omega arith; low = omega arith }

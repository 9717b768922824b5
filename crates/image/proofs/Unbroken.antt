-- An entry that is not broken lies in the image with its first 8 bytes and its name. Assumes nothing.
use Rattle.std.proofs.Common.{◌≡◌, ℕ, ◌+◌, ◌-◌, ◌<◌, ◌≤◌, true, false, ◌||◌, eqb, ltb, List, length, sym, ◌∙◌, arith, ltb-false, le-ltb, lt-ltb, eq-eqb}
use Rattle.std.proofs.Common.{ne_eqb}
use native.Mathlib.Decide.{dec_lt, ℕ_discrete}
use borrow.Author.Tests.{eqb-false}
use Rattle.image.specs.Bytes.{word}
use Rattle.image.proofs.Bools.{or_false_first, or_false_second}
use Rattle.image.specs.Stored.{broken}
use Rattle.image.specs.Steps.Contracts.{LessOne}

-- the cases of `broken`, for a length word w
module _ (image : List ℕ) (at : ℕ) where
  pub broken_short : length image < at + 8 → true ≡ broken image at
  broken_short h = simp (lt-ltb (length image) (at + 8) h)

  pub broken_none : (w : ℕ) → at + 8 ≤ length image → w ≡ word image (at + 4) → w ≡ 0 → true ≡ broken image at
  broken_none w h e z = simp (le-ltb (length image) (at + 8) h, eq-eqb (word image (at + 4)) 0 (sym e ∙ z))

  pub broken_name : (w : ℕ) → at + 8 ≤ length image → w ≡ word image (at + 4) → (w ≡ 0 → ⊥)
      → ltb (length image) (at + 8 + (w - 1)) ≡ broken image at
  broken_name w h e z = rw e (simp (le-ltb (length image) (at + 8) h, ne_eqb (word image (at + 4)) 0 (λ q. z (e ∙ q))))

  -- room and name compared, with the length word minus 1 so large where the word is 0 that no image has room for it
  shifted : (n : ℕ) → at + 8 ≤ length image → ltb (length image - (at + 8)) n ≡ ltb (length image) (at + 8 + n)
  shifted n h =
      elim (dec_lt (length image - (at + 8)) n) [
        | yes l ↦ lt-ltb (length image - (at + 8)) n l ∙ sym (lt-ltb (length image) (at + 8 + n) (omega (arith, h, l)))
        | no l ↦ le-ltb (length image - (at + 8)) n (omega (arith, l)) ∙ sym (le-ltb (length image) (at + 8 + n) (omega (arith, h, l)))
      ]

  pub broken_rest : (w r : ℕ) → at + 8 ≤ length image → length image < 18446744073709551615 → w ≡ word image (at + 4)
      → LessOne w r → ltb (length image - (at + 8)) r ≡ broken image at
  broken_rest w r h l e less =
      elim (ℕ_discrete w 0) [
        | yes q ↦ rw (less.none q) (lt-ltb (length image - (at + 8)) 18446744073709551615 (omega (arith, l)) ∙ broken_none w h e q)
        | no q ↦ rw (less.some (omega (arith, q))) (shifted (w - 1) h ∙ broken_name w h e q)
      ]

pub record Unbroken (image : List ℕ) (at : ℕ) : Type 0 where
  pub head : at + 8 ≤ length image
  pub long : 1 ≤ word image (at + 4)
  pub name : at + 8 + (word image (at + 4) - 1) ≤ length image

pub unbroken : (image : List ℕ) (at : ℕ) → broken image at ≡ false → Unbroken image at
unbroken image at e =
    let short = ltb (length image) (at + 8) in
    let none = eqb (word image (at + 4)) 0 in
    let end = at + 8 + (word image (at + 4) - 1) in
    let first = or_false_first (short || none) (ltb (length image) end) e in
    let z = eqb-false (word image (at + 4)) 0 (or_false_second short none first) in
    record {
      head = ltb-false (length image) (at + 8) (or_false_first short none first);
      long = positive (word image (at + 4)) z;
      name = ltb-false (length image) end (or_false_second (short || none) (ltb (length image) end) e);
    }
  where
    positive : (w : ℕ) → (w ≡ 0 → ⊥) → 1 ≤ w
    positive w z = omega arith

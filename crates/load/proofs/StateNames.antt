-- The names of states: nine bytes, none of them zero, whose digits read back as the state. Assumes nothing.
use Prim.Native.Nat.{ℕ, suc, ◌+◌, ◌*◌, ◌-◌, ◌/◌, ◌%◌, ◌^◌, ◌<◌, ◌≤◌}
use native.Mathlib.Omega.{arith}
use native.Mathlib.Nat.{mod-lt}
use mathlib.Core.Path.{◌≡◌, refl, ap, ◌∙◌}
use mathlib.Core.Bool.{Bool, true, false, cond}
use lib.ListN.{length, drop}
use lib.Dec.{eqb, ltb}
use borrow.Author.Tests.{lt-ltb, le-ltb, ltb-true, ltb-false, ne_eqb}
use Rattle.image.specs.Zero.{has_zero}
use Rattle.load.specs.States.{state_after, hex_digit, state_name}
use Rattle.load.specs.Theorems.Rebuilt.{hex_from}

pub nine_bytes : (s : ℕ) → length (state_name s) ≡ 9
unfolding state_name
nine_bytes s = refl

pub state_word : (seed n : ℕ) → state_after seed (suc n) < 2 ^ 32
unfolding state_after
state_word seed n = mod-lt (1664525 * state_after seed n + 1013904223) {m = 2 ^ 32} (omega arith)

-- a digit is no zero byte
digit_nonzero : (d : ℕ) → eqb (hex_digit d) 0 ≡ false
digit_nonzero d = nonzero_by_kind (ltb d 10)
  where
    nonzero_by_kind : (t : Bool) → eqb (cond t (48 + d) (55 + d)) 0 ≡ false
    nonzero_by_kind true = ne_eqb (48 + d) 0 (λ h. omega arith)
    nonzero_by_kind false = ne_eqb (55 + d) 0 (λ h. omega arith)

pub name_free : (s : ℕ) → has_zero (state_name s) ≡ false
unfolding state_name has_zero
name_free s =
    let d7 = digit_nonzero (s / 268435456 % 16) in
    let d6 = digit_nonzero (s / 16777216 % 16) in
    let d5 = digit_nonzero (s / 1048576 % 16) in
    let d4 = digit_nonzero (s / 65536 % 16) in
    let d3 = digit_nonzero (s / 4096 % 16) in
    let d2 = digit_nonzero (s / 256 % 16) in
    let d1 = digit_nonzero (s / 16 % 16) in
    rw (d7, d6, d5, d4, d3, d2, d1, digit_nonzero (s % 16))

-- a digit reads back
abbrev digit_read : ℕ → ℕ
digit_read b = cond (ltb b 58) (b - 48) (b - 55)

digit_read_lem : (d : ℕ) → d < 16 → digit_read (hex_digit d) ≡ d
digit_read_lem d h = read_by_kind (ltb d 10) refl
  where
    read_by_kind : (t : Bool) → ltb d 10 ≡ t → digit_read (cond t (48 + d) (55 + d)) ≡ d
    read_by_kind true e =
        let low : 48 + d < 58 = omega (arith, ltb-true d 10 e) in
        ap (λ (t : Bool). cond t (48 + d - 48) (48 + d - 55)) (lt-ltb (48 + d) 58 low) ∙ omega arith
    read_by_kind false e =
        let high : 58 ≤ 55 + d = omega (arith, ltb-false d 10 e) in
        ap (λ (t : Bool). cond t (55 + d - 48) (55 + d - 55)) (le-ltb (55 + d) 58 high) ∙ omega arith

-- eight digits of a word: each one more gives one division by 16 less
word_digits : (s : ℕ) → s < 2 ^ 32
    → ((((((((0 * 16 + s / 268435456 % 16) * 16 + s / 16777216 % 16) * 16 + s / 1048576 % 16) * 16 + s / 65536 % 16) * 16 + s / 4096 % 16) * 16
    + s / 256 % 16)
    * 16 + s / 16 % 16) * 16 + s % 16) ≡ s
word_digits s h =
    let d7 : 0 * 16 + s / 268435456 % 16 ≡ s / 268435456 = omega arith in
    let d6 : s / 268435456 * 16 + s / 16777216 % 16 ≡ s / 16777216 = omega arith in
    let d5 : s / 16777216 * 16 + s / 1048576 % 16 ≡ s / 1048576 = omega arith in
    let d4 : s / 1048576 * 16 + s / 65536 % 16 ≡ s / 65536 = omega arith in
    let d3 : s / 65536 * 16 + s / 4096 % 16 ≡ s / 4096 = omega arith in
    let d2 : s / 4096 * 16 + s / 256 % 16 ≡ s / 256 = omega arith in
    let d1 : s / 256 * 16 + s / 16 % 16 ≡ s / 16 = omega arith in
    let d0 : s / 16 * 16 + s % 16 ≡ s = omega arith in
    rw (d7, d6, d5, d4, d3, d2, d1) d0

pub digits_read : (s : ℕ) → s < 2 ^ 32 → hex_from 0 (drop 1 (state_name s)) ≡ s
unfolding state_name hex_from
digits_read s h =
    let back : (d : ℕ) → digit_read (hex_digit (d % 16)) ≡ d % 16 = λ d. digit_read_lem (d % 16) (mod-lt d {m = 16} (omega arith)) in
    let d7 = back (s / 268435456) in
    let d6 = back (s / 16777216) in
    let d5 = back (s / 1048576) in
    let d4 = back (s / 65536) in
    let d3 = back (s / 4096) in
    rw (d7, d6, d5, d4, d3, back (s / 256), back (s / 16), back s) (word_digits s h)

-- A rotation is a product by a power of two, split at 2 ^ 32, its two halves added (`specs/Theorems/Rotation`). Assumes nothing.
use Rattle.std.proofs.Common.{◌≡◌, ℕ, ◌+◌, ◌-◌, ◌*◌, ◌/◌, ◌%◌, ◌^◌, ◌<◌, sym, ap, ◌∙◌, subst, ap₂, lt_trans, lt_of_le_of_lt, add-zero, le_of_lt, mod-lt}
use Rattle.std.proofs.Common.{mod-eq_of_lt, add_comm, sub-add_cancel, arith, pow_pos, pow-add, shl_lt, shr_lt}
use native.Mathlib.Nat.{mul-mod_left, mul-div-mul_right}
use lib.Bits.{bit_or, or_shifted, or_lt}
use lib.Pow.{pow-lt, mod-pow-add, shl-shr, shr_le}
use Rattle.jhash.specs.Lookup3.{rotl32}
use Rattle.jhash.specs.Theorems.Rotation.{halves_added, RotationAdds}

-- the lower half of the product is a multiple of the power
lower : (x j k : ℕ) → x * 2 ^ k % 2 ^ (j + k) ≡ x % 2 ^ j * 2 ^ k
lower x j k =
    mod-pow-add (x * 2 ^ k) j k
    ∙ ap₂ (λ (a b : ℕ). a % 2 ^ j * 2 ^ k + b) (shl-shr x k) (mul-mod_left x (2 ^ k))
    ∙ add-zero (x % 2 ^ j * 2 ^ k)

-- its upper half is what a right shift leaves
upper : (x j k : ℕ) → x * 2 ^ k / 2 ^ (j + k) ≡ x / 2 ^ j
upper x j k = rw pow-add (mul-div-mul_right x (2 ^ j) (pow_pos k))

-- for words of j + k bits
halves : (x j k : ℕ) → x < 2 ^ (j + k)
    → bit_or (x * 2 ^ k % 2 ^ (j + k)) (x / 2 ^ j) ≡ x * 2 ^ k % 2 ^ (j + k) + x * 2 ^ k / 2 ^ (j + k)
halves x j k h =
    ap (λ (a : ℕ). bit_or a (x / 2 ^ j)) (lower x j k)
    ∙ or_shifted (x % 2 ^ j) k (x / 2 ^ j) (shr_lt k j (subst (λ (n : ℕ). x < 2 ^ n) (add_comm j k) h))
    ∙ ap₂ (λ (a b : ℕ). a + b) (sym (lower x j k)) (sym (upper x j k))

pub rotation : RotationAdds
rotation x k h below =
    subst
    (λ (n : ℕ). x < 2 ^ n → bit_or (x * 2 ^ k % 2 ^ n) (x / 2 ^ (32 - k)) ≡ x * 2 ^ k % 2 ^ n + x * 2 ^ k / 2 ^ n)
    (sub-add_cancel (le_of_lt below))
    (halves x (32 - k) k)
    h

-- the sum of the halves never carries past 32 bits
no_carry : (x k : ℕ) → x < 2 ^ 32 → k < 32 → halves_added x k < 2 ^ 32
no_carry x k h below =
    subst
    (λ (n : ℕ). n < 2 ^ 32)
    (rotation x k h below)
    (or_lt 32 (x * 2 ^ k % 2 ^ 32) (x / 2 ^ (32 - k)) (mod-lt (x * 2 ^ k) (pow_pos 32)) (lt_of_le_of_lt (shr_le x (32 - k)) h))

-- the steps of `rotate_left`, from what its calls give: a power p of two, and the halves of the product added
module _ (x k : ℕ) {p : ℕ} (word : x < 2 ^ 32) (power : p ≡ 2 ^ (k % 32)) where
  pub product_fits : x * p < 2 ^ 64
  product_fits = rw power (lt_trans (shl_lt 32 (k % 32) word) (pow-lt {i = 32 + k % 32} {j = 64} (omega arith)))

  pub sum_fits : {r : ℕ} → r ≡ x * p % 2 ^ 32 + x * p / 2 ^ 32 → r < 2 ^ 32
  sum_fits sum = rw (sum, power) (no_carry x (k % 32) word (omega arith))

  pub sum_rotates : {r : ℕ} → r ≡ x * p % 2 ^ 32 + x * p / 2 ^ 32 → r ≡ rotl32 x (k % 32)
  sum_rotates sum = rw (sum, power) (sym (rotation x (k % 32) word (omega arith)))

-- an amount below 32 is its own remainder
pub by_amount : (x k : ℕ) {r : ℕ} → r ≡ rotl32 x (k % 32) → k < 32 → r ≡ rotl32 x k
by_amount x k e below = e ∙ ap (rotl32 x) (mod-eq_of_lt below)

-- 02 (iv): a rotation as a product by a power of two, split at 2 ^ 32.
use Rattle.std.specs.Prelude.{◌≡◌, ℕ, ◌+◌, ◌*◌, ◌/◌, ◌%◌, ◌^◌, ◌<◌}
use Rattle.jhash.specs.Lookup3.{rotl32}

-- the product of x by 2 ^ k, its two halves added
abbrev pub halves_added : ℕ → ℕ → ℕ
halves_added x k = x * 2 ^ k % 2 ^ 32 + x * 2 ^ k / 2 ^ 32

-- "For every word and each amount from 0 to 31 its answer is the rotation, the product's two halves added": lookup3's
-- rotation is this sum
abbrev pub RotationAdds : Type 0
RotationAdds = (x k : ℕ) → x < 2 ^ 32 → k < 32 → rotl32 x k ≡ halves_added x k

-- `|` never makes a number smaller. Assumes nothing.
use Rattle.std.proofs.Common.{ℕ, ◌≤◌, arith}
use lib.Bits.{bit_or, or_add_and, and_le_l, and_le_r}

pub le_or_l : (a b : ℕ) → a ≤ bit_or a b
le_or_l a b = omega (arith, or_add_and a b, and_le_r a b)

pub le_or_r : (a b : ℕ) → b ≤ bit_or a b
le_or_r a b = omega (arith, or_add_and a b, and_le_l a b)

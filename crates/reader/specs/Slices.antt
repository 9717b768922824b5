-- A slice that a call is lent or returns, and a subslice of one. Assumes nothing.
use Rattle.std.specs.Prelude.{ℕ, ◌+◌, List, take, drop}
use Rattle.std.specs.Borrow.{Bor}

-- the address of its first byte, a block of memory and an offset in it; and its bytes
pub record Slice : Type 0 where
  pub at : ℕ × ℕ
  pub bytes : List ℕ

-- the slice of a reference of the code
abbrev pub slice : Bor (List ℕ) → Slice
slice r = record { at = r.ref_ptr; bytes = r.now }

-- its n bytes from s on
abbrev pub subslice : Slice → ℕ → ℕ → Slice
subslice x s n = record { at = (x.at.0, s + x.at.1); bytes = take n (drop s x.bytes) }

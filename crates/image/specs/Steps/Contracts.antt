-- What the functions ask of their callers and promise, by name.
use Rattle.std.specs.Prelude.{◌≡◌, ℕ, ◌+◌, ◌-◌, ◌*◌, ◌<◌, ◌≤◌, cond, List, length, take, drop, ◌==◌, nat_lt, nat_le}
use Rattle.std.specs.Prelude.{Result, Ok, Err}
use Rattle.jhash.specs.declared.refusals.Refusal.{Refusal}
use Rattle.jhash.specs.declared.refusals.Refusal.TheVariants.{Unfit}
use Rattle.image.specs.declared.Mode.{Mode}
use Rattle.image.specs.declared.Mode.TheVariants.{Twoway, Oneway}
use Rattle.image.specs.Bytes.{word}
use Rattle.image.specs.Stored.{between}
use Rattle.image.specs.Tables.{probe_sequence, first_empty}
use Rattle.image.specs.Zero.{before_zero}
use Rattle.image.specs.Steps.EntryLength.{whole_length}

-- ---- words and byte strings

-- r is the word at a place, as a size
pub record SizeRead (buf : List ℕ) (at r : ℕ) : Type 0 where
  pub is : r ≡ word buf at
  pub small : r < 4294967296

-- two byte strings of one length, compared from a place in them on
pub record SameFromPre (a b : List ℕ) (from : ℕ) : Type 0 where
  pub lengths : length a ≡ length b
  pub inside : from ≤ length a

-- r bytes of a name precede its first zero byte
pub record LengthBeforeZero (name : List ℕ) (r : ℕ) : Type 0 where
  pub is : r ≡ length (before_zero name)
  pub most : r ≤ length name

-- ---- the mode

-- the mode that a number stands for: 0 two-way, 1 one-way, no other
abbrev pub mode_read : ℕ → Result Mode Refusal
mode_read n = cond (nat_le n 1) (Ok (cond (n == 0) Twoway Oneway)) (Err Unfit)

-- ---- the probe sequence

-- r is bucket b, one of n
pub record BucketIs (b n r : ℕ) : Type 0 where
  pub is : r ≡ b
  pub inside : r < n

-- there are buckets, and the n of them at o lie in the buffer
pub record TableIn (buf : List ℕ) (o n : ℕ) : Type 0 where
  pub some : 0 < n
  pub inside : o + 8 * n ≤ length buf

-- the n buckets at o lie in the buffer, and a search starts at bucket k, one of them
pub record FirstEmptyPre (buf : List ℕ) (o n k : ℕ) : Type 0 where
  pub inside : o + 8 * n ≤ length buf
  pub start : k < n

-- the offset in bucket i of the table at o
abbrev pub offset_at : List ℕ → ℕ → ℕ → ℕ
offset_at buf o i = word buf (o + 8 * i + 4)

-- an offset, but 0 from `before` on: as it was before the entry at `before` was put
abbrev pub hidden : ℕ → ℕ → ℕ
hidden before w = cond (nat_lt w before) w 0

-- the first of the n buckets at o, from bucket k on, that was empty then
abbrev pub first_empty_before : List ℕ → ℕ → ℕ → ℕ → ℕ → ℕ
first_empty_before buf o n k before = first_empty (λ (i : ℕ). hidden before (offset_at buf o i)) (probe_sequence n n k)

-- ---- entries

-- r is a length word minus 1, of 0 the largest number of all
pub record LessOne (len r : ℕ) : Type 0 where
  pub none : len ≡ 0 → r ≡ 18446744073709551615
  pub some : 0 < len → r ≡ len - 1

-- an entry is read at a place before `end`, which lies in the buffer
pub record WholeLengthPre (buf : List ℕ) (at end : ℕ) : Type 0 where
  pub from : at ≤ end
  pub inside : end ≤ length buf

-- it is not whole: `whole_length` gives 0
abbrev pub NotWhole : List ℕ → ℕ → ℕ → Type 0
NotWhole buf at end = whole_length (between buf at end) ≡ 0

-- it is whole, and n is its length word
pub record WholeLength (buf : List ℕ) (at end n : ℕ) : Type 0 where
  pub is : n ≡ whole_length (between buf at end)
  pub some : 0 < n
  pub small : n < 4294967296

-- the entry at `at` with length word n lies in the buffer
pub record NameAtPre (buf : List ℕ) (at n : ℕ) : Type 0 where
  pub inside : at + (8 + n) ≤ length buf
  pub some : 1 ≤ n

-- its name
pub record NameRead (buf : List ℕ) (at n : ℕ) (name : List ℕ) : Type 0 where
  pub is : name ≡ take (n - 1) (drop (at + 8) buf)
  pub size : length name ≡ n - 1

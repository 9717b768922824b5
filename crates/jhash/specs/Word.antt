-- Bytes, and little-endian words of 32 bits: 01, "Name hash" and "The image record". Assumes nothing.
use Rattle.std.specs.Prelude.{ℕ, ◌+◌, ◌*◌, ◌<◌, List, slice_index}

-- the elements of a lent slice are bytes: each is below 256
abbrev pub AllBytes : List ℕ → Type 0
AllBytes s = (k : ℕ) → slice_index s k < 256

-- all words are 32-bit unsigned, little-endian: the word at offset o of a byte string. Bytes past its end count as 0
unfoldable pub word : List ℕ → ℕ → ℕ
word s o = slice_index s o + slice_index s (o + 1) * 256 + slice_index s (o + 2) * 65536
    + slice_index s (o + 3) * 16777216

-- The entries in some bytes: 01, "Looking up a name" (an entry at an offset of an image, broken or not) and "When a
-- call is refused" (whole entries one after the other, as close finds them).
use Rattle.std.specs.Prelude.{ℕ, zero, suc, ◌+◌, ◌-◌, Bool, ◌&&◌, ◌||◌, List, [], ◌∷◌, length, take, drop, ◌==◌}
use Rattle.std.specs.Prelude.{nat_le, nat_lt, slice_index, slice_range}
use Rattle.image.specs.Bytes.{word}
use Rattle.image.specs.Image.{Entry}

-- the name of the entry at an offset, whose length word says its length plus 1
abbrev pub name_at : List ℕ → ℕ → List ℕ
name_at image at = take (word image (at + 4) - 1) (drop (at + 8) image)

-- an entry is broken where its first 8 bytes or its name leave the image, or its length word is 0
abbrev pub broken : List ℕ → ℕ → Bool
broken image at =
    nat_lt (length image) (at + 8)
    || word image (at + 4) == 0
    || nat_lt (length image) (at + 8 + (word image (at + 4) - 1))

-- the entry at the front of some bytes
abbrev pub first_entry : List ℕ → Entry
first_entry bytes = record { name = take (word bytes 4 - 1) (drop 8 bytes); id = word bytes 0 }

-- what follows it
abbrev pub after_first : List ℕ → List ℕ
after_first bytes = drop (8 + word bytes 4) bytes

-- is it whole? Length word at least 1, last byte zero
abbrev pub first_whole : List ℕ → Bool
first_whole bytes =
    nat_le 8 (length bytes)
    && nat_le 1 (word bytes 4)
    && nat_le (8 + word bytes 4) (length bytes)
    && slice_index bytes (7 + word bytes 4) == 0

-- are the bytes this number of whole entries?
unfoldable pub whole : ℕ → List ℕ → Bool
whole zero bytes = length bytes == 0
whole (suc n) bytes = first_whole bytes && whole n (after_first bytes)

-- the entries that they are
unfoldable pub entries_in : ℕ → List ℕ → List Entry
entries_in zero bytes = []
entries_in (suc n) bytes = first_entry bytes ∷ entries_in n (after_first bytes)

-- the bytes from `at` to `end`
abbrev pub between : List ℕ → ℕ → ℕ → List ℕ
between buf at end = slice_range buf at end

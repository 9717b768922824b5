-- Naming an id: 01, "Naming an id".
use Rattle.std.specs.Prelude.{ℕ, ◌+◌, ◌-◌, ◌*◌, Bool, cond, ◌||◌, List, length, take, drop, ◌==◌, nat_le, nat_lt}
use Rattle.std.proofs.Math.Option.{Option, none, some}
use Rattle.image.specs.Bytes.{word}
use Rattle.image.specs.Image.{head_size}
use Rattle.image.specs.Head.{back_size_at, back_offset_at, back_past_end}
use Rattle.image.specs.Stored.{broken}
use Rattle.reader.specs.Slices.{Slice, subslice}

-- the answer: the place of the name, its first byte's offset and its length; or nothing
pub data Naming : Type 0 where
  place : ℕ → ℕ → Naming
  unnamed : Naming

-- the length in an answer, 0 where there is no name
abbrev pub length_in : Naming → ℕ
length_in (place s n) = n
length_in unnamed = 0

-- there is no back array that can be read: the image is under 2,072 bytes, back offset is 0, or the back array reaches
-- past the end of the image
abbrev pub no_back : List ℕ → Bool
no_back image = nat_lt (length image) head_size || back_offset_at image == 0 || back_past_end image

-- the name of the entry at an offset: nothing when the offset is 0, its length word is 0, or length word or name
-- reaches past the end of the image
unfoldable pub naming_at : List ℕ → ℕ → Naming
naming_at image at =
    cond (at == 0 || broken image at) unnamed (place (at + 8) (word image (at + 4) - 1))

-- nothing when no back array can be read, or id ≥ back size
unfoldable pub naming : List ℕ → ℕ → Naming
naming image id =
    cond (no_back image) unnamed
    (cond (nat_le (back_size_at image) id) unnamed (naming_at image (word image (back_offset_at image + 4 * id))))

-- the part of the lent image that is the name, or another slice when there is none
abbrev pub slice_or : Slice → Slice → Naming → Slice
slice_or image other (place s n) = subslice image s n
slice_or image other unnamed = other

-- a second call returns the part, empty if nothing
abbrev pub name_slice : Slice → ℕ → Slice
name_slice image id = slice_or image (subslice image 0 0) (naming image.bytes id)

-- "name or stand-in": the part, or the caller's placeholder
abbrev pub name_or : Slice → ℕ → Slice → Slice
name_or image id other = slice_or image other (naming image.bytes id)

-- 01, "Whole lists": an id gives a name when naming it answers a place with exactly that name's bytes
abbrev pub bytes_at : List ℕ → Naming → Option (List ℕ)
bytes_at image (place s n) = some (take n (drop s image))
bytes_at image unnamed = none

abbrev pub name_given : List ℕ → ℕ → Option (List ℕ)
name_given image id = bytes_at image (naming image id)

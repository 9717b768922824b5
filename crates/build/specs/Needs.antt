-- What a whole list needs: an added call. So many bytes have room for the image of all its names, and so many words
-- are worth lending to the call.
use Rattle.std.specs.Prelude.{ℕ, ◌+◌, ◌*◌, min, max, List, [], ◌∷◌, length}
use Rattle.image.specs.declared.Mode.{Mode}
use Rattle.image.specs.Image.{head_size, back_in}
use Rattle.build.specs.declared.needs.Needs.{Needs}

-- a number that stands in 64 bits: 2^64 − 1 where it is more
abbrev pub at_most : ℕ → ℕ
at_most n = min n 18446744073709551615

-- the largest of these ids plus 1, 0 without any
unfoldable pub ids_back : List ℕ → ℕ
ids_back [] = 0
ids_back (id ∷ ids) = max (id + 1) (ids_back ids)

-- the size of the image of all names, which have `size` bytes together: 2,072, the names, 25 for each, and in two-way
-- mode 4 × (the largest id + 1)
unfoldable pub bytes_needed : Mode → ℕ → List ℕ → ℕ
bytes_needed mode size ids = at_most (head_size + size + 25 * length ids + 4 * back_in mode (ids_back ids))

-- the words of scratch memory for each name
abbrev pub words_each : ℕ
words_each = 5

unfoldable pub needed : Mode → ℕ → List ℕ → Needs
needed mode size ids = record { bytes = bytes_needed mode size ids; words = at_most (words_each * length ids) }

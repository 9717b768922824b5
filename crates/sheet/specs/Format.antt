-- The round sheet as bytes: 02 (xi). "The station gets its round as a file of three sections in fixed order:
-- references, wall prisms, retired prisms."
use Rattle.std.specs.Prelude.{ℕ, zero, suc, ◌+◌, ◌*◌, ◌/◌, ◌%◌, List, [], ◌∷◌, ◌++◌, length, get_or, drop}
use Rattle.image.specs.Bytes.{word, le32, cat}

-- "a 16-bit count .. little-endian": the count that stands at an offset, and the two bytes of a count
unfoldable pub count_at : List ℕ → ℕ → ℕ
count_at s o = get_or s o 0 + get_or s (o + 1) 0 * 256

unfoldable pub count_bytes : ℕ → List ℕ
count_bytes n = n % 256 ∷ n / 256 % 256 ∷ []

-- "32-bit ids, all little-endian": the first n ids of a byte string, and the bytes of ids
unfoldable pub ids : ℕ → List ℕ → List ℕ
ids zero s = []
ids (suc n) s = word s 0 ∷ ids n (drop 4 s)

unfoldable pub id_bytes : List ℕ → List ℕ
id_bytes xs = cat le32 xs

-- "Each section is a 16-bit count followed by that many 32-bit ids"
unfoldable pub section_bytes : List ℕ → List ℕ
section_bytes xs = count_bytes (length xs) ++ id_bytes xs

-- the three lists of a sheet
pub record Lists : Type 0 where
  pub references : List ℕ
  pub walls : List ℕ
  pub retired : List ℕ

-- "three sections in fixed order"
unfoldable pub sheet_bytes : Lists → List ℕ
sheet_bytes l = section_bytes l.references ++ section_bytes l.walls ++ section_bytes l.retired

-- The head's words, read off any bytes: 01, "The image record" and "Opening".
use Rattle.std.specs.Prelude.{ℕ, ◌+◌, ◌*◌, Bool, List, length, nat_lt}
use Rattle.image.specs.Bytes.{word}

-- 01, "The image record", 24 + 8t: table t's offset, then its bucket number
abbrev pub table_at : List ℕ → ℕ → ℕ
table_at image t = word image (24 + 8 * t)

abbrev pub bucket_number : List ℕ → ℕ → ℕ
bucket_number image t = word image (28 + 8 * t)

-- 16: back size. 20: back offset
abbrev pub back_size_at : List ℕ → ℕ
back_size_at image = word image 16

abbrev pub back_offset_at : List ℕ → ℕ
back_offset_at image = word image 20

-- 01's word is that it "leaves" the image: a table reaches past the end when offset + 8 × bucket number exceeds the
-- image's length, a back array when offset + 4 × back size does, also at number 0
abbrev pub table_past_end : List ℕ → ℕ → Bool
table_past_end image t = nat_lt (length image) (table_at image t + 8 * bucket_number image t)

abbrev pub back_past_end : List ℕ → Bool
back_past_end image = nat_lt (length image) (back_offset_at image + 4 * back_size_at image)

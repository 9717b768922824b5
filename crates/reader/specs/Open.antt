-- Opening: 01, "Opening" and "When a call is refused".
use Rattle.std.specs.Prelude.{ℕ, zero, suc, ◌+◌, ◌/◌, ◌%◌, ◌^◌, Bool, false, cond, not, ◌&&◌, ◌||◌, List, length}
use Rattle.std.specs.Prelude.{◌==◌, nat_lt, slice_index}
use Rattle.jhash.specs.Outcome.{Outcome, value, refusal}
use Rattle.image.specs.Bytes.{word}
use Rattle.image.specs.Image.{head_size}
use Rattle.image.specs.Head.{table_at, bucket_number, back_offset_at, table_past_end, back_past_end}
use Rattle.jhash.specs.Refusals as refused

-- does one of the m tables from t on, with an offset above 0, reach past the end of the image?
unfoldable pub some_past_end : List ℕ → ℕ → ℕ → Bool
some_past_end image t zero = false
some_past_end image t (suc m) = (nat_lt 0 (table_at image t) && table_past_end image t) || some_past_end image (suc t) m

-- each bucket number divided by 2 (whole part), summed over the m tables from t on, also those with offset 0
unfoldable pub num_from : List ℕ → ℕ → ℕ → ℕ
num_from image t zero = 0
num_from image t (suc m) = bucket_number image t / 2 + num_from image (suc t) m

-- the letters CQDB
abbrev pub has_letters : List ℕ → Bool
has_letters image =
    (slice_index image 0 == 67) && slice_index image 1 == 81 && slice_index image 2 == 68 && slice_index image 3 == 66

-- the first that applies: 1 under 2,072 bytes, 5 for wrong letters, 6 for a wrong word at 12, 7 when a table with
-- offset above 0 reaches past the end of the image, 8 when a back array with offset above 0 does. Otherwise num: the
-- sum of halves over all 256 tables, modulo 2^32
unfoldable pub opening : List ℕ → Outcome ℕ
opening image =
    cond (nat_lt (length image) head_size) (refusal refused.too_short)
    (cond (not (has_letters image)) (refusal refused.wrong_letters)
    (cond (not (word image 12 == 0x62445371)) (refusal refused.wrong_byte_order)
    (cond (some_past_end image 0 256) (refusal refused.table_leaves)
    (cond (nat_lt 0 (back_offset_at image) && back_past_end image) (refusal refused.back_leaves)
    (value (num_from image 0 256 % 2 ^ 32))))))

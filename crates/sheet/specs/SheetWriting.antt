-- The writer: 02 (xi). "The writer gives the length and changes no byte past it."
use Rattle.std.specs.Prelude.{ℕ, Bool, cond, ◌||◌, List, ◌++◌, length, drop, ltb}
use Rattle.jhash.specs.Outcome.{Outcome, value, refusal}
use Rattle.sheet.specs.Format.{Lists, sheet_bytes}
use Rattle.jhash.specs.Refusals as refused

-- the lists that are lent
abbrev pub section_lists : List ℕ → List ℕ → List ℕ → Lists
section_lists references walls retired = record { references = references; walls = walls; retired = retired }

-- does a list pass 65,535?
abbrev pub passes : List ℕ → Bool
passes xs = ltb 65535 (length xs)

abbrev pub too_long : Lists → Bool
too_long l = passes l.references || passes l.walls || passes l.retired

-- "the writer gives 21 when a list passes 65,535 or the buffer is too short"; otherwise the length. A buffer of
-- `room` bytes
unfoldable pub writing : ℕ → Lists → Outcome ℕ
writing room l =
    cond (too_long l || ltb room (length (sheet_bytes l))) (refusal refused.sheet_too_large)
    (value (length (sheet_bytes l)))

-- the buffer afterwards: the file in front, every byte past it as it was; all as it was where the writer is refused
abbrev pub left_by_writer : List ℕ → Lists → Outcome ℕ → List ℕ
left_by_writer buf l (value n) = sheet_bytes l ++ drop n buf
left_by_writer buf l (refusal k) = buf

unfoldable pub after_writing : List ℕ → Lists → List ℕ
after_writing buf l = left_by_writer buf l (writing (length buf) l)

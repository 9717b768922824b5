-- Worked examples of 02 (xi).
use Rattle.std.specs.Prelude.{ℕ, ◌≡◌, List, [], ◌∷◌, map, length}
use Rattle.jhash.specs.Outcome.{Outcome, value, refusal}
use Rattle.sheet.specs.Format.{Lists}
use Rattle.sheet.specs.SheetReading.{read_lists}
use Rattle.sheet.specs.SheetWriting.{section_lists, writing, after_writing}

-- a file, and the lists that it reads as
pub record ReadRow : Type 0 where
  pub file : List ℕ
  pub lists : Outcome Lists

abbrev reads_as : List ℕ → Outcome Lists → ReadRow
reads_as file lists = record { file = file; lists = lists }

abbrev pub read_rows : List ReadRow
read_rows =
    -- no bytes; two of the three counts; half a count
    reads_as [] (refusal 19)
    ∷ reads_as (0 ∷ 0 ∷ 0 ∷ 0 ∷ []) (refusal 19)
    ∷ reads_as (0 ∷ 0 ∷ 0 ∷ 0 ∷ 0 ∷ []) (refusal 19)
    -- three empty sections; one byte more
    ∷ reads_as (0 ∷ 0 ∷ 0 ∷ 0 ∷ 0 ∷ 0 ∷ []) (value (section_lists [] [] []))
    ∷ reads_as (0 ∷ 0 ∷ 0 ∷ 0 ∷ 0 ∷ 0 ∷ 0 ∷ []) (refusal 20)
    -- the one id of a wall prism, and with its last byte cut off
    ∷ reads_as (0 ∷ 0 ∷ 1 ∷ 0 ∷ 1 ∷ 2 ∷ 3 ∷ 4 ∷ 0 ∷ 0 ∷ []) (value (section_lists [] (0x04030201 ∷ []) []))
    ∷ reads_as (0 ∷ 0 ∷ 1 ∷ 0 ∷ 1 ∷ 2 ∷ 3 ∷ []) (refusal 19)
    -- a count of 256 and no id: the count's second byte counts 256
    ∷ reads_as (0 ∷ 1 ∷ 0 ∷ 0 ∷ 0 ∷ 0 ∷ []) (refusal 19)
    -- all three sections, and the largest id
    ∷ reads_as (1 ∷ 0 ∷ 7 ∷ 0 ∷ 0 ∷ 0 ∷ 2 ∷ 0 ∷ 8 ∷ 0 ∷ 0 ∷ 0 ∷ 9 ∷ 0 ∷ 0 ∷ 0 ∷ 1 ∷ 0
    ∷ 255 ∷ 255 ∷ 255 ∷ 255 ∷ [])
    (value (section_lists (7 ∷ []) (8 ∷ 9 ∷ []) (4294967295 ∷ [])))
    ∷ []

-- a buffer, the lists, what the writer gives, and the buffer afterwards
pub record WriteRow : Type 0 where
  pub buffer : List ℕ
  pub lists : Lists
  pub gives : Outcome ℕ
  pub leaves : List ℕ

abbrev writes : List ℕ → Lists → Outcome ℕ → List ℕ → WriteRow
writes buffer lists gives leaves = record { buffer = buffer; lists = lists; gives = gives; leaves = leaves }

abbrev pub write_rows : List WriteRow
write_rows =
    -- no ids: one byte short, exactly full, a byte to spare
    writes (9 ∷ 9 ∷ 9 ∷ 9 ∷ 9 ∷ []) (section_lists [] [] []) (refusal 21) (9 ∷ 9 ∷ 9 ∷ 9 ∷ 9 ∷ [])
    ∷ writes (9 ∷ 9 ∷ 9 ∷ 9 ∷ 9 ∷ 9 ∷ []) (section_lists [] [] []) (value 6)
    (0 ∷ 0 ∷ 0 ∷ 0 ∷ 0 ∷ 0 ∷ [])
    ∷ writes (9 ∷ 9 ∷ 9 ∷ 9 ∷ 9 ∷ 9 ∷ 9 ∷ []) (section_lists [] [] []) (value 6)
    (0 ∷ 0 ∷ 0 ∷ 0 ∷ 0 ∷ 0 ∷ 9 ∷ [])
    -- an id in each of two sections
    ∷ writes (9 ∷ 9 ∷ 9 ∷ 9 ∷ 9 ∷ 9 ∷ 9 ∷ 9 ∷ 9 ∷ 9 ∷ 9 ∷ 9 ∷ 9 ∷ 9 ∷ 9 ∷ [])
    (section_lists (0x04030201 ∷ []) [] (4294967295 ∷ [])) (value 14)
    (1 ∷ 0 ∷ 1 ∷ 2 ∷ 3 ∷ 4 ∷ 0 ∷ 0 ∷ 1 ∷ 0 ∷ 255 ∷ 255 ∷ 255 ∷ 255 ∷ 9 ∷ [])
    ∷ []

-- what the rows say
pub record SheetRowsHold : Type 0 where
  pub reads : map (λ (r : ReadRow). read_lists r.file) read_rows ≡ map (λ (r : ReadRow). r.lists) read_rows
  pub gives : map (λ (r : WriteRow). writing (length r.buffer) r.lists) write_rows
      ≡ map (λ (r : WriteRow). r.gives) write_rows
  pub leaves : map (λ (r : WriteRow). after_writing r.buffer r.lists) write_rows
      ≡ map (λ (r : WriteRow). r.leaves) write_rows

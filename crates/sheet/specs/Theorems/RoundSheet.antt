-- What is proved of reader and writer (`round_sheet` in proofs/Theorem): the sentences of 02 (xi), and that the
-- refusals exclude each other. A file is a list of bytes, numbers below 256.
use Rattle.std.specs.Prelude.{ℕ, ◌+◌, ◌*◌, ◌^◌, ◌<◌, ◌≤◌, ◌≡◌, ◌↔◌, ◌⊎◌, List, [], ◌++◌, length, get_or, take}
use Rattle.jhash.specs.Outcome.{value, refusal}
use Rattle.sheet.specs.Format.{Lists, sheet_bytes}
use Rattle.sheet.specs.SheetReading.{part_end, part_bytes, ids_in, read_sheet, read_lists}
use Rattle.sheet.specs.SheetWriting.{writing, after_writing}
use Rattle.sheet.specs.declared.SectionPlace.{SectionPlace}
use Rattle.sheet.specs.declared.Sheet.{Sheet}

-- every number of a list is below n
abbrev pub Below : ℕ → List ℕ → Type 0
Below n xs = (i : ℕ) → i < length xs → get_or xs i 0 < n

-- a list that a section can hold: at most 65,535 ids, of 32 bits each
pub record Holdable (xs : List ℕ) : Type 0 where
  pub count : length xs ≤ 65535
  pub words : Below (2 ^ 32) xs

-- lists that a sheet can hold
pub record Fits (l : Lists) : Type 0 where
  pub references : Holdable l.references
  pub walls : Holdable l.walls
  pub retired : Holdable l.retired

-- where the parts of a sheet stand: each right behind its count of two bytes, also where it is empty; the last one
-- ends the file
pub record PartsPlaced (file : List ℕ) (s : Sheet) : Type 0 where
  pub references : s.references.start ≡ 2
  pub walls : s.walls.start ≡ part_end s.references + 2
  pub retired : s.retired.start ≡ part_end s.walls + 2
  pub end : part_end s.retired ≡ length file

-- a part has four bytes for each of its ids, and as many ids as its section's count
pub record HoldsIds (file : List ℕ) (p : SectionPlace) : Type 0 where
  pub bytes : length (part_bytes file p) ≡ 4 * p.count
  pub number : length (ids_in (part_bytes file p)) ≡ p.count

-- left-over bytes: the file begins with a sheet and goes on
abbrev pub GoesOn : List ℕ → Type 0
GoesOn file = (l : Lists) × (rest : List ℕ) × Fits l × ¬ (rest ≡ []) × (sheet_bytes l ++ rest ≡ file)

-- too few bytes: the file does not begin with a sheet
abbrev pub BreaksOff : List ℕ → Type 0
BreaksOff file = (l : Lists) (rest : List ℕ) → Fits l → ¬ (sheet_bytes l ++ rest ≡ file)

-- a sheet, 19 or 20
abbrev pub OneOfThree : List ℕ → Type 0
OneOfThree file =
    ((s : Sheet) × (read_sheet file ≡ value s))
    ⊎ ((read_sheet file ≡ refusal 19) ⊎ (read_sheet file ≡ refusal 20))

pub record RoundSheet : Type 0 where
  -- "What was written reads back as the same three lists": the file alone, and the buffer's first bytes, whatever
  -- stands behind them
  pub reads_back : (l : Lists) → Fits l → read_lists (sheet_bytes l) ≡ value l
  pub reads_back_in : (buf : List ℕ) (l : Lists) (n : ℕ) → Fits l → writing (length buf) l ≡ value n
      → read_lists (take n (after_writing buf l)) ≡ value l
  -- "a file that reads is what the writer makes of its lists", in every buffer that has room for it
  pub writes_again : (file buf : List ℕ) (l : Lists) → Below 256 file → read_lists file ≡ value l
      → length file ≤ length buf
      → (writing (length buf) l ≡ value (length file)) × (take (length file) (after_writing buf l) ≡ file)
  -- so no two files read as the same lists
  pub injective : (f g : List ℕ) (l : Lists) → Below 256 f → Below 256 g → read_lists f ≡ value l
      → read_lists g ≡ value l → f ≡ g
  -- a file reads as these lists exactly when it is their sheet; "too few bytes give 19, left-over bytes 20", each
  -- exactly then
  pub sheet_exactly : (file : List ℕ) (l : Lists) → Below 256 file
      → (read_lists file ≡ value l) ↔ (Fits l × (sheet_bytes l ≡ file))
  pub too_few_exactly : (file : List ℕ) → Below 256 file → (read_sheet file ≡ refusal 19) ↔ BreaksOff file
  pub left_over_exactly : (file : List ℕ) → Below 256 file → (read_sheet file ≡ refusal 20) ↔ GoesOn file
  -- every file gets one of the three, and no two of them
  pub one_of_three : (file : List ℕ) → OneOfThree file
  pub not_both : (file : List ℕ) → read_sheet file ≡ refusal 19 → ¬ (read_sheet file ≡ refusal 20)
  pub not_refused : (file : List ℕ) (s : Sheet) (n : ℕ) → read_sheet file ≡ value s
      → ¬ (read_sheet file ≡ refusal n)
  -- where the parts stand, and what they hold
  pub placed : (file : List ℕ) (s : Sheet) → read_sheet file ≡ value s → PartsPlaced file s
  pub holds : (file : List ℕ) (s : Sheet) → read_sheet file ≡ value s
      → HoldsIds file s.references × HoldsIds file s.walls × HoldsIds file s.retired
  -- 6 bytes and 4 for each id; so the longest file has 786,426
  pub sized : (l : Lists)
      → length (sheet_bytes l) ≡ 6 + 4 * (length l.references + length l.walls + length l.retired)
  pub longest : (l : Lists) → Fits l → length (sheet_bytes l) ≤ 786426

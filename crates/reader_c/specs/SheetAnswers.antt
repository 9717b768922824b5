-- The exported calls: the value, or the refusal's number with every other number 0. Assumes nothing.
use Rattle.std.specs.Prelude.{ℕ, [], ◌∷◌}
use Rattle.jhash.specs.Outcome.{Outcome, value, refusal}
use Rattle.sheet.specs.declared.Sheet.{Sheet}
use Rattle.reader_c.specs.declared.sheets.SheetAnswer.{SheetAnswer}
use Rattle.reader_c.specs.declared.sheets.LengthAnswer.{LengthAnswer}

-- the parts of references, wall prisms and retired prisms: counts, and starts
abbrev pub parts_answer : Sheet → SheetAnswer
parts_answer s =
    record {
      refusal = 0;
      counts = s.references.count ∷ s.walls.count ∷ s.retired.count ∷ [];
      starts = s.references.start ∷ s.walls.start ∷ s.retired.start ∷ [];
    }

abbrev pub no_sheet : ℕ → SheetAnswer
no_sheet n = record { refusal = n; counts = 0 ∷ 0 ∷ 0 ∷ []; starts = 0 ∷ 0 ∷ 0 ∷ [] }

abbrev pub sheet_answer : Outcome Sheet → SheetAnswer
sheet_answer (value s) = parts_answer s
sheet_answer (refusal n) = no_sheet n

-- the length that the writer gives
abbrev pub length_answer : Outcome ℕ → LengthAnswer
length_answer (value n) = record { refusal = 0; length = n }
length_answer (refusal n) = record { refusal = n; length = 0 }

-- Worked examples of a whole list: packed names with their ends, ids, and what the call gives in every buffer of that
-- length.
use Rattle.std.specs.Prelude.{ℕ, ◌≡◌, List, [], ◌∷◌, length}
use Rattle.jhash.specs.Outcome.{value}
use Rattle.image.specs.declared.Mode.TheVariants.{Twoway}
use Rattle.writer.specs.declared.Repeats.{Repeats}
use Rattle.writer.specs.declared.Repeats.TheVariants.{Off, On}
use Rattle.build.specs.declared.Made.{Made}
use Rattle.build.specs.Build.{building, answers_after}

-- a list, the buffer's length, the number of each put's refusal, and the size and the number of accepted puts
pub record Row : Type 0 where
  pub repeats : Repeats
  pub room : ℕ
  pub bytes : List ℕ
  pub ends : List ℕ
  pub ids : List ℕ
  pub refusals : List ℕ
  pub made : Made

abbrev pub BuildRowHolds : Row → Type 0
BuildRowHolds r =
    (buffer places : List ℕ) → length buffer ≡ r.room → length places ≡ length r.ends
    → (building Twoway r.repeats buffer r.bytes r.ends r.ids (length places) ≡ value r.made)
    × (answers_after Twoway r.repeats buffer r.bytes r.ends r.ids places ≡ r.refusals)

abbrev made : ℕ → ℕ → Made
made size accepted = record { size = size; accepted = accepted }

abbrev row : Repeats → ℕ → List ℕ → List ℕ → List ℕ → List ℕ → Made → Row
row repeats room bytes ends ids refusals m =
    record { repeats = repeats; room = room; bytes = bytes; ends = ends; ids = ids; refusals = refusals; made = m }

abbrev pub build_rows : List Row
build_rows =
    -- A, B, A again and a name with a zero byte, with repeats off and on
    row Off 4096 (65 ∷ 66 ∷ 65 ∷ 67 ∷ 0 ∷ []) (1 ∷ 2 ∷ 3 ∷ 5 ∷ []) (0 ∷ 1 ∷ 2 ∷ 3 ∷ [])
    (0 ∷ 0 ∷ 16 ∷ 13 ∷ [])
    (made 2132 2)
    ∷ row On 4096 (65 ∷ 66 ∷ 65 ∷ 67 ∷ 0 ∷ []) (1 ∷ 2 ∷ 3 ∷ 5 ∷ []) (0 ∷ 1 ∷ 2 ∷ 3 ∷ [])
    (0 ∷ 0 ∷ 0 ∷ 13 ∷ [])
    (made 2162 3)
    -- a name refused for its zero byte is not held, and one without room is not either
    ∷ row Off 4096 (97 ∷ 0 ∷ 97 ∷ 0 ∷ []) (2 ∷ 4 ∷ []) (0 ∷ 0 ∷ []) (13 ∷ 13 ∷ []) (made 2072 0)
    ∷ row Off 2102 (66 ∷ 66 ∷ 66 ∷ []) (1 ∷ 2 ∷ 3 ∷ []) (1000 ∷ 0 ∷ 0 ∷ [])
    (3 ∷ 0 ∷ 16 ∷ []) (made 2102 1)
    ∷ []

-- What cqdb_build_parts answers: the call of `build`, whose numbers stand in a struct. A mode or a repeats mode that is
-- neither 0 nor 1 gives 2 before all else, as cqdb_begin does, and nothing is written.
use Rattle.std.specs.Prelude.{ℕ, ◌≡◌, true, false, cond, List}
use Rattle.jhash.specs.Outcome.{Outcome, value, refusal}
use Rattle.build.specs.declared.Made.{Made}
use Rattle.build.specs.Build.{building, BufferBuilt, answers_after}
use Rattle.build_c.specs.declared.BuildAnswer.{BuildAnswer}
use Rattle.writer.specs.Numbers.{valid_numbers, mode_of, repeats_of}
use Rattle.jhash.specs.Refusals as refused

-- zeros where refused
abbrev pub built_answer : Outcome Made → BuildAnswer
built_answer (value m) = record { refusal = 0; size = m.size; accepted = m.accepted }
built_answer (refusal k) = record { refusal = k; size = 0; accepted = 0 }

unfoldable pub build_answer : ℕ → ℕ → List ℕ → List ℕ → List ℕ → List ℕ → ℕ → BuildAnswer
build_answer mode repeats buffer bytes ends ids places =
    cond (valid_numbers mode repeats)
    (built_answer (building (mode_of mode) (repeats_of repeats) buffer bytes ends ids places))
    (built_answer (refusal refused.unfit))

-- the buffer afterwards
pub record BufferLeft (mode repeats : ℕ) (buffer bytes ends ids : List ℕ) (places : ℕ) (bufferThen : List ℕ) : Type 0
  where
    pub unknown : valid_numbers mode repeats ≡ false → bufferThen ≡ buffer
    pub built : valid_numbers mode repeats ≡ true
        → BufferBuilt (mode_of mode) (repeats_of repeats) buffer bytes ends ids places bufferThen

unfoldable pub answers_built : ℕ → ℕ → List ℕ → List ℕ → List ℕ → List ℕ → List ℕ → List ℕ
answers_built mode repeats buffer bytes ends ids places =
    cond (valid_numbers mode repeats)
    (answers_after (mode_of mode) (repeats_of repeats) buffer bytes ends ids places)
    places

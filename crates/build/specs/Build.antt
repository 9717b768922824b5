-- A whole list in one call: an added call, by the rules of 01, "Whole lists". It is begin, the puts in order and one
-- close.
use Rattle.std.specs.Prelude.{ℕ, ◌<◌, ◌≡◌, cond, ◌||◌, List, [], ◌∷◌, ◌++◌, length, take, drop, ltb}
use Rattle.jhash.specs.Outcome.{Outcome, value, refusal}
use Rattle.image.specs.declared.Mode.{Mode}
use Rattle.image.specs.Image.{head_size, image_size}
use Rattle.image.specs.PackedNames.{names, invalid_ends}
use Rattle.writer.specs.declared.Repeats.{Repeats}
use Rattle.writer.specs.Put.{entry_of}
use Rattle.writer.specs.Close.{closed_size}
use Rattle.lists.specs.Calls.{Call, put, puts}
use Rattle.lists.specs.Demand3.{answers_of, after_list, accepted_puts, image_of}
use Rattle.build.specs.declared.Made.{Made}
use Rattle.jhash.specs.Refusals as refused

-- the puts in order: each name with the id at its place
unfoldable pub calls_of : List (List ℕ) → List ℕ → List Call
calls_of [] ids = []
calls_of (x ∷ xs) [] = []
calls_of (x ∷ xs) (id ∷ ids) = put (entry_of x id) ∷ calls_of xs ids

-- the list of calls that the lent names and ids stand for
abbrev pub listed : List ℕ → List ℕ → List ℕ → List Call
listed bytes ends ids = calls_of (names bytes ends) ids

-- ends that fall or pass the bytes give 14, then a list of ids or of answers that is shorter than the names 15, then a
-- buffer under 2,072 bytes 1. 0: none
unfoldable pub build_refusal : List ℕ → List ℕ → ℕ → ℕ → ℕ → ℕ
build_refusal bytes ends ids places room =
    cond (invalid_ends (length bytes) 0 ends) refused.round_unfit
    (cond (ltb ids (length ends) || ltb places (length ends)) refused.answers_too_few
    (cond (ltb room head_size) refused.too_short 0))

-- the size of the image that one close gives after the list, and the number of accepted puts
unfoldable pub made_of : Mode → Repeats → List ℕ → List Call → Made
made_of mode repeats buffer cs =
    record {
      size = closed_size (after_list mode repeats buffer cs);
      accepted = length (accepted_puts mode repeats buffer cs);
    }

unfoldable pub building : Mode → Repeats → List ℕ → List ℕ → List ℕ → List ℕ → ℕ → Outcome Made
building mode repeats buffer bytes ends ids places =
    cond (ltb 0 (build_refusal bytes ends (length ids) places (length buffer)))
    (refusal (build_refusal bytes ends (length ids) places (length buffer)))
    (value (made_of mode repeats buffer (listed bytes ends ids)))

-- the buffer afterwards. A refused call writes nothing. Otherwise the first bytes are the image of one close after the
-- list, and those from the size of an image of all names on are as they were
pub record BufferBuilt (mode : Mode) (repeats : Repeats) (buffer bytes ends ids : List ℕ) (places : ℕ)
    (bufferThen : List ℕ) : Type 0 where
  pub refused : 0 < build_refusal bytes ends (length ids) places (length buffer) → bufferThen ≡ buffer
  pub imaged : build_refusal bytes ends (length ids) places (length buffer) ≡ 0
      → take (made_of mode repeats buffer (listed bytes ends ids)).size bufferThen
      ≡ image_of mode repeats buffer (listed bytes ends ids)
  pub behind : build_refusal bytes ends (length ids) places (length buffer) ≡ 0
      → drop (image_size mode (puts (listed bytes ends ids))) bufferThen
      ≡ drop (image_size mode (puts (listed bytes ends ids))) buffer

-- the answers afterwards: the number of each put's refusal; places behind keep their content
unfoldable pub answers_after : Mode → Repeats → List ℕ → List ℕ → List ℕ → List ℕ → List ℕ
    → List ℕ
answers_after mode repeats buffer bytes ends ids places =
    cond (ltb 0 (build_refusal bytes ends (length ids) (length places) (length buffer))) places
    (answers_of mode repeats buffer (listed bytes ends ids) ++ drop (length ends) places)

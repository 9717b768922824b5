-- What is proved of a whole list besides the call's promise (`build_holds` in proofs/Theorem). No definition here
-- speaks of the scratch memory: the answers, the size and the bytes do not depend on it.
use Rattle.std.specs.Prelude.{ℕ, ◌≤◌, ◌≡◌, List, length}
use Rattle.jhash.specs.Outcome.{refusal}
use Rattle.image.specs.declared.Mode.{Mode}
use Rattle.image.specs.Image.{head_size, image_size}
use Rattle.writer.specs.declared.Repeats.{Repeats}
use Rattle.lists.specs.Calls.{puts, WordIds}
use Rattle.lists.specs.Demand3.{CallsAnswered, OneList}
use Rattle.image.specs.PackedNames.{packed_bytes}
use Rattle.build.specs.Build.{calls_of, listed, building, BufferBuilt, answers_after}
use Rattle.build.specs.Needs.{at_most, bytes_needed}

pub record BuildHolds : Type 0 where
  -- the image, which the promise says is that of a list of calls, its puts in order, is that of 01's rules: all of
  -- demand 3 holds of it, and in either mode what 01 says of each call's answer, the size and the image
  pub demand3 : (repeats : Repeats) (buffer bytes ends ids : List ℕ) → head_size ≤ length buffer
      → OneList repeats buffer (listed bytes ends ids)
  pub answered : (mode : Mode) (repeats : Repeats) (buffer bytes ends ids : List ℕ) → head_size ≤ length buffer
      → WordIds mode (listed bytes ends ids)
      → CallsAnswered mode repeats buffer (listed bytes ends ids)
  -- a refusal writes nothing
  pub refused_kept : (mode : Mode) (repeats : Repeats) (buffer bytes ends ids places bufferThen : List ℕ) (k : ℕ)
      → building mode repeats buffer bytes ends ids (length places) ≡ refusal k
      → BufferBuilt mode repeats buffer bytes ends ids (length places) bufferThen
      → (bufferThen ≡ buffer) × (answers_after mode repeats buffer bytes ends ids places ≡ places)
  -- what is kept behind it: the size of an image of all names is what build_needs says
  pub kept_from : (mode : Mode) (xs : List (List ℕ)) (ids : List ℕ) → length xs ≡ length ids
      → bytes_needed mode (length (packed_bytes xs)) ids ≡ at_most (image_size mode (puts (calls_of xs ids)))

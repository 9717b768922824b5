-- What reading leaves: there is an input, and what the program leaves is what the rule of 01, "Examples from the quay",
-- leaves of that input. Where the bytes of a reader are known, a contract names them, and they are the input.
use Rattle.std.specs.Prelude.{ℕ, ◌≡◌, List, length, take}
use Rattle.image.specs.declared.Mode.TheVariants.{Twoway}
use Rattle.image.specs.Image.{Entry, image}
use Rattle.writer.specs.declared.Repeats.TheVariants.{Off}
use Rattle.writer.specs.State.{State}
use Rattle.lists.specs.Calls.{accepted, size_of}
use Rattle.catalogue.specs.Lines.{input_calls, after_input}

-- the puts of an input that are accepted two-way in a buffer of n bytes, in their order; the demonstration program
-- begins without the repeats mode (02 (viii)), so a line with a name that was put before is skipped
unfoldable pub puts_of : ℕ → List ℕ → List Entry
puts_of n input = accepted Twoway Off n (input_calls input)

-- what putting an input leaves of a writer record and its buffer
pub record Left (before after : State) : Type 0 where
  pub input : List ℕ
  pub left : after ≡ after_input before input

-- entries and size of the image of an input, which is the first bytes of a buffer of n bytes
pub record Built (n entries size : ℕ) (buffer : List ℕ) : Type 0 where
  pub input : List ℕ
  pub counted : entries ≡ length (puts_of n input)
  pub sized : size ≡ size_of Twoway (puts_of n input)
  pub imaged : take size buffer ≡ image Twoway (puts_of n input)

-- entries and size of the image of this input, which is the first bytes of a buffer of n bytes
pub record IsBuiltOf (n : ℕ) (input : List ℕ) (entries size : ℕ) (buffer : List ℕ) : Type 0 where
  pub counted : entries ≡ length (puts_of n input)
  pub sized : size ≡ size_of Twoway (puts_of n input)
  pub imaged : take size buffer ≡ image Twoway (puts_of n input)

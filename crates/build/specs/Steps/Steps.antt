-- What the functions behind a whole list ask and give. No rule stands here: proofs/ joins it to the rules.
use Rattle.std.specs.Prelude.{ℕ, ◌/◌, ◌≤◌, ◌<◌, ◌≡◌, List, ◌++◌, length, get_or, take, drop, Option, None, IfSome}
use Rattle.jhash.specs.Outcome.{value}
use Rattle.image.specs.Image.{Entry, head_size, image_size}
use Rattle.image.specs.declared.Mode.{Mode}
use Rattle.writer.specs.declared.CQDBWriter.{CQDBWriter}
use Rattle.writer.specs.declared.Repeats.{Repeats}
use Rattle.writer.specs.State.{State, state_with, fresh}
use Rattle.writer.specs.Put.{put_refusal, after_put}
use Rattle.writer.specs.Close.{close_refusal, closed_size, after_close}
use Rattle.lists.specs.Calls.{puts}
use Rattle.lists.specs.Demand3.{answers_of, after_list, image_of}
use Rattle.index.specs.Index.{slot_count, Right}
use Rattle.build.specs.declared.Made.{Made}
use Rattle.build.specs.Build.{calls_of, listed, building, answers_after}
use Rattle.build.specs.Steps.Capacity.{Capacity}

-- the entries of names and ids, where every name is accepted
abbrev pub entries_listed : List (List ℕ) → List ℕ → List Entry
entries_listed xs ids = puts (calls_of xs ids)

-- a list that is not refused as a whole, beside its packed names
pub record ListPre (buffer ends ids refusals : List ℕ) : Type 0 where
  pub ids_long : length ends ≤ length ids
  pub refusals_long : length ends ≤ length refusals
  pub head_fits : head_size ≤ length buffer

-- the bytes from the size of an image of all names on are as they were
abbrev pub KeptBehind : Mode → List ℕ → List ℕ → List ℕ → List ℕ → List ℕ → Type 0
KeptBehind mode bytes ends ids buffer bufferThen =
    drop (image_size mode (puts (listed bytes ends ids))) bufferThen
    ≡ drop (image_size mode (puts (listed bytes ends ids))) buffer

-- the call's promise: what it gives, and the buffer and the refusals afterwards
pub record ListBuilt (mode : Mode) (repeats : Repeats) (buffer bytes ends ids refusals : List ℕ)
    (made : Made) (bufferThen refusalsThen : List ℕ) : Type 0 where
  pub gives : value made ≡ building mode repeats buffer bytes ends ids (length refusals)
  pub imaged : take (closed_size (after_list mode repeats buffer (listed bytes ends ids))) bufferThen
      ≡ image_of mode repeats buffer (listed bytes ends ids)
  pub behind : KeptBehind mode bytes ends ids buffer bufferThen
  pub answers : refusalsThen ≡ answers_after mode repeats buffer bytes ends ids refusals

-- a list that the direct path is tried for
pub record DirectPre (mode : Mode) (buffer ends ids refusals : List ℕ) : Type 0 where
  pub list : ListPre buffer ends ids refusals
  pub capacity : Capacity mode ends ids (length buffer)

-- the direct path: the image of all names, or none
pub record DirectTried (mode : Mode) (repeats : Repeats) (buffer bytes ends ids refusals : List ℕ)
    (made : Option Made) (bufferThen refusalsThen : List ℕ) : Type 0 where
  pub built : IfSome made
      (λ (m : Made). ListBuilt mode repeats buffer bytes ends ids refusals m bufferThen refusalsThen)
  pub behind : KeptBehind mode bytes ends ids buffer bufferThen
  pub rest : made ≡ None → drop (length ends) refusalsThen ≡ drop (length ends) refusals

-- how many words of the scratch memory are the index of n names: none, or at least a slot for each name
pub record ScratchForIndex (n words r : ℕ) : Type 0 where
  pub within : r ≤ words
  pub enough : 0 < r → n ≤ r / 2

-- where there is an index, it is right, and a slot is empty
pub record PutPre (s : State) (slots : List ℕ) : Type 0 where
  pub index : 0 < length slots → Right s slots
  pub spare : 0 < length slots → s.writer.entries < slot_count slots

-- by either way the put of the rules
pub record PutPost (s : State) (slots : List ℕ) (e : Entry) (refusal : ℕ) (then : State) (slotsThen : List ℕ) : Type 0
  where
    pub answer : refusal ≡ put_refusal s e
    pub leaves : then ≡ after_put s e
    pub index : 0 < length slots → Right then slotsThen

-- the puts of a list by a fresh record; the slots are empty
pub record PutListPre (w : CQDBWriter) (counts buffer slots ends ids refusals : List ℕ) : Type 0 where
  pub list : ListPre buffer ends ids refusals
  pub begun : state_with w counts buffer ≡ fresh w.mode w.repeats buffer
  pub cleared : (i : ℕ) → get_or slots i 0 ≡ 0
  pub enough : 0 < length slots → length ends ≤ slot_count slots

pub record PutListPost (w : CQDBWriter) (buffer bytes ends ids refusals : List ℕ) (then : State) (refusalsThen : List ℕ)
    : Type 0 where
  pub leaves : then ≡ after_list w.mode w.repeats buffer (listed bytes ends ids)
  pub answers : refusalsThen
      ≡ answers_of w.mode w.repeats buffer (listed bytes ends ids) ++ drop (length ends) refusals

-- a close is known to be accepted
pub record FinishPre (s : State) : Type 0 where
  pub closes : close_refusal s ≡ 0

-- and leaves this
pub record Finished (s : State) (made : Made) (bufferThen : List ℕ) : Type 0 where
  pub size : made.size ≡ closed_size s
  pub accepted : made.accepted ≡ s.writer.entries
  pub leaves : bufferThen ≡ (after_close s).buffer

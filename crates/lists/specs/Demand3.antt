-- Demand 3, and 01, "Whole lists (demand 3)": what holds of every list of put and close calls from a fresh two-way
-- writer on one buffer, whatever its bytes, with either choice of 02 (viii), repeats off or on.
--
-- It is stated by the definitions in which the public functions make their promises: `beginning` and `counts_begun` of
-- begin, `put_refusal` and `after_put` of put, `closing` and `after_close` of close, `opening` of open, `lookup` of
-- to_id,
-- `naming` of to_str. The theorem is `demand3` in proofs/Theorem.
use Rattle.std.specs.Prelude.{ℕ, ◌+◌, ◌≤◌, ◌≡◌, ◌↔◌, List, [], length}
use Rattle.std.proofs.Math.Option.{none, some}
use Rattle.jhash.specs.Outcome.{value}
use Rattle.image.specs.declared.Mode.{Mode}
use Rattle.image.specs.declared.Mode.TheVariants.{Twoway}
use Rattle.image.specs.Image.{Entry, head_size, image}
use Rattle.reader.specs.Open.{opening}
use Rattle.reader.specs.Lookup.{lookup}
use Rattle.lookup_laws.specs.Answer.{found_id, name_given, of_name, of_id, table_puts, first_id, last_name}
use Rattle.reader.specs.Cases.{reads}
use Rattle.writer.specs.declared.Repeats.{Repeats}
use Rattle.writer.specs.State.{State, fresh, beginning, counts_begun}
use Rattle.writer.specs.Close.{closing, closed_size, closed_image}
use Rattle.lists.specs.Calls.{Call, after, answers, accepted_by, accepted, due, size_of, AllPermitted}

-- ---- what a list of calls leaves

-- A list starts from the record of an accepted begin and that begin's buffer. The answers of its calls:
abbrev pub answers_of : Mode → Repeats → List ℕ → List Call → List ℕ
answers_of mode repeats buffer cs = answers (fresh mode repeats buffer) cs

-- The record and the buffer after them.
abbrev pub after_list : Mode → Repeats → List ℕ → List Call → State
after_list mode repeats buffer cs = after (fresh mode repeats buffer) cs

-- Its accepted puts: those whose answer is no refusal.
unfoldable pub accepted_puts : Mode → Repeats → List ℕ → List Call → List Entry
accepted_puts mode repeats buffer cs = accepted_by cs (answers_of mode repeats buffer cs)

-- The image of one more close: the buffer's first bytes after it, as many as the size that it gives.
unfoldable pub image_of : Mode → Repeats → List ℕ → List Call → List ℕ
image_of mode repeats buffer cs = closed_image (after_list mode repeats buffer cs)

-- ---- one list: its calls and the one more close

pub record CallsAnswered (mode : Mode) (repeats : Repeats) (buffer : List ℕ) (cs : List Call) : Type 0 where
  -- Begin gives a fresh writer for this buffer: the record, and the table counts in what was lent for them.
  pub begins : beginning mode repeats (length buffer) ≡ value (fresh mode repeats buffer).writer
  pub begins_counts : (lent : List ℕ) → counts_begun (length buffer) lent ≡ (fresh mode repeats buffer).counts
  -- Each call is refused exactly when 01 and 02 say: by the choices at begin, the buffer's length and the calls alone.
  pub answered : answers_of mode repeats buffer cs ≡ due mode repeats (length buffer) cs
  pub decided : accepted_puts mode repeats buffer cs ≡ accepted mode repeats (length buffer) cs
  -- No call is refused with 2 or 4, and no close is refused.
  pub permitted : AllPermitted cs (answers_of mode repeats buffer cs)
  -- One more close is accepted, and gives the size of 01's formula.
  pub closes : closing (after_list mode repeats buffer cs) ≡ value (closed_size (after_list mode repeats buffer cs))
  pub sized : closed_size (after_list mode repeats buffer cs) ≡ size_of mode (accepted_puts mode repeats buffer cs)
  -- Its image is the one that 01's rules give for the accepted puts.
  pub imaged : image_of mode repeats buffer cs ≡ image mode (accepted_puts mode repeats buffer cs)

-- ---- one list: reading its image, where es are the accepted puts

pub record NamesAnswered (es : List Entry) (img : List ℕ) : Type 0 where
  -- The reader opens it, and num is the number of the accepted puts: it cannot wrap.
  pub opened : opening img ≡ value (length es)
  -- Each name gives the id of its first accepted put, and nothing exactly when no accepted put has it.
  pub name_gives : (name : List ℕ) → found_id (lookup img name) ≡ first_id (of_name name es)
  pub name_nothing : (name : List ℕ) → (found_id (lookup img name) ≡ none) ↔ (of_name name es ≡ [])
  -- A lookup reads at most one bucket more than its name's table has accepted puts.
  pub bounded : (name : List ℕ) → reads (lookup img name) ≤ table_puts name es + 1
  -- A lookup that finds reads at most as many; a lookup of a name too long for a hash reads none.
  pub found_bounded : (name : List ℕ) (id : ℕ) → found_id (lookup img name) ≡ some id
      → reads (lookup img name) ≤ table_puts name es
  pub long_unread : (name : List ℕ) → 4294967295 ≤ length name → reads (lookup img name) ≡ 0

pub record IdsAnswered (es : List Entry) (img : List ℕ) : Type 0 where
  -- Each id gives the name of its last accepted put, and nothing exactly when no accepted put has it.
  pub id_gives : (id : ℕ) → name_given img id ≡ last_name (of_id id es)
  pub id_nothing : (id : ℕ) → (name_given img id ≡ none) ↔ (of_id id es ≡ [])

-- ---- demand 3

-- What it says of one list.
pub record OneList (repeats : Repeats) (buffer : List ℕ) (cs : List Call) : Type 0 where
  pub calls : CallsAnswered Twoway repeats buffer cs
  pub names : NamesAnswered (accepted_puts Twoway repeats buffer cs) (image_of Twoway repeats buffer cs)
  pub ids : IdsAnswered (accepted_puts Twoway repeats buffer cs) (image_of Twoway repeats buffer cs)

-- What it says of two lists, whatever their choices, their buffers and whatever else they put. Only the found id, the
-- bytes of the name, or nothing, are compared.
pub record TwoLists
    (repeats₁ : Repeats) (buffer₁ : List ℕ) (cs₁ : List Call)
    (repeats₂ : Repeats) (buffer₂ : List ℕ) (cs₂ : List Call) : Type 0 where
  -- With the same accepted puts of one name, in the same order, both images answer that name alike.
  pub alike_name : (name : List ℕ)
      → of_name name (accepted_puts Twoway repeats₁ buffer₁ cs₁)
      ≡ of_name name (accepted_puts Twoway repeats₂ buffer₂ cs₂)
      → found_id (lookup (image_of Twoway repeats₁ buffer₁ cs₁) name)
      ≡ found_id (lookup (image_of Twoway repeats₂ buffer₂ cs₂) name)
  -- With the same accepted puts of one id, in the same order, both give it the same name or nothing.
  pub alike_id : (id : ℕ)
      → of_id id (accepted_puts Twoway repeats₁ buffer₁ cs₁)
      ≡ of_id id (accepted_puts Twoway repeats₂ buffer₂ cs₂)
      → name_given (image_of Twoway repeats₁ buffer₁ cs₁) id
      ≡ name_given (image_of Twoway repeats₂ buffer₂ cs₂) id

-- For every list, and every two, on buffers of 2,072 bytes or more.
pub record Demand3 : Type 0 where
  pub one_list : (repeats : Repeats) (buffer : List ℕ) (cs : List Call) → head_size ≤ length buffer
      → OneList repeats buffer cs
  pub two_lists : (repeats₁ : Repeats) (buffer₁ : List ℕ) (cs₁ : List Call)
      → (repeats₂ : Repeats) (buffer₂ : List ℕ) (cs₂ : List Call)
      → head_size ≤ length buffer₁ → head_size ≤ length buffer₂
      → TwoLists repeats₁ buffer₁ cs₁ repeats₂ buffer₂ cs₂

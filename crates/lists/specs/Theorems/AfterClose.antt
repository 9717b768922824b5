-- Reading from a close to the next put. An accepted put writes its entry where the last close had put its tables:
-- until the next close the buffer is no image, though open may still accept it. Demand 3 speaks of the image after
-- the one more close; this says what a careful caller relies on, who reads the buffer between a close of the list and
-- the next put.
use Rattle.std.specs.Prelude.{ℕ, ◌-◌, ◌≤◌, ◌≡◌, List, [], ◌∷◌, ◌++◌, length, take}
use Rattle.std.proofs.Math.Option.{map, get_or}
use Rattle.jhash.specs.Outcome.{value}
use Rattle.image.specs.declared.Mode.TheVariants.{Twoway}
use Rattle.image.specs.Image.{Entry, head_size, back_size, image}
use Rattle.reader.specs.Slices.{Slice}
use Rattle.reader.specs.Naming.{name_or}
use Rattle.reader.specs.IdWalk.{step, upper_hint}
use Rattle.consistency.specs.Home.{home}
use Rattle.lookup_laws.specs.Answer.{step_given, of_id, last_name, home_in}
use Rattle.writer.specs.declared.Repeats.{Repeats}
use Rattle.writer.specs.Put.{entry_of}
use Rattle.writer.specs.Close.{closing}
use Rattle.lists.specs.Calls.{Call, close}
use Rattle.lists.specs.Demand3.{after_list, accepted_puts, NamesAnswered, IdsAnswered}

-- ---- every reading call, by entries

-- lent these bytes, each reading call of a two-way image answers by the accepted puts es
pub record ReadingAnswered (es : List Entry) (img : List ℕ) : Type 0 where
  -- open and to_id; to_str
  pub names : NamesAnswered es img
  pub ids : IdsAnswered es img
  -- name_or, and name, where the caller's own bytes are none: the bytes of the id's name, or the caller's own
  pub slice_given : (at : ℕ × ℕ) (id : ℕ) (other : Slice)
      → (name_or (record { at = at; bytes = img }) id other).bytes
      ≡ get_or (last_name (of_id id es)) other.bytes
  -- next: a walk whose next id is this one gives it and its name, and ends where it has none
  pub walked : (id : ℕ)
      → step_given img (step img id) ≡ map (λ (name : List ℕ). entry_of name id) (last_name (of_id id es))
  -- size_hint: back size minus the next id
  pub hinted : (id : ℕ) → upper_hint img id ≡ back_size es - id
  -- home
  pub homes : (id : ℕ) → home img id ≡ home_in es id

-- ---- a list of calls whose last is a close, which gave this size

pub record AfterClose (repeats : Repeats) (buffer : List ℕ) (cs : List Call) (size : ℕ) : Type 0 where
  -- the close accepts no put: the accepted puts so far are those of cs
  pub same_puts : accepted_puts Twoway repeats buffer (cs ++ (close ∷ [])) ≡ accepted_puts Twoway repeats buffer cs
  -- the buffer's first bytes as they stand, as many as this size, are the image that 01's rules give for them
  pub stands : take size (after_list Twoway repeats buffer (cs ++ (close ∷ []))).buffer
      ≡ image Twoway (accepted_puts Twoway repeats buffer cs)
  -- lent these bytes, each reading call answers by them
  pub answered : ReadingAnswered (accepted_puts Twoway repeats buffer cs)
      (take size (after_list Twoway repeats buffer (cs ++ (close ∷ []))).buffer)

-- for every list on a buffer of 2,072 bytes or more
pub record CloseReadable : Type 0 where
  pub after_close_lem : (repeats : Repeats) (buffer : List ℕ) (cs : List Call) (size : ℕ) → head_size ≤ length buffer
      → closing (after_list Twoway repeats buffer cs) ≡ value size
      → AfterClose repeats buffer cs size
  -- calls of which no put is accepted, so refused puts and further closes, change neither record nor buffer
  pub kept : (repeats : Repeats) (buffer : List ℕ) (cs more : List Call) → head_size ≤ length buffer
      → accepted_puts Twoway repeats buffer (cs ++ (close ∷ more)) ≡ accepted_puts Twoway repeats buffer cs
      → after_list Twoway repeats buffer (cs ++ (close ∷ more))
      ≡ after_list Twoway repeats buffer (cs ++ (close ∷ []))
  -- whatever calls follow it, a put above all: after one more close the answers are by the accepted puts until then
  pub repaired : (repeats : Repeats) (buffer : List ℕ) (cs more : List Call) (size : ℕ)
      → head_size ≤ length buffer
      → closing (after_list Twoway repeats buffer (cs ++ (close ∷ more))) ≡ value size
      → AfterClose repeats buffer (cs ++ (close ∷ more)) size

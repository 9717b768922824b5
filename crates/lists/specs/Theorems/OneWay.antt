-- One-way lists: what holds of every list of put and close calls from a fresh one-way writer, with repeats off or on
-- (02 (viii)). It is what demand 3 says of two-way ones; but a one-way image has no back array, so no id gives a name
-- there.
use Rattle.std.specs.Prelude.{ℕ, ◌≤◌, ◌≡◌, false, List, length}
use Rattle.image.specs.declared.Mode.TheVariants.{Oneway}
use Rattle.image.specs.Image.{head_size}
use Rattle.reader.specs.Lookup.{lookup}
use Rattle.reader.specs.Naming.{unnamed, naming}
use Rattle.reader.specs.IdWalk.{done, step, upper_hint}
use Rattle.consistency.specs.Home.{home}
use Rattle.lookup_laws.specs.Answer.{found_id, of_name}
use Rattle.writer.specs.declared.Repeats.{Repeats}
use Rattle.lists.specs.Calls.{Call, WordIds}
use Rattle.lists.specs.Demand3.{accepted_puts, image_of, CallsAnswered, NamesAnswered}

-- naming, walking and home find nothing
pub record IdsUnanswered (img : List ℕ) : Type 0 where
  pub id_unnamed : (id : ℕ) → naming img id ≡ unnamed
  pub walk_ended : (id : ℕ) → step img id ≡ done
  pub none_hinted : (id : ℕ) → upper_hint img id ≡ 0
  pub none_home : (id : ℕ) → home img id ≡ false

pub record OneWayList (repeats : Repeats) (buffer : List ℕ) (cs : List Call) : Type 0 where
  pub calls : CallsAnswered Oneway repeats buffer cs
  pub names : NamesAnswered (accepted_puts Oneway repeats buffer cs) (image_of Oneway repeats buffer cs)
  pub ids : IdsUnanswered (image_of Oneway repeats buffer cs)

-- for every list, and every two, on buffers of 2,072 bytes or more
pub record OneWay : Type 0 where
  pub one_list : (repeats : Repeats) (buffer : List ℕ) (cs : List Call) → head_size ≤ length buffer
      → WordIds Oneway cs → OneWayList repeats buffer cs
  -- with the same accepted puts of one name, in the same order, both images answer that name alike
  pub alike_name : (repeats₁ : Repeats) (buffer₁ : List ℕ) (cs₁ : List Call)
      → (repeats₂ : Repeats) (buffer₂ : List ℕ) (cs₂ : List Call)
      → head_size ≤ length buffer₁ → head_size ≤ length buffer₂ → WordIds Oneway cs₁
      → WordIds Oneway cs₂
      → (name : List ℕ)
      → of_name name (accepted_puts Oneway repeats₁ buffer₁ cs₁)
      ≡ of_name name (accepted_puts Oneway repeats₂ buffer₂ cs₂)
      → found_id (lookup (image_of Oneway repeats₁ buffer₁ cs₁) name)
      ≡ found_id (lookup (image_of Oneway repeats₂ buffer₂ cs₂) name)

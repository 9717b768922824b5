-- What is proved of preflight (`leaves` in proofs/Theorem), for all bytes.
use Rattle.std.specs.Prelude.{ℕ, ◌≤◌, ◌≡◌, ◌↔◌, ◌⊎◌, List, [], length}
use Rattle.std.proofs.Math.Option.{none, some}
use Rattle.jhash.specs.Outcome.{value}
use Rattle.jhash.specs.Word.{AllBytes}
use Rattle.image.specs.declared.Mode.TheVariants.{Twoway}
use Rattle.image.specs.Image.{Entry, head_size, back_size}
use Rattle.reader.specs.Naming.{name_given}
use Rattle.sheet.specs.SheetReading.{read_lists}
use Rattle.lookup_laws.specs.Answer.{of_id, last_name}
use Rattle.writer.specs.declared.Repeats.{Repeats}
use Rattle.lists.specs.Calls.{Call, WordIds}
use Rattle.lists.specs.Demand3.{accepted_puts, image_of}
use Rattle.one_to_one.specs.OneToOne.{one_to_one}
use Rattle.preflight.specs.Names.{Names}
use Rattle.preflight.specs.OnSheet.{of_sheet}
use Rattle.preflight.specs.Verdicts.{and_then, of_round, of_names}
use Rattle.preflight.specs.Counts.{compared_in, added_in, unsighted_in}
use Rattle.preflight.specs.Preflight.{answer_of, preflight_first, preflight}
use Rattle.preflight.specs.Answers.Answer.{Answer}
use Rattle.preflight.specs.Answers.Verdict.{Verdict}
use Rattle.preflight.specs.Answers.Verdict.{Yes, NewRefused, OldRefused, NothingAlike}
use Rattle.preflight.specs.Theorems.Asked.{In, Whole, SomeAlike, MayLeaveFirst, MayLeave, Exchanged, Cycle}
use Rattle.preflight.specs.Theorems.Asked.{OneIdEach, Fresh}

-- an old and a new image, a sheet, a round and the intended renames, for which the answer is yes
abbrev pub Leaves : List ℕ → List ℕ → List ℕ → List ℕ → List ℕ → Type 0
Leaves old new sheet round accepted = (preflight old new sheet round accepted).verdict ≡ Yes

-- ---- by puts alone: an id has the name of its last put

abbrev pub names_of : List Entry → Names
names_of puts id = last_name (of_id id puts)

abbrev pub verdict_by_puts : List Entry → List Entry → List ℕ → List ℕ → List ℕ → Verdict
verdict_by_puts old new sheet round accepted =
    and_then (and_then (of_sheet (read_lists sheet) round) (of_round (names_of new) round))
    (of_names (names_of old) (names_of new) (back_size old) round accepted)

abbrev pub by_puts : List Entry → List Entry → List ℕ → List ℕ → List ℕ → Answer
by_puts old new sheet round accepted =
    answer_of (verdict_by_puts old new sheet round accepted) (compared_in (names_of old) round)
    (added_in (names_of old) round) (unsighted_in (read_lists sheet) round)

pub record Preflight : Type 0 where
  pub yes_exactly : (old new sheet round accepted : List ℕ)
      → Leaves old new sheet round accepted ↔ MayLeave old new sheet round accepted
  pub first_exactly : (new sheet round : List ℕ)
      → ((preflight_first new sheet round).verdict ≡ Yes) ↔ MayLeaveFirst new sheet round
  -- a sighting of i now is subtracted from one of j then only where the new catalogue lists j under that name, too
  pub no_false_movement : (old new sheet round accepted : List ℕ) (i j : ℕ) (name : List ℕ)
      → Leaves old new sheet round accepted → In i round
      → name_given old j ≡ some name → name_given new i ≡ some name → name_given new j ≡ some name
  -- so where the new image is one to one, j is i
  pub no_false_movement_one : (old new sheet round accepted : List ℕ) (i j : ℕ) (name : List ℕ)
      → AllBytes new → one_to_one new ≡ value none → Leaves old new sheet round accepted → In i round
      → name_given old j ≡ some name → name_given new i ≡ some name → i ≡ j
  pub one_sighting_one_name : (old new sheet round accepted : List ℕ) (i k : ℕ)
      → Leaves old new sheet round accepted → In i round → In k round
      → name_given new i ≡ name_given new k → i ≡ k
  -- a swap, a cycle of any length and a name that went to another id are found, whatever is accepted
  pub swap_found : (old new sheet round accepted : List ℕ) (i j : ℕ)
      → In i round → Exchanged old new i j → ¬ Leaves old new sheet round accepted
  pub cycle_found : (old new sheet round accepted : List ℕ) (c : ℕ → ℕ) (n sighted k l : ℕ)
      → Cycle old new c n → In (c sighted) round → ¬ (name_given old (c k) ≡ name_given old (c l))
      → ¬ Leaves old new sheet round accepted
  pub taken_found : (old new sheet round accepted : List ℕ) (i j : ℕ) (name : List ℕ)
      → In i round → name_given old j ≡ some name → name_given new i ≡ some name → ¬ (name_given new j ≡ some name)
      → ¬ Leaves old new sheet round accepted
  -- bytes that no two-way puts make, such as none at all, are no catalogue to compare or to name by; nor is one of
  -- another harbour a catalogue to compare with
  pub new_refused : (old new sheet round accepted : List ℕ) → ¬ Whole new
      → (preflight old new sheet round accepted).verdict ≡ NewRefused
  pub old_refused : (old new sheet round accepted : List ℕ) → MayLeaveFirst new sheet round → ¬ Whole old
      → (preflight old new sheet round accepted).verdict ≡ OldRefused
  pub nothing_alike : (old new sheet round accepted : List ℕ) → MayLeaveFirst new sheet round → Whole old
      → ¬ SomeAlike old new → (preflight old new sheet round accepted).verdict ≡ NothingAlike
  pub no_bytes : ¬ Whole []
  -- what is in order is not held back. A catalogue that did not change
  pub same_leaves : (image sheet round accepted : List ℕ)
      → MayLeaveFirst image sheet round → Leaves image image sheet round accepted
  -- one that only gained entries: a renewed prism beside the old one, a retired one that keeps its name, a new one
  pub gained_leaves : (old new sheet round accepted : List ℕ)
      → Whole old → MayLeaveFirst new sheet round
      → ((id : ℕ) (name : List ℕ) → name_given old id ≡ some name → name_given new id ≡ some name)
      → ((id : ℕ) × (name : List ℕ) × (name_given old id ≡ some name))
      → Leaves old new sheet round accepted
  -- accepted renames: each sighted id has its old name, or one that nobody had, where it had none or is accepted. Of
  -- ids that are not sighted nothing is asked
  pub renames_leave : (old new sheet round accepted : List ℕ)
      → Whole old → OneIdEach old → MayLeaveFirst new sheet round → SomeAlike old new
      → ((i : ℕ) (name : List ℕ) → In i round → name_given new i ≡ some name
      → (name_given old i ≡ some name) ⊎ (((name_given old i ≡ none) ⊎ In i accepted) × Fresh old name))
      → Leaves old new sheet round accepted
  -- for the images of two lists of calls (demand 3) the whole answer follows from their accepted puts
  pub of_lists : (repeats₁ repeats₂ : Repeats) (buffer₁ buffer₂ : List ℕ) (cs₁ cs₂ : List Call)
      → head_size ≤ length buffer₁ → head_size ≤ length buffer₂ → WordIds Twoway cs₁ → WordIds Twoway cs₂
      → (sheet round accepted : List ℕ)
      → preflight (image_of Twoway repeats₁ buffer₁ cs₁) (image_of Twoway repeats₂ buffer₂ cs₂) sheet round accepted
      ≡ by_puts (accepted_puts Twoway repeats₁ buffer₁ cs₁) (accepted_puts Twoway repeats₂ buffer₂ cs₂)
      sheet round accepted

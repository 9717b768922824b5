-- Lists of calls with repeats off, in either mode: 02 (viii). A writer refuses a name that it already has, and refused
-- repeats are no accepted puts.
use Rattle.std.specs.Prelude.{ℕ, ◌≤◌, ◌≡◌, ◌↔◌, List, [], ◌∷◌, length}
use Rattle.std.proofs.Math.Option.{some}
use Rattle.image.specs.declared.Mode.{Mode}
use Rattle.image.specs.Image.{head_size}
use Rattle.reader.specs.Lookup.{lookup}
use Rattle.lookup_laws.specs.Answer.{found_id, of_name}
use Rattle.writer.specs.declared.Repeats.{Repeats}
use Rattle.writer.specs.declared.Repeats.TheVariants.{Off}
use Rattle.writer.specs.Put.{entry_of}
use Rattle.lists.specs.Calls.{Call, put_all, WordIds}
use Rattle.lists.specs.Demand3.{accepted_puts, image_of}

-- what is said of one list with repeats off
pub record ListOff (mode : Mode) (buffer : List ℕ) (cs : List Call) : Type 0 where
  -- each name has at most one accepted put
  pub put_once : (name : List ℕ) → length (of_name name (accepted_puts mode Off buffer cs)) ≤ 1
  -- so a lookup gives that put's id: a name gives an id exactly when its only accepted put has it
  pub own_id : (name : List ℕ) (id : ℕ)
      → (found_id (lookup (image_of mode Off buffer cs) name) ≡ some id)
      ↔ (of_name name (accepted_puts mode Off buffer cs) ≡ entry_of name id ∷ [])
  -- its accepted puts alone, with either choice in the same buffer, are all accepted again and make the same image
  pub puts_again : (repeats : Repeats)
      → accepted_puts mode repeats buffer (put_all (accepted_puts mode Off buffer cs))
      ≡ accepted_puts mode Off buffer cs
  pub image_again : (repeats : Repeats)
      → image_of mode repeats buffer (put_all (accepted_puts mode Off buffer cs)) ≡ image_of mode Off buffer cs

-- for every list on a buffer of 2,072 bytes or more; and lists of either choice with the same accepted puts make the
-- same image
pub record RepeatsOff : Type 0 where
  pub list_off : (mode : Mode) (buffer : List ℕ) (cs : List Call) → head_size ≤ length buffer → WordIds mode cs
      → ListOff mode buffer cs
  pub same_image : (mode : Mode) (repeats₁ : Repeats) (buffer₁ : List ℕ) (cs₁ : List Call)
      → (repeats₂ : Repeats) (buffer₂ : List ℕ) (cs₂ : List Call)
      → head_size ≤ length buffer₁ → head_size ≤ length buffer₂ → WordIds mode cs₁ → WordIds mode cs₂
      → accepted_puts mode repeats₁ buffer₁ cs₁ ≡ accepted_puts mode repeats₂ buffer₂ cs₂
      → image_of mode repeats₁ buffer₁ cs₁ ≡ image_of mode repeats₂ buffer₂ cs₂

-- When `moved` finds names that two ids exchanged (`exchanges` in proofs/Exchanges). The old image may be any bytes; no
-- name of the new one has two ids. With repeated names an exchange may be missed (examples/MissedExchange).
use Rattle.std.specs.Prelude.{ℕ, ◌≤◌, ◌≡◌, ◌↔◌, true, List, length}
use Rattle.std.proofs.Math.Option.{none, some}
use Rattle.jhash.specs.Outcome.{value}
use Rattle.jhash.specs.Word.{AllBytes}
use Rattle.image.specs.Image.{head_size}
use Rattle.image.specs.declared.Mode.{Mode}
use Rattle.image.specs.declared.Mode.TheVariants.{Twoway}
use Rattle.reader.specs.Naming.{name_given}
use Rattle.changes.specs.Moves.{moved}
use Rattle.writer.specs.declared.Repeats.TheVariants.{Off}
use Rattle.lists.specs.Calls.{Call, WordIds}
use Rattle.lists.specs.Demand3.{image_of}
use Rattle.canonical.specs.Canonical.{canonical, puts_in, mode_in}
use Rattle.one_to_one.specs.OneToOne.{one_to_one}
use Rattle.one_to_one.specs.Theorems.Theorem.{OneId}

-- the new image names `other` as the old one names `id`, another id
pub record HasOldName (old new : List ℕ) (id other : ℕ) : Type 0 where
  pub name : List ℕ
  pub old_name : name_given old id ≡ some name
  pub new_name : name_given new other ≡ some name
  pub another : ¬ (other ≡ id)

-- two ids exchanged their names
pub record Exchanged (old new : List ℕ) (i j : ℕ) : Type 0 where
  pub first : HasOldName old new i j
  pub second : HasOldName old new j i

-- every exchange is found, of both ids
abbrev pub BothFound : List ℕ → List ℕ → Type 0
BothFound old new = (i j : ℕ) → Exchanged old new i j → (moved old new i ≡ some j) × (moved old new j ≡ some i)

pub record ExchangesFound : Type 0 where
  -- where the new image is one to one
  pub one_to_one_lem : (old new : List ℕ) → AllBytes new → one_to_one new ≡ value none → BothFound old new
  -- where its puts give no name two ids: an id may have been given another name
  pub one_id : (old new : List ℕ) → AllBytes new → canonical new ≡ true → OneId (puts_in new) → BothFound old new
  -- so in the image of every list of calls with repeats off
  pub repeats_off : (old : List ℕ) (mode : Mode) (buffer : List ℕ) (cs : List Call)
      → head_size ≤ length buffer → WordIds mode cs → BothFound old (image_of mode Off buffer cs)
  -- where the new image is two-way and one to one, `moved` finds an id exactly when it has the old name
  pub moved_exactly : (old new : List ℕ) → AllBytes new → mode_in new ≡ Twoway → one_to_one new ≡ value none
      → (id other : ℕ) → (moved old new id ≡ some other) ↔ HasOldName old new id other

-- The capacity that a whole list needs: in a buffer at least as long as the image of all its puts, no put is refused
-- with 3.
use Rattle.std.specs.Prelude.{ℕ, ◌≤◌, ◌≡◌, List, length, get_or}
use Rattle.image.specs.declared.Mode.{Mode}
use Rattle.writer.specs.declared.Repeats.{Repeats}
use Rattle.lists.specs.Calls.{Call, size_of, puts, WordIds}
use Rattle.lists.specs.Demand3.{answers_of}

-- for every list, in either mode and with either choice of 02 (viii). The size is 01's, of all puts of the list, as if
-- none were refused
pub record CapacitySuffices : Type 0 where
  pub none_refused : (mode : Mode) (repeats : Repeats) (buffer : List ℕ) (cs : List Call) → WordIds mode cs
      → size_of mode (puts cs) ≤ length buffer → size_of mode (puts cs) ≤ 4294967295
      → (i : ℕ) → get_or (answers_of mode repeats buffer cs) i 0 ≡ 3 → ⊥

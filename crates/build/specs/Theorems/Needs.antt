-- What is proved of what a list needs (`needs_hold` in proofs/Needed).
use Rattle.std.specs.Prelude.{ℕ, ◌≤◌, ◌≡◌, false, List, length, get_or}
use Rattle.image.specs.declared.Mode.{Mode}
use Rattle.image.specs.PackedNames.{invalid_ends, packed_bytes}
use Rattle.writer.specs.declared.Repeats.{Repeats}
use Rattle.lists.specs.Calls.{size_of, puts, WordIds}
use Rattle.lists.specs.Demand3.{answers_of}
use Rattle.build.specs.Build.{calls_of, listed}
use Rattle.build.specs.Needs.{at_most, bytes_needed}

pub record NeedsHold : Type 0 where
  -- in a buffer of so many bytes no put of the list is refused with 3, in either mode and with either choice of
  -- repeats, unless they exceed 4,294,967,295
  pub none_refused : (mode : Mode) (repeats : Repeats) (buffer bytes ends ids : List ℕ)
      → invalid_ends (length bytes) 0 ends ≡ false → WordIds mode (listed bytes ends ids)
      → bytes_needed mode (length bytes) ids ≤ length buffer → bytes_needed mode (length bytes) ids ≤ 4294967295
      → (i : ℕ) → get_or (answers_of mode repeats buffer (listed bytes ends ids)) i 0 ≡ 3 → ⊥
  -- and no byte of it is too many: it is the size of the image of all names, so any shorter buffer refuses one of them
  pub exact : (mode : Mode) (xs : List (List ℕ)) (ids : List ℕ) → length xs ≡ length ids
      → bytes_needed mode (length (packed_bytes xs)) ids ≡ at_most (size_of mode (puts (calls_of xs ids)))

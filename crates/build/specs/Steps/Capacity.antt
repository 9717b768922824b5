-- Whether an image of all names has room.
use Rattle.std.specs.Prelude.{ℕ, ◌^◌, ◌≤◌, ◌<◌, ◌≡◌, List, length, take}
use Rattle.image.specs.declared.Mode.{Mode}
use Rattle.image.specs.PackedNames.{begin_of}
use Rattle.build.specs.Needs.{ids_back, bytes_needed}

-- r is the largest of these ids plus 1, 0 without any
pub record BackOf (ids : List ℕ) (r : ℕ) : Type 0 where
  pub is : r ≡ ids_back ids
  pub bound : r ≤ 2 ^ 32

-- the bytes that an image of all names needs
abbrev pub bytes_for_all : Mode → List ℕ → List ℕ → ℕ
bytes_for_all mode ends ids = bytes_needed mode (begin_of ends (length ends)) (take (length ends) ids)

-- a buffer of `room` bytes has them
pub record RoomForAll (mode : Mode) (ends ids : List ℕ) (room : ℕ) : Type 0 where
  pub within : bytes_for_all mode ends ids ≤ room
  pub small : bytes_for_all mode ends ids ≤ 4294967295

-- the direct path can be tried: there is a name, too
pub record Capacity (mode : Mode) (ends ids : List ℕ) (room : ℕ) : Type 0 where
  pub fits : RoomForAll mode ends ids room
  pub some : 0 < length ends

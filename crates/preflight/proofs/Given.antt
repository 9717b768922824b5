-- What an image names an id. Assumes nothing.
use Prim.Native.Nat.{ℕ, ◌≤◌}
use mathlib.Core.Path.{◌≡◌, refl, ap}
use mathlib.Core.List.{List}
use mathlib.Core.Option.{none}
use Rattle.std.proofs.Common.{Bor}
use Rattle.std.specs.Prelude as code
use Rattle.std.specs.Prelude.{is_some}
use Rattle.reader.specs.Cases.{given_of}
use Rattle.reader.specs.IdWalk.{upper_hint}
use Rattle.reader.specs.Naming.{bytes_at, name_given}
use Rattle.changes.proofs.Namings.{above}
use Rattle.preflight.specs.Counts.{is_given}

-- is there a name, by the answer of `name_given`
pub given_so : (r : code.Option (Bor (List ℕ))) → is_some r ≡ is_given (given_of r)
given_so (code.Some x) = refl
given_so code.None = refl

-- at the upper hint and above it an image names nothing
pub none_above : (image : List ℕ) (id : ℕ) → upper_hint image 0 ≤ id → name_given image id ≡ none
none_above image id h = ap (bytes_at image) (above image id h)

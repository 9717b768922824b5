-- The panel's reading of a name: its length is below 2^32. Assumes nothing.
use Prim.Native.Nat.{ℕ, ◌<◌}
use native.Mathlib.Omega.{arith}
use mathlib.Core.List.{List}
use lib.ListN.{get_or, take, drop, length-take}
use Rattle.image.proofs.Zeros.{before_short}
use Rattle.reader.specs.Naming.{Naming, place, unnamed, length_in, naming}
use Rattle.consistency.specs.Panel.{cut_at_zero, panel}
use Rattle.reader.proofs.Lengths.{naming_small}

-- in the panel's answer it is no longer than in naming's
pub panel_small : (image : List ℕ) (id : ℕ) → ((i : ℕ) → get_or image i 0 < 256) → length_in (panel image id) < 4294967296
unfolding panel
panel_small image id bytes = cut_small (naming image id) (naming_small image id bytes)
  where
    cut_small : (x : Naming) → length_in x < 4294967296 → length_in (cut_at_zero image x) < 4294967296
    cut_small (place s n) small = omega (arith, before_short (take n (drop s image)), length-take n (drop s image))
    cut_small unnamed small = small

-- What the panel shows of a name: 02 (v).
use Rattle.std.specs.Prelude.{ℕ, ◌≤◌, ◌≡◌, false, List, length, take}
use Rattle.image.specs.Zero.{has_zero}
use Rattle.reader.specs.Naming.{naming}
use Rattle.consistency.specs.Panel.{panel, reading}

-- a reading is the longest front of a name without a zero byte
pub record LongestFront (name front : List ℕ) : Type 0 where
  pub is_front : front ≡ take (length front) name
  pub zero_free : has_zero front ≡ false
  pub longest : (k : ℕ) → k ≤ length name → has_zero (take k name) ≡ false → k ≤ length front

-- the panel shows only what precedes the first zero: its reading of every id, in every image, is that front of the name
pub record PanelReads : Type 0 where
  pub shown : (image : List ℕ) (id : ℕ)
      → LongestFront (reading image (naming image id)) (reading image (panel image id))

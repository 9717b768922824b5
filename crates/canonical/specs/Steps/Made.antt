-- The image that puts make, without the writer. The lists' own definitions are joined to it in proofs/.
use Rattle.std.specs.Prelude.{ℕ, ◌^◌, ◌≤◌, ◌<◌, ◌≡◌, false, List}
use Rattle.image.specs.Bytes.{Each}
use Rattle.image.specs.Image.{Entry, image_size, image}
use Rattle.image.specs.Zero.{has_zero}
use Rattle.image.specs.declared.Mode.{Mode}

-- a put whose entry can be stored and read back: its name has no zero byte, its id is a word. It is not asked that the
-- name be bytes
pub record Storable (e : Entry) : Type 0 where
  pub free : has_zero e.name ≡ false
  pub id_word : e.id < 2 ^ 32

-- the bytes are the image of these puts in this mode, and its size is a word
pub record Made (img : List ℕ) : Type 0 where
  pub mode : Mode
  pub puts : List Entry
  pub each : Each Storable puts
  pub fits : image_size mode puts ≤ 4294967295
  pub is : image mode puts ≡ img

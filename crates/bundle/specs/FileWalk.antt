-- Several walls in a file: 02 (i). "A bundle holds images back to back; each size word says where the next begins,
-- and an empty file has none."
use Rattle.std.specs.Prelude.{ℕ, zero, suc, ◌+◌, ◌/◌, Bool, cond, ◌||◌, List, length, eqb, ltb}
use Rattle.jhash.specs.Outcome.{Outcome, value, refusal}
use Rattle.image.specs.Bytes.{word}
use Rattle.image.specs.Image.{head_size}
use Rattle.jhash.specs.Refusals as refused

-- where an image stands in a file: the place of its first byte, and how many bytes it has
pub record Place : Type 0 where
  pub start : ℕ
  pub size : ℕ

-- the size word of an image that begins at a place
abbrev pub size_at : List ℕ → ℕ → ℕ
size_at file at = word file (at + 4)

-- "a walk that meets 1 to 7 last bytes, or a size word under 2,072 or past the file's end"
abbrev pub breaks : List ℕ → ℕ → Bool
breaks file at = ltb (length file) (at + 8) || ltb (size_at file at) head_size
    || ltb (length file) (at + size_at file at)

-- a step of the walk, at a place: what is given at "exactly the file's end, where no image begins"; 10 where the walk
-- breaks off; what is given where an image begins
unfoldable pub file_step : {A : Type 0} → List ℕ → ℕ → Outcome A → Outcome A → Outcome A
file_step file at end image =
    cond (eqb at (length file)) end (cond (breaks file at) (refusal refused.broken_bundle) image)

-- the image at a position, counted from 0, of those from a place on; 11 where the walk comes to the file's end "at or
-- before the position"
unfoldable pub place_from : List ℕ → ℕ → ℕ → Outcome Place
unfolding file_step
place_from file at zero =
    file_step file at (refusal refused.no_such_image) (value (record { start = at; size = size_at file at }))
place_from file at (suc position) =
    file_step file at (refusal refused.no_such_image) (place_from file (at + size_at file at) position)

-- "walks from the front only as far as the position"
abbrev pub place_of_image : List ℕ → ℕ → Outcome Place
place_of_image file position = place_from file 0 position

-- a walk of the whole file: n and the number of images from a place on, or 10. At most m images are to come
unfoldable pub count_images_from : ℕ → List ℕ → ℕ → ℕ → Outcome ℕ
unfolding file_step
count_images_from zero file at n = file_step file at (value n) (refusal refused.broken_bundle)
count_images_from (suc m) file at n = file_step file at (value n)
    (count_images_from m file (at + size_at file at) (suc n))

-- the number of images in a file. Each has at least 2,072 bytes, so m is large enough
abbrev pub counting : List ℕ → Outcome ℕ
counting file = count_images_from (length file / head_size) file 0 0

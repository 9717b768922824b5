-- Opening an image of a bundle: 02 (i). "Opening gets exactly the size word's bytes."
use Rattle.std.specs.Prelude.{ℕ, List, take, drop}
use Rattle.jhash.specs.Outcome.{Outcome, value, refusal}
use Rattle.reader.specs.Open.{opening}
use Rattle.reader.specs.Slices as slices
use Rattle.bundle.specs.FileWalk.{Place, place_of_image}

-- the part of the file that is the image at a place
abbrev pub image_part : List ℕ → Place → List ℕ
image_part file p = take p.size (drop p.start file)

-- the part, or the walk's refusal
abbrev pub image_or : List ℕ → Outcome Place → Outcome (List ℕ)
image_or file (value p) = value (image_part file p)
image_or file (refusal k) = refusal k

abbrev pub image_at : List ℕ → ℕ → Outcome (List ℕ)
image_at file position = image_or file (place_of_image file position)

-- as a returned part: of the lent file's own bytes those from where the image begins; empty where there is no image
-- at the position
abbrev pub image_or_empty : slices.Slice → Outcome Place → slices.Slice
image_or_empty file (value p) = slices.subslice file p.start p.size
image_or_empty file (refusal k) = slices.subslice file 0 0

abbrev pub returned_part : slices.Slice → ℕ → slices.Slice
returned_part file position = image_or_empty file (place_of_image file.bytes position)

-- what opening gives: num, and where the image stands
pub record OpenedImage : Type 0 where
  pub num : ℕ
  pub place : Place

abbrev pub with_num : Place → Outcome ℕ → Outcome OpenedImage
with_num p (value n) = value (record { num = n; place = p })
with_num p (refusal k) = refusal k

-- 10 and 11 "come before 01's opening checks", which are those of the part alone
abbrev pub open_in : List ℕ → Outcome Place → Outcome OpenedImage
open_in file (value p) = with_num p (opening (image_part file p))
open_in file (refusal k) = refusal k

abbrev pub opening_at : List ℕ → ℕ → Outcome OpenedImage
opening_at file position = open_in file (place_of_image file position)

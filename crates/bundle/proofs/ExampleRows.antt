-- The worked examples hold, computed by the checker. Assumes nothing.
use mathlib.Core.Path.{◌≡◌, refl}
use mathlib.Core.List.{map}
use Rattle.image.specs.Bytes.{word, le32}
use Rattle.bundle.specs.FileWalk.{file_step, place_from, place_of_image, count_images_from, counting}
use Rattle.bundle.specs.Append.{append_refusal, appending}
use Rattle.bundle.specs.Examples.Rows.{Walk, Count, Append, sized, blank, walks, countings, appends}

-- every row holds
pub record Rows : Type 0 where
  pub walks_hold : map (λ (r : Walk). place_of_image r.file r.position) walks ≡ map (λ (r : Walk). r.answer) walks
  pub countings_hold : map (λ (r : Count). counting r.file) countings ≡ map (λ (r : Count). r.answer) countings
  pub appends_hold : map (λ (r : Append). appending r.buffer r.size r.image) appends ≡ map (λ (r : Append). r.answer) appends

pub rows_hold : Rows
unfolding word le32 file_step place_from count_images_from append_refusal appending sized blank walks countings appends
rows_hold = record { walks_hold = refl; countings_hold = refl; appends_hold = refl }

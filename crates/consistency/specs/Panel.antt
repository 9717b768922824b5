-- The panel's reading of names, and whether it agrees with the recogniser's: 02 (v).
use Rattle.std.specs.Prelude.{ℕ, Bool, List, [], length, take, drop}
use Rattle.image.specs.Bytes.{same, all}
use Rattle.image.specs.Head.{back_size_at}
use Rattle.image.specs.Zero.{before_zero}
use Rattle.reader.specs.Slices.{Slice, subslice}
use Rattle.reader.specs.Naming.{Naming, place, unnamed, naming, slice_or}

-- the panel reads names as C strings: the name up to its first zero byte or else its end
abbrev pub cut_at_zero : List ℕ → Naming → Naming
cut_at_zero image (place s n) = place s (length (before_zero (take n (drop s image))))
cut_at_zero image unnamed = unnamed

-- the place of the panel's reading of an id, or nothing
unfoldable pub panel : List ℕ → ℕ → Naming
panel image id = cut_at_zero image (naming image id)

-- as a subslice of the image, empty if nothing
abbrev pub panel_slice : Slice → ℕ → Slice
panel_slice image id = slice_or image (subslice image 0 0) (panel image.bytes id)

-- the bytes of a reading: those at its place, none where there is no name
abbrev pub reading : List ℕ → Naming → List ℕ
reading image (place s n) = take n (drop s image)
reading image unnamed = []

-- both readings agree on an id: the panel's, and the recogniser's, which is the whole name
abbrev pub agree_on : List ℕ → ℕ → Bool
agree_on image id = same (reading image (panel image id)) (reading image (naming image id))

-- the check says yes exactly when both readings agree on every id below back size
unfoldable pub readings_agree : List ℕ → Bool
readings_agree image = all (agree_on image) 0 (back_size_at image)

-- The worked examples hold, computed by the checker. Assumes nothing.
use Prim.Native.Nat.{ℕ}
use Prim.Native.String.{String}
use mathlib.Core.Path.{◌≡◌, refl}
use mathlib.Core.List.{List, [], ◌∷◌, ◌++◌, map}
use mathlib.Core.Option.{none}
use lib.ListN.{length, get_or}
use Rattle.image.specs.Bytes.{cat, range}
use Rattle.page.specs.Page.{places, id_field, name_field, line, page}
use Rattle.page.specs.Examples.Ascii.{bytes_of}
use Rattle.page.specs.Examples.Rows.{LineRow, line_rows, PageRow, page_rows}

-- a text and a line feed
abbrev ended : String → List ℕ
ended s = bytes_of s ++ (10 ∷ [])

-- every row holds: the lines, and the pages
pub rows_hold : (map (λ (r : LineRow). line (λ (id : ℕ). r.name) r.id) line_rows ≡ map (λ (r : LineRow). ended r.shows) line_rows)
    × (map (λ (l : PageRow). page (λ (id : ℕ). get_or l.names id none) (length l.names)) page_rows ≡ map (λ (l : PageRow). cat ended l.shows) page_rows)
unfolding bytes_of page line id_field places name_field cat range
rows_hold = (refl, refl)

-- The calls: what they give and leave for an image and an output buffer. 02 (iii).
use Rattle.std.specs.Prelude.{ℕ, ◌*◌, ◌-◌, min, cond, List, ◌++◌, length, drop, ltb}
use Rattle.std.proofs.Math.Option.{Option}
use Rattle.jhash.specs.Outcome.{Outcome, value, refusal}
use Rattle.reader.specs.Naming.{name_given}
use Rattle.reader.specs.IdWalk.{upper_hint}
use Rattle.page.specs.Page.{lines, page}
use Rattle.jhash.specs.Refusals as refused

-- ---- n lines from id `first` on, for an output buffer

-- "an output buffer under that length gives 12"
unfoldable pub printing_lines : ℕ → ℕ → Outcome ℕ
printing_lines n room = cond (ltb room (45 * n)) (refusal refused.page_too_long) (value (45 * n))

-- "unwritten"; otherwise the lines, and "bytes past the page keep their content"
unfoldable pub after_lines : (ℕ → Option (List ℕ)) → ℕ → ℕ → List ℕ → List ℕ
unfolding lines
after_lines name first n out = cond (ltb (length out) (45 * n)) out (lines name first n ++ drop (45 * n) out)

-- ---- the page

-- the page of an image, by 01's naming and its back size; no line "where 01's upper hint at id 0 is 0"
unfoldable pub page_of : List ℕ → List ℕ
unfolding page
page_of image = page (name_given image) (upper_hint image 0)

-- "its length, which the call gives, is 45 × back size (0 where 01's upper hint at id 0 is 0)"
abbrev pub page_length : List ℕ → ℕ
page_length image = 45 * upper_hint image 0

unfoldable pub printing : List ℕ → ℕ → Outcome ℕ
unfolding printing_lines
printing image room = printing_lines (upper_hint image 0) room

unfoldable pub after_page : List ℕ → List ℕ → List ℕ
unfolding after_lines
after_page image out = after_lines (name_given image) 0 (upper_hint image 0) out

-- ---- a part of the page: the lines of `count` ids from `first` on, of those below back size

abbrev pub part_lines : List ℕ → ℕ → ℕ → ℕ
part_lines image first count = min count (upper_hint image 0 - first)

unfoldable pub page_part : List ℕ → ℕ → ℕ → List ℕ
unfolding lines
page_part image first count = lines (name_given image) first (part_lines image first count)

unfoldable pub part_printing : List ℕ → ℕ → ℕ → ℕ → Outcome ℕ
unfolding printing_lines
part_printing image first count room = printing_lines (part_lines image first count) room

unfoldable pub after_part : List ℕ → ℕ → ℕ → List ℕ → List ℕ
unfolding after_lines
after_part image first count out = after_lines (name_given image) first (part_lines image first count) out

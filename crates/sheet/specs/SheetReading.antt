-- The reader: 02 (xi). "The reader gives, for each section, the part of the file that holds its ids"; "a section may
-- be empty".
use Rattle.std.specs.Prelude.{ℕ, ◌+◌, ◌*◌, ◌/◌, cond, List, length, take, drop, ltb}
use Rattle.jhash.specs.Outcome.{Outcome, value, refusal}
use Rattle.reader.specs.Slices as slices
use Rattle.sheet.specs.Format.{count_at, ids, Lists}
use Rattle.sheet.specs.declared.SectionPlace.{SectionPlace}
use Rattle.sheet.specs.declared.Sheet.{Sheet}
use Rattle.sheet.specs.declared.Which.{Which}
use Rattle.sheet.specs.declared.Which.TheVariants.{References, Walls, Retired}
use Rattle.jhash.specs.Refusals as refused

-- a part as a place: the offset of its first byte, and the number of its ids, four bytes each. Where it ends
abbrev pub part_end : SectionPlace → ℕ
part_end p = p.start + 4 * p.count

-- the part itself, and the ids in a part
abbrev pub part_bytes : List ℕ → SectionPlace → List ℕ
part_bytes file p = take (4 * p.count) (drop p.start file)

abbrev pub ids_in : List ℕ → List ℕ
ids_in part = ids (length part / 4) part

-- the section whose count stands at an offset. "Too few bytes give 19": for the count, then for the ids
unfoldable pub section_at : List ℕ → ℕ → Outcome SectionPlace
section_at file o =
    cond (ltb (length file) (o + 2)) (refusal refused.too_few_bytes)
    (cond (ltb (length file) (o + 2 + 4 * count_at file o)) (refusal refused.too_few_bytes)
    (value (record { start = o + 2; count = count_at file o })))

-- what is done with a value; a refusal stays
abbrev pub and_then : {A B : Type 0} → Outcome A → (A → Outcome B) → Outcome B
and_then (value x) f = f x
and_then (refusal n) f = refusal n

-- the three sections from the front, each where the one before ends
unfoldable pub sections : List ℕ → Outcome Sheet
sections file =
    and_then (section_at file 0)
    (λ references. and_then (section_at file (part_end references))
    (λ walls. and_then (section_at file (part_end walls))
    (λ retired. value (record { references = references; walls = walls; retired = retired }))))

-- "left-over bytes 20"
abbrev pub nothing_left : List ℕ → Sheet → Outcome Sheet
nothing_left file s = cond (ltb (part_end s.retired) (length file)) (refusal refused.left_over_bytes) (value s)

unfoldable pub read_sheet : List ℕ → Outcome Sheet
read_sheet file = and_then (sections file) (nothing_left file)

-- the place of one of the three sections
abbrev pub section_of : Sheet → Which → SectionPlace
section_of s References = s.references
section_of s Walls = s.walls
section_of s Retired = s.retired

-- "the part of the file that holds its ids", as a returned part: of the lent file's own bytes those from the place's
-- start on; empty where the file is refused
abbrev pub part_at : slices.Slice → SectionPlace → slices.Slice
part_at file p = slices.subslice file p.start (4 * p.count)

abbrev pub section_or_empty : slices.Slice → Which → Outcome Sheet → slices.Slice
section_or_empty file which (value s) = part_at file (section_of s which)
section_or_empty file which (refusal n) = slices.subslice file 0 0

abbrev pub section_part : slices.Slice → Which → slices.Slice
section_part file which = section_or_empty file which (read_sheet file.bytes)

-- the part at any place, also one that no reader gave: what of it lies past the end is left out; empty where it starts
-- past the end
abbrev pub cut_part : slices.Slice → SectionPlace → slices.Slice
cut_part file p = cond (ltb (length file.bytes) p.start) (slices.subslice file 0 0) (part_at file p)

-- the three lists that a file reads as
abbrev pub lists_of : List ℕ → Sheet → Lists
lists_of file s =
    record {
      references = ids_in (part_bytes file s.references);
      walls = ids_in (part_bytes file s.walls);
      retired = ids_in (part_bytes file s.retired);
    }

unfoldable pub read_lists : List ℕ → Outcome Lists
read_lists file = and_then (read_sheet file) (λ s. value (lists_of file s))

-- The part that is returned, by its start and end. Assumes nothing.
use Prim.Native.Nat.{ℕ, ◌+◌, ◌*◌, ◌-◌, ◌≤◌, ◌<◌, min}
use native.Mathlib.Omega.{arith}
use native.Mathlib.Decide.{dec_lt}
use mathlib.Core.Path.{◌≡◌, sym, ap, ◌∙◌}
use mathlib.Core.Bool.{Bool, cond}
use mathlib.Core.List.{List}
use borrow.Author.Tests.{lt-ltb, le-ltb}
use lib.ListN.{length, take, drop, length-drop}
use lib.Seq.{take_all}
use Rattle.jhash.specs.Outcome.{value, refusal}
use Rattle.reader.specs.Slices.{Slice, subslice}
use Rattle.sheet.specs.SheetReading.{part_bytes, part_at, read_sheet, section_of, section_or_empty, section_part, cut_part}
use Rattle.sheet.specs.declared.SectionPlace.{SectionPlace}
use Rattle.sheet.specs.declared.Sheet.{Sheet}
use Rattle.sheet.specs.declared.Which.{Which}
use Rattle.sheet.specs.declared.Which.TheVariants.{References, Walls, Retired}
use Rattle.sheet.proofs.Files.{Whole, of_whole}

-- ---- at any place

module _ (file : Slice) (p : SectionPlace) where
  abbrev size : ℕ
  size = length file.bytes

  abbrev by : Bool → Slice
  by past = cond past (subslice file 0 0) (part_at file p)

  pub part_past : size < p.start → subslice file 0 0 ≡ cut_part file p
  part_past h = ap by (sym (lt-ltb size p.start h))

  -- a place that starts in the file, or at its end
  pub part_inside : p.start ≤ size → part_at file p ≡ cut_part file p
  part_inside h = ap by (sym (le-ltb size p.start h))

  part_cut : p.start ≤ size → size - p.start < 4 * p.count → subslice file p.start (size - p.start) ≡ cut_part file p
  part_cut h k =
      ap (λ (l : List ℕ). record { at = (part_at file p).at; bytes = l }) same ∙ part_inside h
    where
      left : List ℕ
      left = drop p.start file.bytes

      same : take (size - p.start) left ≡ part_bytes file.bytes p
      same =
          let e : length left ≡ size - p.start = length-drop p.start file.bytes in
          take_all (size - p.start) left (omega arith) ∙ sym (take_all (4 * p.count) left (omega arith))

  -- as many bytes as the place has, or as are left
  pub part_clipped : (n : ℕ) → n ≡ min (4 * p.count) (size - p.start) → p.start ≤ size → subslice file p.start (p.start + n - p.start) ≡ cut_part file p
  part_clipped n e h =
      elim (dec_lt (size - p.start) (4 * p.count)) [
        | yes k ↦ (let f : p.start + n - p.start ≡ size - p.start = omega arith in ap (subslice file p.start) f ∙ part_cut h k)
        | no k ↦ (let f : p.start + n - p.start ≡ 4 * p.count = omega arith in ap (subslice file p.start) f ∙ part_inside h)
      ]

-- ---- of a section

section_starts : (file : List ℕ) (which : Which) (s : Sheet) → read_sheet file ≡ value s → (section_of s which).start ≤ length file
section_starts file which = of_whole (λ (s : Sheet). (section_of s which).start ≤ length file) file (λ w. starts w which)
  where
    starts : (w : Whole file) (which : Which) → (section_of w.places which).start ≤ length file
    starts w References = omega (arith, w.lie.references.inside)
    starts w Walls = omega (arith, w.lie.walls.inside)
    starts w Retired = omega (arith, w.lie.retired.inside)

module _ (file : Slice) (which : Which) where
  pub section_there : (s : Sheet) → read_sheet file.bytes ≡ value s → cut_part file (section_of s which) ≡ section_part file which
  section_there s e =
      sym (part_inside file (section_of s which) (section_starts file.bytes which s e)) ∙ ap (section_or_empty file which) (sym e)

  pub no_section : (n : ℕ) → read_sheet file.bytes ≡ refusal n → subslice file 0 0 ≡ section_part file which
  no_section n e = ap (section_or_empty file which) (sym e)

-- One section: by its tests, where it was found, and its bytes. Assumes nothing.
use Prim.Native.Nat.{ℕ, ◌+◌, ◌*◌, ◌/◌, ◌^◌, ◌≤◌, ◌<◌}
use native.Mathlib.Omega.{arith}
use mathlib.Core.Path.{◌≡◌, refl, sym, ap, ap₂, ◌∙◌}
use mathlib.Core.Logic.{◌⊎◌, inl, inr}
use mathlib.Core.Bool.{Bool, true, false}
use mathlib.Core.List.{List, [], ◌++◌, append_assoc, append-nil}
use borrow.Author.Tests.{lt-ltb, le-ltb, ltb-true, ltb-false}
use lib.Dec.{ltb}
use lib.ListN.{length, take, drop, length-append, length-take, length-drop}
use lib.Seq.{take_all, take_at, drop_at, take-add, drop-drop, drop-append_seam, drop-append-add}
use Rattle.jhash.specs.Outcome.{value, refusal}
use Rattle.jhash.proofs.ValueOrRefusal.{no_value}
use Rattle.sheet.specs.Format.{count_at, count_bytes, ids, id_bytes, section_bytes}
use Rattle.sheet.specs.SheetReading.{part_end, part_bytes, ids_in, section_at}
use Rattle.sheet.specs.Theorems.RoundSheet.{Below, Holdable, HoldsIds}
use Rattle.sheet.specs.declared.SectionPlace.{SectionPlace}
use Rattle.sheet.proofs.CountsAndIds.{below_drop, below_take, length-count_bytes, count_back, count_below, count_drop, count_bytes_lem}
use Rattle.sheet.proofs.CountsAndIds.{length_ids, length-id_bytes, ids_below, ids_back, bytes_back}

-- where the section at o was found
pub record Lies (file : List ℕ) (o : ℕ) (p : SectionPlace) : Type 0 where
  pub start : p.start ≡ o + 2
  pub count : p.count ≡ count_at file o
  pub inside : part_end p ≤ length file

pub record FoundAt (file : List ℕ) (o : ℕ) : Type 0 where
  pub place : SectionPlace
  pub found : section_at file o ≡ value place
  pub lies : Lies file o place

-- ---- by the tests

module _ (file : List ℕ) (o : ℕ) where
  abbrev here : SectionPlace
  here = record { start = o + 2; count = count_at file o }

  pub no_count : length file < o + 2 → section_at file o ≡ refusal 19
  unfolding section_at
  no_count h = simp (lt-ltb (length file) (o + 2) h)

  pub no_ids : o + 2 ≤ length file → length file < part_end here → section_at file o ≡ refusal 19
  unfolding section_at
  no_ids h k = simp (le-ltb (length file) (o + 2) h, lt-ltb (length file) (part_end here) k)

  pub lies : part_end here ≤ length file → section_at file o ≡ value here
  unfolding section_at
  lies h = simp (le-ltb (length file) (o + 2) (omega arith), le-ltb (length file) (part_end here) h)

  -- a section is found where it lies, or refused with 19
  pub found_or_short : FoundAt file o ⊎ (section_at file o ≡ refusal 19)
  found_or_short = counted (ltb (length file) (o + 2)) refl
    where
      held : (t : Bool) → ltb (length file) (part_end here) ≡ t → o + 2 ≤ length file → FoundAt file o ⊎ (section_at file o ≡ refusal 19)
      held true k c = inr (no_ids c (ltb-true (length file) (part_end here) k))
      held false k c =
          let l = ltb-false (length file) (part_end here) k in
          inl (record { place = here; found = lies l; lies = record { start = refl; count = refl; inside = l } })

      counted : (t : Bool) → ltb (length file) (o + 2) ≡ t → FoundAt file o ⊎ (section_at file o ≡ refusal 19)
      counted true k = inr (no_count (ltb-true (length file) (o + 2) k))
      counted false k = held (ltb (length file) (part_end here)) refl (ltb-false (length file) (o + 2) k)

  pub found_inside : (p : SectionPlace) → section_at file o ≡ value p → part_end p ≤ length file
  found_inside p e = by found_or_short
    where
      by : FoundAt file o ⊎ (section_at file o ≡ refusal 19) → part_end p ≤ length file
      by (inl f) = let same : f.place ≡ p = cc in omega (arith, ap part_end same, f.lies.inside)
      by (inr short) = absurd (no_value 19 p (sym short ∙ e))

-- ---- from the bytes of a list: what stands before the section, and behind it

pub length_section : (xs : List ℕ) → length (section_bytes xs) ≡ 2 + 4 * length xs
unfolding section_bytes
length_section xs = omega (arith, length-append (count_bytes (length xs)) (id_bytes xs), length-count_bytes (length xs), length-id_bytes xs)

pub ids_of : (xs : List ℕ) → Below (2 ^ 32) xs → ids_in (id_bytes xs) ≡ xs
ids_of xs below =
    let n : length (id_bytes xs) / 4 ≡ length xs = omega (arith, length-id_bytes xs) in
    ap₂ ids n (sym (append-nil (id_bytes xs))) ∙ ids_back xs [] below

module _ (front xs rest : List ℕ) where
  abbrev around : List ℕ
  around = front ++ (section_bytes xs ++ rest)

  abbrev behind : SectionPlace
  behind = record { start = length front + 2; count = length xs }

  opened : section_bytes xs ++ rest ≡ count_bytes (length xs) ++ (id_bytes xs ++ rest)
  unfolding section_bytes
  opened = append_assoc (count_bytes (length xs)) (id_bytes xs) rest

  counted : length xs ≤ 65535 → count_at around (length front) ≡ length xs
  counted h =
      count_drop around (length front)
      ∙ ap (λ (s : List ℕ). count_at s 0) (drop-append_seam front (section_bytes xs ++ rest) ∙ opened)
      ∙ count_back (length xs) (id_bytes xs ++ rest) h

  -- the section is found there, and its part holds the ids
  pub section_reads : length xs ≤ 65535 → section_at around (length front) ≡ value behind
  section_reads h =
      let c = counted h in
      let l = length-append front (section_bytes xs ++ rest) in
      let m = length-append (section_bytes xs) rest in
      lies around (length front) (omega (arith, length_section xs))
      ∙ ap (λ (n : ℕ). value (record { start = length front + 2; count = n })) c

  pub part_reads : part_bytes around behind ≡ id_bytes xs
  part_reads =
      ap (take (4 * length xs))
      (drop-append-add front (section_bytes xs ++ rest) 2
      ∙ ap (drop 2) opened
      ∙ drop_at (count_bytes (length xs)) (id_bytes xs ++ rest) 2 (length-count_bytes (length xs)))
      ∙ take_at (id_bytes xs) rest (4 * length xs) (length-id_bytes xs)

-- ---- from a file in which a section lies

module _ (file : List ℕ) (o : ℕ) (p : SectionPlace) (l : Lies file o p) where
  abbrev held : List ℕ
  held = part_bytes file p

  part_length : length held ≡ 4 * p.count
  part_length = simp (length-take, length-drop) (omega (arith, l.inside))

  ids_count : ids_in held ≡ ids p.count held
  ids_count = let n : length held / 4 ≡ p.count = omega (arith, part_length) in ap (λ (k : ℕ). ids k held) n

  pub part_holds : HoldsIds file p
  part_holds = record { bytes = part_length; number = ap length ids_count ∙ length_ids p.count held }

  module _ (below : Below 256 file) where
    held_below : Below 256 held
    held_below = below_take (4 * p.count) 256 (drop p.start file) (below_drop p.start 256 file below)

    pub holdable : Holdable (ids_in held)
    holdable = rw ids_count (record {
      count = omega (arith, length_ids p.count held, l.count, count_below file o below);
      words = ids_below p.count held held_below;
    })

    -- the writer makes these bytes again
    pub bytes_again : section_bytes (ids_in held) ≡ take (2 + 4 * p.count) (drop o file)
    unfolding section_bytes
    bytes_again =
        ap (λ (xs : List ℕ). count_bytes (length xs) ++ id_bytes xs) ids_count
        ∙ ap₂ ◌++◌ (ap count_bytes (length_ids p.count held ∙ l.count ∙ count_drop file o) ∙ first) second
        ∙ sym (take-add 2 (4 * p.count) (drop o file))
      where
        first : count_bytes (count_at (drop o file) 0) ≡ take 2 (drop o file)
        first = count_bytes_lem (drop o file) (below_drop o 256 file below) (simp length-drop (omega (arith, l.start, l.inside)))

        second : id_bytes (ids p.count held) ≡ take (4 * p.count) (drop 2 (drop o file))
        second =
            bytes_back p.count held held_below (omega (arith, part_length))
            ∙ take_all (4 * p.count) held (omega (arith, part_length))
            ∙ ap (λ (k : ℕ). take (4 * p.count) (drop k file)) l.start
            ∙ ap (take (4 * p.count)) (sym (drop-drop 2 o file))

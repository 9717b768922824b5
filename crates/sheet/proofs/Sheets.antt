-- The three sections of a file, found one behind the other; and the file of three lists. Assumes nothing.
use Prim.Native.Nat.{ℕ, ◌+◌, ◌*◌}
use native.Mathlib.Omega.{arith}
use mathlib.Core.Path.{◌≡◌, sym, ap, ap₂, ◌∙◌}
use mathlib.Core.Logic.{◌⊎◌, inl, inr}
use mathlib.Core.List.{List, [], ◌++◌, append_assoc}
use lib.ListN.{length, take, drop, length-append, take-append-drop}
use lib.Seq.{take-add}
use Rattle.jhash.specs.Outcome.{Outcome, value, refusal}
use Rattle.sheet.specs.Format.{section_bytes, Lists, sheet_bytes}
use Rattle.sheet.specs.SheetReading.{part_end, part_bytes, ids_in, section_at, and_then, sections, lists_of}
use Rattle.sheet.specs.Theorems.RoundSheet.{Below, Fits}
use Rattle.sheet.specs.declared.SectionPlace.{SectionPlace}
use Rattle.sheet.specs.declared.Sheet.{Sheet}
use Rattle.sheet.proofs.Sections.{Lies, FoundAt, found_or_short, length_section, ids_of, section_reads, part_reads, holdable, bytes_again}

pub sized : (l : Lists) → length (sheet_bytes l) ≡ 6 + 4 * (length l.references + length l.walls + length l.retired)
unfolding sheet_bytes
sized l =
    let a = section_bytes l.references in
    let b = section_bytes l.walls in
    let c = section_bytes l.retired in
    omega
    (arith, length-append (a ++ b) c, length-append a b, length_section l.references, length_section l.walls, length_section l.retired)

-- ---- section by section

abbrev sheet : SectionPlace → SectionPlace → SectionPlace → Sheet
sheet a b c = record { references = a; walls = b; retired = c }

module _ (file : List ℕ) where
  abbrev from_walls : SectionPlace → SectionPlace → Outcome Sheet
  from_walls a b = and_then (section_at file (part_end b)) (λ c. value (sheet a b c))

  abbrev from_references : SectionPlace → Outcome Sheet
  from_references a = and_then (section_at file (part_end a)) (λ b. from_walls a b)

  module _ (a : SectionPlace) (ea : section_at file 0 ≡ value a) where
    behind_first : sections file ≡ from_references a
    unfolding sections
    behind_first = ap (λ (r : Outcome SectionPlace). and_then r from_references) ea

    pub short_walls : {n : ℕ} → section_at file (part_end a) ≡ refusal n → sections file ≡ refusal n
    short_walls e = behind_first ∙ ap (λ (r : Outcome SectionPlace). and_then r (from_walls a)) e

    module _ (b : SectionPlace) (eb : section_at file (part_end a) ≡ value b) where
      behind_second : sections file ≡ from_walls a b
      behind_second = behind_first ∙ ap (λ (r : Outcome SectionPlace). and_then r (from_walls a)) eb

      pub short_retired : {n : ℕ} → section_at file (part_end b) ≡ refusal n → sections file ≡ refusal n
      short_retired e = behind_second ∙ ap (λ (r : Outcome SectionPlace). and_then r (λ c. value (sheet a b c))) e

      pub all_three : (c : SectionPlace) → section_at file (part_end b) ≡ value c → sections file ≡ value (sheet a b c)
      all_three c ec = behind_second ∙ ap (λ (r : Outcome SectionPlace). and_then r (λ c. value (sheet a b c))) ec

  pub short_references : {n : ℕ} → section_at file 0 ≡ refusal n → sections file ≡ refusal n
  unfolding sections
  short_references e = ap (λ (r : Outcome SectionPlace). and_then r from_references) e

-- the three lie one behind the other
pub record Lie (file : List ℕ) (s : Sheet) : Type 0 where
  pub references : Lies file 0 s.references
  pub walls : Lies file (part_end s.references) s.walls
  pub retired : Lies file (part_end s.walls) s.retired

pub record Three (file : List ℕ) : Type 0 where
  pub places : Sheet
  pub found : sections file ≡ value places
  pub lie : Lie file places

-- they are found, or the file is refused with 19
pub three_or_short : (file : List ℕ) → Three file ⊎ (sections file ≡ refusal 19)
three_or_short file = first (found_or_short file 0)
  where
    third : (a : FoundAt file 0) (b : FoundAt file (part_end a.place))
        → FoundAt file (part_end b.place) ⊎ (section_at file (part_end b.place) ≡ refusal 19)
        → Three file ⊎ (sections file ≡ refusal 19)
    third a b (inl c) = inl (record {
      places = sheet a.place b.place c.place;
      found = all_three file a.place a.found b.place b.found c.place c.found;
      lie = record { references = a.lies; walls = b.lies; retired = c.lies };
    })
    third a b (inr short) = inr (short_retired file a.place a.found b.place b.found short)

    second : (a : FoundAt file 0) → FoundAt file (part_end a.place) ⊎ (section_at file (part_end a.place) ≡ refusal 19)
        → Three file ⊎ (sections file ≡ refusal 19)
    second a (inl b) = third a b (found_or_short file (part_end b.place))
    second a (inr short) = inr (short_walls file a.place a.found short)

    first : FoundAt file 0 ⊎ (section_at file 0 ≡ refusal 19) → Three file ⊎ (sections file ≡ refusal 19)
    first (inl a) = second a (found_or_short file (part_end a.place))
    first (inr short) = inr (short_references file short)

-- ---- the file of three lists, and bytes behind it

module _ (l : Lists) (rest : List ℕ) where
  abbrev a : List ℕ
  a = section_bytes l.references

  abbrev b : List ℕ
  b = section_bytes l.walls

  abbrev c : List ℕ
  c = section_bytes l.retired

  abbrev file : List ℕ
  file = sheet_bytes l ++ rest

  abbrev pa : SectionPlace
  pa = record { start = 2; count = length l.references }

  abbrev pb : SectionPlace
  pb = record { start = part_end pa + 2; count = length l.walls }

  abbrev pc : SectionPlace
  pc = record { start = part_end pb + 2; count = length l.retired }

  at_front : file ≡ [] ++ (a ++ (b ++ (c ++ rest)))
  unfolding sheet_bytes
  at_front = simp append_assoc

  at_walls : file ≡ a ++ (b ++ (c ++ rest))
  unfolding sheet_bytes
  at_walls = simp append_assoc

  at_retired : file ≡ (a ++ b) ++ (c ++ rest)
  unfolding sheet_bytes
  at_retired = append_assoc (a ++ b) c rest

  end_a : length a ≡ part_end pa
  end_a = length_section l.references

  end_b : length (a ++ b) ≡ part_end pb
  end_b = omega (arith, length-append a b, length_section l.walls, end_a)

  module _ (fits : Fits l) where
    first_reads : section_at file 0 ≡ value pa
    first_reads = ap (λ (f : List ℕ). section_at f 0) at_front ∙ section_reads [] l.references (b ++ (c ++ rest)) fits.references.count

    second_reads : section_at file (part_end pa) ≡ value pb
    second_reads =
        ap₂ section_at at_walls (sym end_a)
        ∙ section_reads a l.walls (c ++ rest) fits.walls.count
        ∙ ap (λ (n : ℕ). value (record { start = n + 2; count = length l.walls })) end_a

    third_reads : section_at file (part_end pb) ≡ value pc
    third_reads =
        ap₂ section_at at_retired (sym end_b)
        ∙ section_reads (a ++ b) l.retired rest fits.retired.count
        ∙ ap (λ (n : ℕ). value (record { start = n + 2; count = length l.retired })) end_b

    pub sheet_reads : sections file ≡ value (sheet pa pb pc)
    sheet_reads = all_three file pa first_reads pb second_reads pc third_reads

    -- the lists that it reads as
    pub lists_read : lists_of file (sheet pa pb pc) ≡ l
    lists_read = λ i. record { references = ra i; walls = rb i; retired = rc i }
      where
        ra : ids_in (part_bytes file pa) ≡ l.references
        ra =
            ap ids_in (ap (λ (f : List ℕ). part_bytes f pa) at_front ∙ part_reads [] l.references (b ++ (c ++ rest)))
            ∙ ids_of l.references fits.references.words

        rb : ids_in (part_bytes file pb) ≡ l.walls
        rb =
            ap ids_in
            (ap₂ (λ (f : List ℕ) (n : ℕ). part_bytes f (record { start = n + 2; count = length l.walls })) at_walls (sym end_a)
            ∙ part_reads a l.walls (c ++ rest))
            ∙ ids_of l.walls fits.walls.words

        rc : ids_in (part_bytes file pc) ≡ l.retired
        rc =
            ap ids_in
            (ap₂ (λ (f : List ℕ) (n : ℕ). part_bytes f (record { start = n + 2; count = length l.retired })) at_retired (sym end_b)
            ∙ part_reads (a ++ b) l.retired rest)
            ∙ ids_of l.retired fits.retired.words

  -- where the last part ends
  pub sheet_ends : part_end pc ≡ length (sheet_bytes l)
  sheet_ends = omega (arith, sized l)

-- ---- the lists of a file in which three sections lie

module _ (file : List ℕ) (s : Sheet) (l : Lie file s) (below : Below 256 file) where
  pub lists_fit : Fits (lists_of file s)
  lists_fit = record {
    references = holdable file 0 s.references l.references below;
    walls = holdable file (part_end s.references) s.walls l.walls below;
    retired = holdable file (part_end s.walls) s.retired l.retired below;
  }

  -- their bytes are the front of the file
  pub front_again : sheet_bytes (lists_of file s) ≡ take (part_end s.retired) file
  unfolding sheet_bytes
  front_again =
      ap₂ ◌++◌ (ap₂ ◌++◌ (bytes_again file 0 s.references l.references below) (bytes_again file ea s.walls l.walls below))
      (bytes_again file eb s.retired l.retired below)
      ∙ ap (λ (n : ℕ). take n file ++ take (2 + 4 * s.walls.count) (drop ea file) ++ take (2 + 4 * s.retired.count) (drop eb file)) na
      ∙ ap (λ (xs : List ℕ). xs ++ take (2 + 4 * s.retired.count) (drop eb file)) (upto (2 + 4 * s.walls.count) ea eb nb)
      ∙ upto (2 + 4 * s.retired.count) eb (part_end s.retired) nc
    where
      ea : ℕ
      ea = part_end s.references

      eb : ℕ
      eb = part_end s.walls

      na : 2 + 4 * s.references.count ≡ ea
      na = omega (arith, l.references.start)

      nb : eb ≡ ea + (2 + 4 * s.walls.count)
      nb = omega (arith, l.walls.start)

      nc : part_end s.retired ≡ eb + (2 + 4 * s.retired.count)
      nc = omega (arith, l.retired.start)

      upto : (n o e : ℕ) → e ≡ o + n → take o file ++ take n (drop o file) ≡ take e file
      upto n o e h = sym (ap (λ (k : ℕ). take k file) h ∙ take-add o n file)

  pub file_again : sheet_bytes (lists_of file s) ++ drop (part_end s.retired) file ≡ file
  file_again = ap (λ (xs : List ℕ). xs ++ drop (part_end s.retired) file) front_again ∙ take-append-drop (part_end s.retired) file

-- The theorem `round_sheet`: the sentences of 02 (xi) (`specs/Theorems/RoundSheet`). Assumes nothing.
use Prim.Native.Nat.{ℕ, ◌≤◌}
use native.Mathlib.Omega.{arith}
use mathlib.Core.Path.{◌≡◌, sym, ap, subst, ◌∙◌}
use mathlib.Core.Logic.{◌↔◌, inl, inr}
use mathlib.Core.List.{List, [], ◌∷◌, ◌++◌, append-nil}
use lib.ListN.{length, take, drop, length-drop}
use Rattle.jhash.specs.Outcome.{Outcome, value, refusal}
use Rattle.sheet.specs.Format.{Lists, sheet_bytes}
use Rattle.sheet.specs.SheetReading.{part_end, read_sheet, lists_of, read_lists}
use Rattle.sheet.specs.SheetWriting.{writing, after_writing}
use Rattle.sheet.specs.Theorems.RoundSheet.{Below, Fits, PartsPlaced, HoldsIds, GoesOn, BreaksOff, OneOfThree, RoundSheet}
use Rattle.sheet.specs.declared.Sheet.{Sheet}
use Rattle.sheet.proofs.Sections.{part_holds}
use Rattle.sheet.proofs.Sheets.{sized, lists_fit, file_again}
use Rattle.sheet.proofs.Files.{Cases, cases, one_value, not_refused, of_whole, lists_of_lem, no_lists, sheet_back, longer_read, whole_again}
use Rattle.sheet.proofs.SheetStored.{accepted, file_in}

two_refusals : {A : Type 0} {r : Outcome A} → r ≡ refusal 19 → ¬ (r ≡ refusal 20)
two_refusals p q = let z : ◌≡◌ {A = ℕ} 19 20 = cc in omega arith

-- ---- a file that is a sheet

is_sheet : (file : List ℕ) (l : Lists) → Below 256 file → read_lists file ≡ value l → Fits l × (sheet_bytes l ≡ file)
is_sheet file l below e = by (cases file)
  where
    by : Cases file → Fits l × (sheet_bytes l ≡ file)
    by (inl w) =
        let same : lists_of file w.places ≡ l = one_value _ _ (lists_of_lem file w.places w.read) e in
        (subst Fits same (lists_fit file w.places w.lie below), ap sheet_bytes (sym same) ∙ whole_again file below w)
    by (inr (inl g)) = absurd (not_refused l 20 e (no_lists file 20 g.read))
    by (inr (inr short)) = absurd (not_refused l 19 e (no_lists file 19 short))

reads_as : (file : List ℕ) (l : Lists) → Fits l × (sheet_bytes l ≡ file) → read_lists file ≡ value l
reads_as file l (fits, e) = ap read_lists (sym e) ∙ sheet_back l fits

-- ---- a file that breaks off, and one that goes on

begins : (l : Lists) (rest : List ℕ) → Fits l → ¬ (read_sheet (sheet_bytes l ++ rest) ≡ refusal 19)
begins l [] fits e =
    not_refused l 19 (ap read_lists (append-nil (sheet_bytes l)) ∙ sheet_back l fits) (no_lists (sheet_bytes l ++ []) 19 e)
begins l (x ∷ rest) fits e = two_refusals e (longer_read l (x ∷ rest) fits (λ n. let z : ◌≡◌ {A = ℕ} 0 1 = cc in omega arith))

too_few : (file : List ℕ) → Below 256 file → (read_sheet file ≡ refusal 19) ↔ BreaksOff file
too_few file below = (λ e l rest fits f. begins l rest fits (ap read_sheet f ∙ e), λ b. by b (cases file))
  where
    by : BreaksOff file → Cases file → read_sheet file ≡ refusal 19
    by b (inl w) = absurd (b _ _ (lists_fit file w.places w.lie below) (file_again file w.places w.lie below))
    by b (inr (inl g)) = absurd (b _ _ (lists_fit file g.places g.lie below) (file_again file g.places g.lie below))
    by b (inr (inr short)) = short

left_over : (file : List ℕ) → Below 256 file → (read_sheet file ≡ refusal 20) ↔ GoesOn file
left_over file below = (λ e. by e (cases file), λ (l, rest, fits, more, f). ap read_sheet (sym f) ∙ longer_read l rest fits more)
  where
    by : read_sheet file ≡ refusal 20 → Cases file → GoesOn file
    by e (inl w) = absurd (not_refused w.places 20 w.read e)
    by e (inr (inl g)) =
        let s = g.places in
        let rest = drop (part_end s.retired) file in
        let more : ¬ (rest ≡ []) = λ n. omega (arith, length-drop (part_end s.retired) file, ap length n, g.end) in
        (lists_of file s, rest, lists_fit file s g.lie below, more, file_again file s g.lie below)
    by e (inr (inr short)) = absurd (two_refusals short e)

one_of_three : (file : List ℕ) → OneOfThree file
one_of_three file = by (cases file)
  where
    by : Cases file → OneOfThree file
    by (inl w) = inl (w.places, w.read)
    by (inr (inl g)) = inr (inr g.read)
    by (inr (inr short)) = inr (inl short)

-- ---- where the parts stand

placed : (file : List ℕ) (s : Sheet) → read_sheet file ≡ value s → PartsPlaced file s
placed file = of_whole (PartsPlaced file) file (λ w. record {
  references = w.lie.references.start;
  walls = w.lie.walls.start;
  retired = w.lie.retired.start;
  end = w.end;
})

holds : (file : List ℕ) (s : Sheet) → read_sheet file ≡ value s → HoldsIds file s.references × HoldsIds file s.walls × HoldsIds file s.retired
holds file =
    of_whole (λ (s : Sheet). HoldsIds file s.references × HoldsIds file s.walls × HoldsIds file s.retired) file
    (λ w.
    let s = w.places in
    let l = w.lie in (
      part_holds file 0 s.references l.references,
      part_holds file (part_end s.references) s.walls l.walls,
      part_holds file (part_end s.walls) s.retired l.retired,
    ))

-- ---- the writer

writes_again : (file buf : List ℕ) (l : Lists) → Below 256 file → read_lists file ≡ value l → length file ≤ length buf
    → (writing (length buf) l ≡ value (length file)) × (take (length file) (after_writing buf l) ≡ file)
writes_again file buf l below e room =
    let made = is_sheet file l below e in
    let same : length (sheet_bytes l) ≡ length file = ap length made.1 in
    let w : writing (length buf) l ≡ value (length file) = accepted (length buf) l made.0 (omega arith) ∙ ap value same in
    (w, file_in buf l (length file) w ∙ made.1)

longest : (l : Lists) → Fits l → length (sheet_bytes l) ≤ 786426
longest l fits = omega (arith, sized l, fits.references.count, fits.walls.count, fits.retired.count)

pub round_sheet : RoundSheet
round_sheet = record {
  reads_back = sheet_back;
  reads_back_in = λ buf l n fits e. ap read_lists (file_in buf l n e) ∙ sheet_back l fits;
  writes_again = writes_again;
  injective = λ f g l bf bg ef eg. sym (is_sheet f l bf ef).1 ∙ (is_sheet g l bg eg).1;
  sheet_exactly = λ file l below. (is_sheet file l below, reads_as file l);
  too_few_exactly = too_few;
  left_over_exactly = left_over;
  one_of_three = one_of_three;
  not_both = λ file. two_refusals;
  not_refused = λ file s n. not_refused s n;
  placed = placed;
  holds = holds;
  sized = sized;
  longest = longest;
}

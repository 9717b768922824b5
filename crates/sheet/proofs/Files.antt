-- Reading a file: the three sections, and nothing left over. Assumes nothing.
use Prim.Native.Nat.{ℕ, ◌≤◌, ◌<◌}
use native.Mathlib.Omega.{arith}
use mathlib.Core.Path.{◌≡◌, refl, sym, ap, subst, ◌∙◌}
use mathlib.Core.Logic.{◌⊎◌, inl, inr}
use mathlib.Core.Bool.{Bool, true, false}
use mathlib.Core.List.{List, [], ◌∷◌, ◌++◌, append-nil}
use borrow.Author.Tests.{lt-ltb, le-ltb, ltb-true, ltb-false}
use lib.Dec.{ltb}
use lib.ListN.{length, length-append}
use lib.Seq.{take_all}
use Rattle.jhash.specs.Outcome.{Outcome, value, refusal}
use Rattle.jhash.proofs.ValueOrRefusal.{no_value}
use Rattle.sheet.specs.Format.{Lists, sheet_bytes}
use Rattle.sheet.specs.SheetReading.{part_end, and_then, sections, nothing_left, read_sheet, lists_of, read_lists}
use Rattle.sheet.specs.Theorems.RoundSheet.{Below, Fits}
use Rattle.sheet.specs.declared.Sheet.{Sheet}
use Rattle.sheet.proofs.Sheets.{Lie, Three, three_or_short, sheet_reads, lists_read, sheet_ends, front_again}

module _ (file : List ℕ) where
  pub reading_short : {n : ℕ} → sections file ≡ refusal n → read_sheet file ≡ refusal n
  unfolding read_sheet
  reading_short e = ap (λ (r : Outcome Sheet). and_then r (nothing_left file)) e

  module _ (s : Sheet) (e : sections file ≡ value s) where
    checked : read_sheet file ≡ nothing_left file s
    unfolding read_sheet
    checked = ap (λ (r : Outcome Sheet). and_then r (nothing_left file)) e

    pub reading_left : part_end s.retired < length file → read_sheet file ≡ refusal 20
    reading_left h = checked ∙ simp (lt-ltb (part_end s.retired) (length file) h)

    pub reading_whole : length file ≤ part_end s.retired → read_sheet file ≡ value s
    reading_whole h = checked ∙ simp (le-ltb (part_end s.retired) (length file) h)

  pub lists_of_lem : (s : Sheet) → read_sheet file ≡ value s → read_lists file ≡ value (lists_of file s)
  unfolding read_lists
  lists_of_lem s e = ap (λ (r : Outcome Sheet). and_then r (λ t. value (lists_of file t))) e

  pub no_lists : (n : ℕ) → read_sheet file ≡ refusal n → read_lists file ≡ refusal n
  unfolding read_lists
  no_lists n e = ap (λ (r : Outcome Sheet). and_then r (λ t. value (lists_of file t))) e

-- every file is a sheet, or goes on behind one, or breaks off
pub record Whole (file : List ℕ) : Type 0 where
  pub places : Sheet
  pub lie : Lie file places
  pub read : read_sheet file ≡ value places
  pub end : part_end places.retired ≡ length file

pub record Longer (file : List ℕ) : Type 0 where
  pub places : Sheet
  pub lie : Lie file places
  pub read : read_sheet file ≡ refusal 20
  pub end : part_end places.retired < length file

abbrev pub Cases : List ℕ → Type 0
Cases file = Whole file ⊎ (Longer file ⊎ (read_sheet file ≡ refusal 19))

pub cases : (file : List ℕ) → Cases file
cases file = found (three_or_short file)
  where
    ended : (t : Three file) (left : Bool) → ltb (part_end t.places.retired) (length file) ≡ left → Cases file
    ended t true k =
        let h = ltb-true (part_end t.places.retired) (length file) k in
        inr (inl (record { places = t.places; lie = t.lie; read = reading_left file t.places t.found h; end = h }))
    ended t false k =
        let h = ltb-false (part_end t.places.retired) (length file) k in
        let inside = t.lie.retired.inside in
        inl (record { places = t.places; lie = t.lie; read = reading_whole file t.places t.found h; end = omega arith })

    found : Three file ⊎ (sections file ≡ refusal 19) → Cases file
    found (inl t) = ended t (ltb (part_end t.places.retired) (length file)) refl
    found (inr short) = inr (inr (reading_short file short))

-- two answers of one file are one
pub one_value : {A : Type 0} {r : Outcome A} (x y : A) → r ≡ value x → r ≡ value y → x ≡ y
one_value x y p q = cc

pub not_refused : {A : Type 0} {r : Outcome A} (x : A) (n : ℕ) → r ≡ value x → ¬ (r ≡ refusal n)
not_refused x n p q = no_value n x (sym q ∙ p)

-- what holds of every whole file holds of the places that were read
pub of_whole : (P : Sheet → Type 0) (file : List ℕ) → ((w : Whole file) → P w.places) → (s : Sheet) → read_sheet file ≡ value s → P s
of_whole P file f s e = by (cases file)
  where
    by : Cases file → P s
    by (inl w) = subst P (one_value _ _ w.read e) (f w)
    by (inr (inl g)) = absurd (not_refused s 20 e g.read)
    by (inr (inr short)) = absurd (not_refused s 19 e short)

-- ---- the file of three lists

pub sheet_back : (l : Lists) → Fits l → read_lists (sheet_bytes l) ≡ value l
sheet_back l fits =
    let file = sheet_bytes l ++ [] in
    let same : file ≡ sheet_bytes l = append-nil (sheet_bytes l) in
    let read = reading_whole file _ (sheet_reads l [] fits) (omega (arith, sheet_ends l [], length-append (sheet_bytes l) [])) in
    ap read_lists (sym same) ∙ lists_of_lem file _ read ∙ ap value (lists_read l [] fits)

pub longer_read : (l : Lists) (rest : List ℕ) → Fits l → ¬ (rest ≡ []) → read_sheet (sheet_bytes l ++ rest) ≡ refusal 20
longer_read l [] fits n = absurd (n refl)
longer_read l (x ∷ rest) fits n =
    reading_left (sheet_bytes l ++ x ∷ rest) _ (sheet_reads l (x ∷ rest) fits)
    (omega (arith, sheet_ends l (x ∷ rest), length-append (sheet_bytes l) (x ∷ rest)))

-- a whole file is what the writer makes of its lists
pub whole_again : (file : List ℕ) → Below 256 file → (w : Whole file) → sheet_bytes (lists_of file w.places) ≡ file
whole_again file below w =
    front_again file w.places w.lie below ∙ take_all (part_end w.places.retired) file (omega (arith, w.end))

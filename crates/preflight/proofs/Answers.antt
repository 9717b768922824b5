-- The verdicts and the answers, by the branches of the code. Assumes nothing.
use Prim.Native.Nat.{ℕ}
use mathlib.Core.Path.{◌≡◌, refl, sym, ap, ◌∙◌}
use mathlib.Core.Bool.{Bool, true, false, cond}
use mathlib.Core.List.{List}
use lib.ListN.{length}
use borrow.Author.Tests.{eq-eqb, ne_eqb}
use Rattle.reader.specs.Naming.{name_given}
use Rattle.reader.specs.Slices.{Slice}
use Rattle.jhash.specs.Outcome.{Outcome, value, refusal}
use Rattle.sheet.specs.SheetReading.{read_lists}
use Rattle.sheet.specs.SheetReading as sheet
use Rattle.sheet.specs.declared.Sheet.{Sheet}
use Rattle.sheet.specs.declared.Which.{Which}
use Rattle.sheet.specs.declared.Which.TheVariants.{References, Walls, Retired}
use Rattle.preflight.specs.Names.{Names, first_nameless, first_renamed}
use Rattle.preflight.specs.Exchanges.{first_shared_in, some_kept_in, first_taken_in}
use Rattle.preflight.specs.OnSheet.{first_off, of_off, of_sheet}
use Rattle.preflight.specs.Verdicts.{is_whole, is_yes, and_then, of_nameless, of_shared, of_renamed, of_taken}
use Rattle.preflight.specs.Verdicts.{of_round, of_changes, verdict_first, verdict}
use Rattle.preflight.specs.Preflight.{if_yes, answer_of}
use Rattle.preflight.specs.declared.Objection.{Objection}
use Rattle.preflight.specs.declared.Objection.TheVariants as objection
use Rattle.preflight.specs.Cases.{objection_of}
use Rattle.preflight.specs.Answers.Answer.{Answer}
use Rattle.preflight.specs.Answers.Place.{Place}
use Rattle.preflight.specs.Answers.Place as place
use Rattle.preflight.specs.Answers.Shared.{Shared}
use Rattle.preflight.specs.Answers.Taken.{Taken}
use Rattle.preflight.specs.Answers.Verdict.{Verdict}
use Rattle.preflight.specs.Answers.Verdict.{NewRefused, SheetRefused, EmptyRound, Nameless, OldRefused, NothingAlike, Renamed}

-- an objection is no yes
pub objects : (o : Objection) → is_yes (objection_of o) ≡ false
objects objection.NewRefused = refl
objects (objection.SheetRefused r) = refl
objects (objection.OffSheet p) = refl
objects objection.EmptyRound = refl
objects (objection.Nameless p) = refl
objects (objection.OneName s) = refl
objects objection.OldRefused = refl
objects objection.NothingAlike = refl
objects (objection.Renamed p) = refl
objects (objection.NameTaken t) = refl

-- ---- the round by the new image
module _ (new : Names) (round : List ℕ) where
  pub round_empty : length round ≡ 0 → EmptyRound ≡ of_round new round
  unfolding of_round
  round_empty h = simp (eq-eqb (length round) 0 h)

  module _ (h : ¬ (length round ≡ 0)) where
    by_names : and_then (of_nameless (first_nameless new round)) (of_shared (first_shared_in new round)) ≡ of_round new round
    unfolding of_round
    by_names =
        ap (λ (t : Bool). cond t EmptyRound (and_then (of_nameless (first_nameless new round)) (of_shared (first_shared_in new round))))
        (sym (ne_eqb (length round) 0 h))

    pub round_nameless : (p : ℕ) → place.At p ≡ first_nameless new round → Nameless p ≡ of_round new round
    round_nameless p e = ap (λ (x : Place). and_then (of_nameless x) (of_shared (first_shared_in new round))) e ∙ by_names

    pub round_shared : (x : Shared) → place.Nothing ≡ first_nameless new round → x ≡ first_shared_in new round → of_shared x ≡ of_round new round
    round_shared x e f = ap of_shared f ∙ ap (λ (y : Place). and_then (of_nameless y) (of_shared (first_shared_in new round))) e ∙ by_names

-- ---- what changed
module _ (old new round accepted : List ℕ) where
  abbrev renamed_first : Place
  renamed_first = first_renamed (name_given old) (name_given new) accepted round

  abbrev by_changes : Verdict
  by_changes = and_then (of_renamed renamed_first) (of_taken (first_taken_in old new round))

  pub changes_refused : is_whole old ≡ false → OldRefused ≡ of_changes old new round accepted
  unfolding of_changes
  changes_refused h = simp h

  module _ (h : is_whole old ≡ true) where
    pub changes_unlike : some_kept_in old new ≡ false → NothingAlike ≡ of_changes old new round accepted
    unfolding of_changes
    changes_unlike k = simp (h, k)

    module _ (k : some_kept_in old new ≡ true) where
      changes_asked : by_changes ≡ of_changes old new round accepted
      unfolding of_changes
      changes_asked =
          ap (λ (t : Bool). cond t by_changes NothingAlike) (sym k)
          ∙ ap (λ (t : Bool). cond t (cond (some_kept_in old new) by_changes NothingAlike) OldRefused) (sym h)

      pub changes_renamed : (p : ℕ) → place.At p ≡ renamed_first → Renamed p ≡ of_changes old new round accepted
      changes_renamed p e = ap (λ (x : Place). and_then (of_renamed x) (of_taken (first_taken_in old new round))) e ∙ changes_asked

      pub changes_taken : (x : Taken) → place.Nothing ≡ renamed_first → x ≡ first_taken_in old new round → of_taken x ≡ of_changes old new round accepted
      changes_taken x e f =
          ap of_taken f ∙ ap (λ (y : Place). and_then (of_renamed y) (of_taken (first_taken_in old new round))) e ∙ changes_asked

-- ---- one verdict after another
pub stops : (a b x : Verdict) → a ≡ x → is_yes a ≡ false → a ≡ and_then x b
stops a b x e h = sym (ap (λ (t : Bool). cond t b a) h) ∙ ap (λ (y : Verdict). and_then y b) e

pub goes_on : (a b c x : Verdict) → a ≡ x → is_yes a ≡ true → c ≡ b → c ≡ and_then x b
goes_on a b c x e h f = f ∙ sym (ap (λ (t : Bool). cond t b a) h) ∙ ap (λ (y : Verdict). and_then y b) e

module _ (new sheet round : List ℕ) where
  pub first_refused : is_whole new ≡ false → NewRefused ≡ verdict_first new sheet round
  unfolding verdict_first
  first_refused h = simp h

  pub first_is : is_whole new ≡ true → and_then (of_sheet (read_lists sheet) round) (of_round (name_given new) round) ≡ verdict_first new sheet round
  unfolding verdict_first
  first_is h =
      ap (λ (t : Bool). cond t (and_then (of_sheet (read_lists sheet) round) (of_round (name_given new) round)) NewRefused) (sym h)

pub verdict_is : (old new sheet round accepted : List ℕ)
    → and_then (verdict_first new sheet round) (of_changes old new round accepted) ≡ verdict old new sheet round accepted
unfolding verdict
verdict_is old new sheet round accepted = refl

-- ---- the sheet
module _ (file : Slice) (round : List ℕ) where
  abbrev listed : Outcome Sheet → Verdict
  listed x = of_sheet (sheet.and_then x (λ (s : Sheet). value (sheet.lists_of file.bytes s))) round

  pub sheet_refused : (k : ℕ) → refusal k ≡ sheet.read_sheet file.bytes → SheetRefused k ≡ of_sheet (read_lists file.bytes) round
  unfolding sheet.read_lists
  sheet_refused k e = ap listed e

  module _ (s : Sheet) (e : value s ≡ sheet.read_sheet file.bytes) where
    part_is : (which : Which) (a : Slice) → a ≡ sheet.section_part file which → a.bytes ≡ sheet.part_bytes file.bytes (sheet.section_of s which)
    part_is which a f = ap (λ (b : Slice). b.bytes) (f ∙ ap (sheet.section_or_empty file which) (sym e))

    pub sheet_whole : (a b c : Slice) (x : Place) → a ≡ sheet.section_part file References → b ≡ sheet.section_part file Walls
        → c ≡ sheet.section_part file Retired
        → x ≡ first_off (sheet.ids_in a.bytes) (sheet.ids_in b.bytes) (sheet.ids_in c.bytes) round
        → of_off x ≡ of_sheet (read_lists file.bytes) round
    unfolding sheet.read_lists
    sheet_whole a b c x f g h d =
        let pa = part_is References a f in
        let pb = part_is Walls b g in
        let pc = part_is Retired c h in
        ap of_off (d ∙ (λ i. first_off (sheet.ids_in (pa i)) (sheet.ids_in (pb i)) (sheet.ids_in (pc i)) round)) ∙ ap listed e

-- ---- the whole answer
module _ (v w : Verdict) (e : v ≡ w) where
  pub answer_no : (c a u : ℕ) → is_yes v ≡ false
      → ◌≡◌ {A = Answer} (record { verdict = v; compared = 0; added = 0; unsighted = 0 }) (answer_of w c a u)
  answer_no c a u h =
      (λ i. record { verdict = v; compared = uncounted c i; added = uncounted a i; unsighted = uncounted u i })
      ∙ ap (λ (x : Verdict). answer_of x c a u) e
    where
      uncounted : (n : ℕ) → 0 ≡ if_yes v n
      uncounted n = sym (ap (λ (t : Bool). cond t n 0) h)

  pub answer_yes : (c c' a a' u u' : ℕ) → is_yes v ≡ true → c ≡ c' → a ≡ a' → u ≡ u'
      → ◌≡◌ {A = Answer} (record { verdict = v; compared = c; added = a; unsighted = u }) (answer_of w c' a' u')
  answer_yes c c' a a' u u' h f g k =
      (λ i. record { verdict = v; compared = counted c i; added = counted a i; unsighted = counted u i })
      ∙ (λ i. answer_of (e i) (f i) (g i) (k i))
    where
      counted : (n : ℕ) → n ≡ if_yes v n
      counted n = sym (ap (λ (t : Bool). cond t n 0) h)

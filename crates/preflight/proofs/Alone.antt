-- The questions of a first report, each by what it asks. Assumes nothing.
use Prim.Native.Nat.{ℕ, ◌+◌}
use native.Mathlib.Omega.{arith}
use mathlib.Core.Path.{◌≡◌, refl, sym, ap, ◌∙◌}
use mathlib.Core.Bool.{Bool, true, false, cond, not}
use mathlib.Core.List.{List, [], ◌∷◌, ◌++◌}
use lib.Dec.{eqb}
use lib.ListN.{length}
use borrow.Author.Tests.{eq-eqb, ne_eqb, eqb-true, eqb-false}
use Rattle.jhash.specs.Outcome.{Outcome, value, refusal}
use Rattle.image.specs.Bytes.{word}
use Rattle.image.specs.declared.Mode.TheVariants.{Twoway, Oneway}
use Rattle.image.proofs.Bools.{false_not_true}
use Rattle.reader.specs.Naming.{name_given}
use Rattle.canonical.specs.Canonical.{canonical}
use Rattle.sheet.specs.Format.{Lists}
use Rattle.sheet.specs.SheetReading.{read_lists}
use Rattle.preflight.specs.Ids.{is_id, count}
use Rattle.preflight.specs.Names.{nameless, first_nameless}
use Rattle.preflight.specs.Exchanges.{first_shared_in}
use Rattle.preflight.specs.OnSheet.{off_sheet, first_off, of_off, of_sheet}
use Rattle.preflight.specs.Verdicts.{is_whole, and_then, of_nameless, of_shared, of_round, verdict_first}
use Rattle.preflight.specs.Theorems.Asked.{In, Whole, OnSheet, RoundNamed, MayLeaveFirst}
use Rattle.preflight.specs.Answers.Verdict.{Verdict}
use Rattle.preflight.specs.Answers.Verdict as verdict
use Rattle.preflight.specs.Answers.Verdict.{Yes, NewRefused, EmptyRound}
use Rattle.preflight.proofs.Members.{passing_append, none_counted, counted_none, none_passes, passes_none}
use Rattle.preflight.proofs.Questions as asked
use Rattle.preflight.proofs.Yes.{no_yes, both, both_back, unless, nameless_none, shared_none, off_none}

-- ---- 1, 7
two_way_so : (t : Bool) → cond t Twoway Oneway ≡ Twoway → t ≡ true
two_way_so true h = refl
two_way_so false h = let z : ◌≡◌ {A = ℕ} 0 1 = cc in absurd (omega arith)

pub whole_forth : (image : List ℕ) → is_whole image ≡ true → Whole image
whole_forth image h = by_case (canonical image) refl h
  where
    by_case : (t : Bool) → canonical image ≡ t → cond t (eqb (word image 8) 0) false ≡ true → Whole image
    by_case true e q = record { is_canonical = e; two_way = ap (λ (u : Bool). cond u Twoway Oneway) q }
    by_case false e q = absurd (false_not_true q)

pub whole_back : (image : List ℕ) → Whole image → is_whole image ≡ true
whole_back image w =
    ap (λ (t : Bool). cond t (eqb (word image 8) 0) false) w.is_canonical ∙ two_way_so (eqb (word image 8) 0) w.two_way

-- ---- 2, 3
module _ (lists : Lists) (i : ℕ) where
  abbrev listed : ℕ
  listed = count i (lists.references ++ lists.walls ++ lists.retired)

  all_counted : listed ≡ count i lists.references + count i lists.walls + count i lists.retired
  all_counted =
      passing_append (is_id i) (lists.references ++ lists.walls) lists.retired
      ∙ ap (λ (k : ℕ). k + count i lists.retired) (passing_append (is_id i) lists.references lists.walls)

  on_forth : off_sheet lists.references lists.walls lists.retired i ≡ false → (listed ≡ 1) × ¬ In i lists.retired
  unfolding off_sheet
  on_forth h = by_case (eqb (count i lists.references + count i lists.walls) 1) refl (eqb (count i lists.retired) 0) refl h
    where
      by_case : (t : Bool) → eqb (count i lists.references + count i lists.walls) 1 ≡ t → (u : Bool) → eqb (count i lists.retired) 0 ≡ u
          → cond t (not u) true ≡ false → (listed ≡ 1) × ¬ In i lists.retired
      by_case true e true f q =
          let a = eqb-true (count i lists.references + count i lists.walls) 1 e in
          let b = eqb-true (count i lists.retired) 0 f in
          (omega (arith, all_counted, a, b), counted_none i lists.retired b)
      by_case true e false f q = absurd (false_not_true (sym q))
      by_case false e u f q = absurd (false_not_true (sym q))

  pub on_back : listed ≡ 1 → ¬ In i lists.retired → off_sheet lists.references lists.walls lists.retired i ≡ false
  unfolding off_sheet
  on_back h n =
      let b = none_counted i lists.retired n in
      let a : count i lists.references + count i lists.walls ≡ 1 = omega (arith, all_counted, h, b) in
      simp (eq-eqb (count i lists.references + count i lists.walls) 1 a, eq-eqb (count i lists.retired) 0 b)

module _ (sheet round : List ℕ) where
  pub sheet_forth : of_sheet (read_lists sheet) round ≡ Yes → OnSheet sheet round
  sheet_forth h = by_case (read_lists sheet) refl h
    where
      by_case : (x : Outcome Lists) → read_lists sheet ≡ x → of_sheet x round ≡ Yes → OnSheet sheet round
      by_case (value l) e q =
          let off = off_sheet l.references l.walls l.retired in
          let none-off = none_passes off 0 round (off_none (first_off l.references l.walls l.retired round) q) in
          record {
            lists = l;
            reads = e;
            once = λ i m. (on_forth l i (none-off i m)).0;
            in_use = λ i m. (on_forth l i (none-off i m)).1;
          }
      by_case (refusal k) e q = no_yes (verdict.SheetRefused k) refl q

  pub sheet_back : OnSheet sheet round → of_sheet (read_lists sheet) round ≡ Yes
  sheet_back s =
      let l = s.lists in
      ap (λ (x : Outcome Lists). of_sheet x round) s.reads
      ∙ ap of_off (passes_none (off_sheet l.references l.walls l.retired) 0 round (λ i m. on_back l i (s.once i m) (s.in_use i m)))

-- ---- 4, 5, 6
module _ (new round : List ℕ) where
  pub empty_so : (xs : List ℕ) → length xs ≡ 0 → xs ≡ []
  empty_so [] h = refl
  empty_so (x ∷ xs) h = absurd (omega arith)

  pub round_forth : of_round (name_given new) round ≡ Yes → RoundNamed new round
  unfolding of_round
  round_forth h = by_case (eqb (length round) 0) refl h
    where
      rest : Verdict
      rest = and_then (of_nameless (first_nameless (name_given new) round)) (of_shared (first_shared_in (name_given new) round))

      by_case : (t : Bool) → eqb (length round) 0 ≡ t → cond t EmptyRound rest ≡ Yes → RoundNamed new round
      by_case true e q = no_yes EmptyRound refl q
      by_case false e q =
          let two = both (of_nameless (first_nameless (name_given new) round)) (of_shared (first_shared_in (name_given new) round)) q in
          let all_named = none_passes (nameless (name_given new)) 0 round (nameless_none (first_nameless (name_given new) round) two.0) in
          let alone = shared_none (first_shared_in (name_given new) round) two.1 in
          record {
            some_id = λ n. eqb-false (length round) 0 e (ap length n);
            named = λ i m. asked.not_empty (name_given new i) (all_named i m);
            one_name = λ i k m n d.
                let w = asked.not_empty (name_given new i) (all_named i m) in
                asked.one_name (name_given new) round alone i k w.0 m n w.1 (sym d ∙ w.1);
          }

  pub round_back : RoundNamed new round → of_round (name_given new) round ≡ Yes
  unfolding of_round
  round_back r =
      ap (λ (t : Bool). cond t EmptyRound (and_then (of_nameless (first_nameless (name_given new) round)) (of_shared (first_shared_in (name_given new) round))))
      (ne_eqb (length round) 0 (λ e. r.some_id (empty_so round e)))
      ∙ both_back (of_nameless (first_nameless (name_given new) round)) (of_shared (first_shared_in (name_given new) round))
      (ap of_nameless (passes_none (nameless (name_given new)) 0 round (λ i m. asked.not_empty_back (name_given new i) (r.named i m))))
      (ap of_shared (asked.one_name_back (name_given new) round r.one_name))

-- ---- 1 to 6
module _ (new sheet round : List ℕ) where
  abbrev rest : Verdict
  rest = and_then (of_sheet (read_lists sheet) round) (of_round (name_given new) round)

  pub first_forth : verdict_first new sheet round ≡ Yes → MayLeaveFirst new sheet round
  unfolding verdict_first
  first_forth h =
      let u = unless (is_whole new) rest NewRefused refl h in
      let two = both (of_sheet (read_lists sheet) round) (of_round (name_given new) round) u.1 in
      record {
        new_whole = whole_forth new u.0;
        on_sheet = sheet_forth sheet round two.0;
        round_named = round_forth new round two.1;
      }

  pub first_back : MayLeaveFirst new sheet round → verdict_first new sheet round ≡ Yes
  unfolding verdict_first
  first_back m =
      ap (λ (t : Bool). cond t rest NewRefused) (whole_back new m.new_whole)
      ∙ both_back (of_sheet (read_lists sheet) round) (of_round (name_given new) round) (sheet_back sheet round m.on_sheet)
      (round_back new round m.round_named)

  -- so the sheet alone gives a yes
  pub sheet_yes : verdict_first new sheet round ≡ Yes → of_sheet (read_lists sheet) round ≡ Yes
  sheet_yes h = sheet_back sheet round (first_forth h).on_sheet

-- What each verdict says (`specs/Theorems/Fails`), by the branch that gives it: from the last question to the first. Assumes nothing.
use Prim.Native.Nat.{ℕ}
use mathlib.Core.Path.{◌≡◌, refl, sym, ap, ◌∙◌}
use mathlib.Core.Bool.{Bool, true, false, cond}
use mathlib.Core.List.{List}
use lib.Dec.{eqb}
use lib.ListN.{length}
use borrow.Author.Tests.{eqb-true, eqb-false}
use Rattle.jhash.specs.Outcome.{Outcome, value, refusal}
use Rattle.image.proofs.Bools.{false_not_true}
use Rattle.reader.specs.Naming.{name_given}
use Rattle.sheet.specs.Format.{Lists}
use Rattle.sheet.specs.SheetReading.{read_lists}
use Rattle.preflight.specs.Names.{nameless, first_nameless, first_renamed}
use Rattle.preflight.specs.Exchanges.{first_shared_in, some_kept_in, first_taken_in}
use Rattle.preflight.specs.OnSheet.{off_sheet, first_off, of_off, of_sheet}
use Rattle.preflight.specs.Verdicts.{is_whole, and_then, of_nameless, of_shared, of_renamed, of_taken, of_round, of_changes, verdict_first, verdict}
use Rattle.preflight.specs.Theorems.Asked.{Whole, OnSheet, SomeAlike, NotRenamed, MayLeaveFirst}
use Rattle.preflight.specs.Theorems.Fails.{Says, VerdictSays}
use Rattle.preflight.specs.Answers.Place.{Place}
use Rattle.preflight.specs.Answers.Place as place
use Rattle.preflight.specs.Answers.Shared.{Shared}
use Rattle.preflight.specs.Answers.Shared as shared
use Rattle.preflight.specs.Answers.Taken.{Taken}
use Rattle.preflight.specs.Answers.Taken as taken
use Rattle.preflight.specs.Answers.Verdict.{Verdict}
use Rattle.preflight.specs.Answers.Verdict.{NewRefused, EmptyRound, OldRefused, NothingAlike}
use Rattle.preflight.proofs.Answers.{round_shared}
use Rattle.preflight.proofs.Members.{none_passes}
use Rattle.preflight.proofs.Questions as asked
use Rattle.preflight.proofs.Alone.{whole_forth, whole_back, on_back, sheet_forth, round_forth, empty_so}
use Rattle.preflight.proofs.Changed.{alike_forth, alike_back, untaken}
use Rattle.preflight.proofs.Fails.{found_at, shows_nameless, shows_shared, shows_renamed, shows_taken}

module _ (old new sheet round accepted : List ℕ) where
  abbrev Said : Verdict → Type 0
  Said = Says old new sheet round accepted

  abbrev changes : Verdict
  changes = of_changes old new round accepted

  -- ---- 10 to 7
  module _ (alone : MayLeaveFirst new sheet round) where
    by_taken : Whole old → SomeAlike old new → NotRenamed old new round accepted → (x : Taken) → first_taken_in old new round ≡ x → Said (of_taken x)
    by_taken w a n (taken.By j p) e = (alone, w, a, n, shows_taken old new round accepted j p e)
    by_taken w a n taken.Nothing e =
        record { alone = alone; old_whole = w; some_alike = a; not_renamed = n; not_taken = untaken old new round accepted e }

    by_renamed : Whole old → SomeAlike old new → (x : Place) → first_renamed (name_given old) (name_given new) accepted round ≡ x
        → Said (and_then (of_renamed x) (of_taken (first_taken_in old new round)))
    by_renamed w a (place.At p) e = (alone, w, a, shows_renamed old new round accepted p e)
    by_renamed w a place.Nothing e =
        by_taken w a (asked.not_renamed (name_given old) (name_given new) accepted round e) (first_taken_in old new round) refl

    abbrev renamed_or_taken : Verdict
    renamed_or_taken =
        and_then (of_renamed (first_renamed (name_given old) (name_given new) accepted round)) (of_taken (first_taken_in old new round))

    by_alike : Whole old → (t : Bool) → some_kept_in old new ≡ t → Said (cond t renamed_or_taken NothingAlike)
    by_alike w true e = by_renamed w (alike_forth old new e) (first_renamed (name_given old) (name_given new) accepted round) refl
    by_alike w false e = (alone, w, λ a. false_not_true (sym e ∙ alike_back old new a))

    by_old : (t : Bool) → is_whole old ≡ t → Said (cond t (cond (some_kept_in old new) renamed_or_taken NothingAlike) OldRefused)
    by_old true e = by_alike (whole_forth old e) (some_kept_in old new) refl
    by_old false e = (alone, λ w. false_not_true (sym e ∙ whole_back old w))

    changes_say : Said changes
    unfolding of_changes
    changes_say = by_old (is_whole old) refl

  -- ---- 6 to 4
  module _ (w : Whole new) where
    by_shared : OnSheet sheet round → ¬ (length round ≡ 0) → first_nameless (name_given new) round ≡ place.Nothing
        → (x : Shared) → first_shared_in (name_given new) round ≡ x → Said (and_then (of_shared x) changes)
    by_shared o h n (shared.Places p q) e = (
      w,
      o,
      λ i m. asked.not_empty (name_given new i) (none_passes (nameless (name_given new)) 0 round n i m),
      shows_shared old new round accepted p q e,
    )
    by_shared o h n shared.Nothing e =
        let named = round_forth new round (sym (round_shared (name_given new) round h shared.Nothing (sym n) (sym e))) in
        changes_say (record { new_whole = w; on_sheet = o; round_named = named })

    by_nameless : OnSheet sheet round → ¬ (length round ≡ 0) → (x : Place) → first_nameless (name_given new) round ≡ x
        → Said (and_then (and_then (of_nameless x) (of_shared (first_shared_in (name_given new) round))) changes)
    by_nameless o h (place.At p) e = (w, o, shows_nameless old new round accepted p e)
    by_nameless o h place.Nothing e = by_shared o h e (first_shared_in (name_given new) round) refl

    by_length : OnSheet sheet round → (t : Bool) → eqb (length round) 0 ≡ t
        → Said (and_then (cond t EmptyRound
        (and_then (of_nameless (first_nameless (name_given new) round)) (of_shared (first_shared_in (name_given new) round)))) changes)
    by_length o true e = (w, o, empty_so new round round (eqb-true (length round) 0 e))
    by_length o false e = by_nameless o (eqb-false (length round) 0 e) (first_nameless (name_given new) round) refl

    round_says : OnSheet sheet round → Said (and_then (of_round (name_given new) round) changes)
    unfolding of_round
    round_says o = by_length o (eqb (length round) 0) refl

    -- ---- 3, 2
    by_off : (l : Lists) → read_lists sheet ≡ value l → (x : Place) → first_off l.references l.walls l.retired round ≡ x
        → Said (and_then (and_then (of_off x) (of_round (name_given new) round)) changes)
    by_off l r (place.At p) e =
        let f = found_at (off_sheet l.references l.walls l.retired) round p e in (
          w,
          record {
            lists = l;
            reads = r;
            id = f.id;
            there = f.there;
            off = λ once in_use. false_not_true (sym (on_back l f.id once in_use) ∙ f.passes);
          },
        )
    by_off l r place.Nothing e = round_says (sheet_forth sheet round (ap (λ (y : Outcome Lists). of_sheet y round) r ∙ ap of_off e))

    by_lists : (x : Outcome Lists) → read_lists sheet ≡ x → Said (and_then (and_then (of_sheet x round) (of_round (name_given new) round)) changes)
    by_lists (value l) e = by_off l e (first_off l.references l.walls l.retired round) refl
    by_lists (refusal k) e = (w, e)

  -- ---- 1
  by_new : (t : Bool) → is_whole new ≡ t
      → Said (and_then (cond t (and_then (of_sheet (read_lists sheet) round) (of_round (name_given new) round)) NewRefused) changes)
  by_new true e = by_lists (whole_forth new e) (read_lists sheet) refl
  by_new false e = λ w. false_not_true (sym e ∙ whole_back new w)

pub verdict_says : VerdictSays
unfolding verdict verdict_first
verdict_says old new sheet round accepted = by_new old new sheet round accepted (is_whole new) refl

-- The questions of what changed, each by what it asks, and all questions. Assumes nothing.
use Prim.Native.Nat.{ℕ, ◌<◌}
use native.Mathlib.Omega.{arith}
use native.Mathlib.Decide.{dec_lt}
use mathlib.Core.Path.{◌≡◌, refl, sym, ap, ◌∙◌}
use mathlib.Core.Bool.{Bool, true, cond}
use mathlib.Core.List.{List}
use mathlib.Core.Option.{some}
use Rattle.reader.specs.Naming.{name_given}
use Rattle.reader.specs.IdWalk.{upper_hint}
use Rattle.preflight.specs.Names.{first_renamed}
use Rattle.preflight.specs.Exchanges.{some_kept_in, first_taken_in}
use Rattle.preflight.specs.Verdicts.{is_whole, and_then, of_renamed, of_taken, of_changes, verdict_first, verdict}
use Rattle.preflight.specs.Theorems.Asked.{Whole, SomeAlike, NotRenamed, NotTaken, MayLeave}
use Rattle.preflight.specs.Answers.Place.{Place}
use Rattle.preflight.specs.Answers.Taken as taken
use Rattle.preflight.specs.Answers.Verdict.{Verdict}
use Rattle.preflight.specs.Answers.Verdict.{Yes, OldRefused, NothingAlike}
use Rattle.preflight.proofs.Given.{none_above}
use Rattle.preflight.proofs.Questions as asked
use Rattle.preflight.proofs.Yes.{both, both_back, unless, renamed_none, taken_none}
use Rattle.preflight.proofs.Alone.{whole_forth, whole_back, first_forth, first_back}

-- an id that the old image names is below its upper hint
below : (old : List ℕ) (j : ℕ) (name : List ℕ) → name_given old j ≡ some name → j < upper_hint old 0
below old j name e =
    elim (dec_lt j (upper_hint old 0)) [
      | yes p ↦ p
      | no p ↦ asked.none_some name (sym (none_above old j (omega arith)) ∙ e)
    ]

-- ---- 8
module _ (old new : List ℕ) where
  pub alike_forth : some_kept_in old new ≡ true → SomeAlike old new
  alike_forth h =
      let k = asked.some_alike (name_given old) (name_given new) (upper_hint old 0) 0 h in
      record { id = k.0; name = k.1; then = k.2; since = k.3 }

  pub alike_back : SomeAlike old new → some_kept_in old new ≡ true
  alike_back k =
      let b = below old k.id k.name k.then in
      asked.alike_some (name_given old) (name_given new) (upper_hint old 0) 0 k.id k.name (omega arith) (omega (arith, b)) k.then k.since

-- ---- 7 to 10
module _ (old new round accepted : List ℕ) where
  abbrev renamed_first : Place
  renamed_first = first_renamed (name_given old) (name_given new) accepted round

  abbrev by_names : Verdict
  by_names = and_then (of_renamed renamed_first) (of_taken (first_taken_in old new round))

  abbrev by_alike : Verdict
  by_alike = cond (some_kept_in old new) by_names NothingAlike

  pub untaken : first_taken_in old new round ≡ taken.Nothing → NotTaken old new round
  untaken h i j name m e d =
      let b = below old j name e in
      asked.none_taken (name_given old) (name_given new) round (upper_hint old 0) 0 h j (omega arith) (omega (arith, b)) i name m e d

  pub record Kept : Type 0 where
    pub old_whole : Whole old
    pub some_alike : SomeAlike old new
    pub not_renamed : NotRenamed old new round accepted
    pub not_taken : NotTaken old new round

  pub changes_forth : of_changes old new round accepted ≡ Yes → Kept
  unfolding of_changes
  changes_forth h =
      let u = unless (is_whole old) by_alike OldRefused refl h in
      let k = unless (some_kept_in old new) by_names NothingAlike refl u.1 in
      let two = both (of_renamed renamed_first) (of_taken (first_taken_in old new round)) k.1 in
      record {
        old_whole = whole_forth old u.0;
        some_alike = alike_forth old new k.0;
        not_renamed = asked.not_renamed (name_given old) (name_given new) accepted round (renamed_none renamed_first two.0);
        not_taken = untaken (taken_none (first_taken_in old new round) two.1);
      }

  pub changes_back : Kept → of_changes old new round accepted ≡ Yes
  unfolding of_changes
  changes_back k =
      ap (λ (t : Bool). cond t by_alike OldRefused) (whole_back old k.old_whole)
      ∙ ap (λ (t : Bool). cond t by_names NothingAlike) (alike_back old new k.some_alike)
      ∙ both_back (of_renamed renamed_first) (of_taken (first_taken_in old new round))
      (ap of_renamed (asked.renamed_none (name_given old) (name_given new) accepted round k.not_renamed))
      (ap of_taken (asked.taken_none (name_given old) (name_given new) round (upper_hint old 0) 0 (λ j i name m e d. k.not_taken i j name m e d)))

-- ---- 1 to 10
module _ (old new sheet round accepted : List ℕ) where
  pub forth : verdict old new sheet round accepted ≡ Yes → MayLeave old new sheet round accepted
  unfolding verdict
  forth h =
      let two = both (verdict_first new sheet round) (of_changes old new round accepted) h in
      let k = changes_forth old new round accepted two.1 in
      record {
        alone = first_forth new sheet round two.0;
        old_whole = k.old_whole;
        some_alike = k.some_alike;
        not_renamed = k.not_renamed;
        not_taken = k.not_taken;
      }

  pub back : MayLeave old new sheet round accepted → verdict old new sheet round accepted ≡ Yes
  unfolding verdict
  back m =
      both_back (verdict_first new sheet round) (of_changes old new round accepted) (first_back new sheet round m.alone)
      (changes_back old new round accepted
      (record { old_whole = m.old_whole; some_alike = m.some_alike; not_renamed = m.not_renamed; not_taken = m.not_taken }))

  -- so the questions of a first report alone give a yes
  pub alone_yes : verdict old new sheet round accepted ≡ Yes → verdict_first new sheet round ≡ Yes
  alone_yes h = first_back new sheet round (forth h).alone

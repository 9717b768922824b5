-- When a verdict is yes: what the verdicts that it is made of are. Assumes nothing.
use mathlib.Core.Path.{◌≡◌, refl, sym, ap, ◌∙◌}
use mathlib.Core.Bool.{Bool, true, false, cond}
use Rattle.image.proofs.Bools.{false_not_true}
use Rattle.preflight.specs.OnSheet.{of_off}
use Rattle.preflight.specs.Verdicts.{is_yes, and_then, of_nameless, of_shared, of_renamed, of_taken}
use Rattle.preflight.specs.Answers.Place.{Place}
use Rattle.preflight.specs.Answers.Place as place
use Rattle.preflight.specs.Answers.Shared.{Shared}
use Rattle.preflight.specs.Answers.Shared as shared
use Rattle.preflight.specs.Answers.Taken.{Taken}
use Rattle.preflight.specs.Answers.Taken as taken
use Rattle.preflight.specs.Answers.Verdict.{Verdict}
use Rattle.preflight.specs.Answers.Verdict as verdict
use Rattle.preflight.specs.Answers.Verdict.{Yes}

pub no_yes : {P : Type 0} (a : Verdict) → is_yes a ≡ false → a ≡ Yes → P
no_yes a h e = absurd (false_not_true (sym h ∙ ap is_yes e))

pub yes_only : (a : Verdict) → is_yes a ≡ true → a ≡ Yes
yes_only Yes h = refl
yes_only verdict.NewRefused h = absurd (false_not_true h)
yes_only (verdict.SheetRefused k) h = absurd (false_not_true h)
yes_only (verdict.OffSheet p) h = absurd (false_not_true h)
yes_only verdict.EmptyRound h = absurd (false_not_true h)
yes_only (verdict.Nameless p) h = absurd (false_not_true h)
yes_only (verdict.OneName p q) h = absurd (false_not_true h)
yes_only verdict.OldRefused h = absurd (false_not_true h)
yes_only verdict.NothingAlike h = absurd (false_not_true h)
yes_only (verdict.Renamed p) h = absurd (false_not_true h)
yes_only (verdict.NameTaken id p) h = absurd (false_not_true h)

pub both : (a b : Verdict) → and_then a b ≡ Yes → (a ≡ Yes) × (b ≡ Yes)
both a b h = by_case (is_yes a) refl h
  where
    by_case : (t : Bool) → is_yes a ≡ t → cond t b a ≡ Yes → (a ≡ Yes) × (b ≡ Yes)
    by_case true e q = (yes_only a e, q)
    by_case false e q = no_yes a e q

pub both_back : (a b : Verdict) → a ≡ Yes → b ≡ Yes → and_then a b ≡ Yes
both_back a b e f = ap (λ (x : Verdict). and_then x b) e ∙ f

pub unless : (t : Bool) (a b : Verdict) → is_yes b ≡ false → cond t a b ≡ Yes → (t ≡ true) × (a ≡ Yes)
unless true a b n h = (refl, h)
unless false a b n h = no_yes b n h

pub nameless_none : (x : Place) → of_nameless x ≡ Yes → x ≡ place.Nothing
nameless_none (place.At p) h = no_yes (verdict.Nameless p) refl h
nameless_none place.Nothing h = refl

pub shared_none : (x : Shared) → of_shared x ≡ Yes → x ≡ shared.Nothing
shared_none (shared.Places p q) h = no_yes (verdict.OneName p q) refl h
shared_none shared.Nothing h = refl

pub renamed_none : (x : Place) → of_renamed x ≡ Yes → x ≡ place.Nothing
renamed_none (place.At p) h = no_yes (verdict.Renamed p) refl h
renamed_none place.Nothing h = refl

pub taken_none : (x : Taken) → of_taken x ≡ Yes → x ≡ taken.Nothing
taken_none (taken.By id p) h = no_yes (verdict.NameTaken id p) refl h
taken_none taken.Nothing h = refl

pub off_none : (x : Place) → of_off x ≡ Yes → x ≡ place.Nothing
off_none (place.At p) h = no_yes (verdict.OffSheet p) refl h
off_none place.Nothing h = refl

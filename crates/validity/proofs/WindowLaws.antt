-- The rule over lists of windows, and the fold that computes it. Assumes nothing.
use mathlib.Core.Path.{◌≡◌, refl, sym, ap, ◌∙◌}
use Prim.Native.Nat.{ℕ}
use mathlib.Core.Bool.{Bool, true, false, cond, not, ◌||◌, or_assoc, or-false}
use mathlib.Core.List.{List, [], ◌∷◌}
use Rattle.std.specs.Prelude.{fold}
use Rattle.jhash.specs.Outcome.{Outcome, value, refusal}
use Rattle.reader.specs.Slices.{Slice, subslice}
use Rattle.reader.specs.Naming.{Naming, unnamed, naming, slice_or}
use Rattle.validity.specs.Calendar.{is_date}
use Rattle.validity.specs.Rule.{some_window, invalid_dates, inverted, holds_date, in_season, naming_on, named_in, name_part_on}
use Rattle.validity.specs.Steps.Fold.{one_window_state, stronger, stepped, folded}
use Rattle.validity.specs.Windows.{window_state, answer_by, place_by_state, part_by_state}
use Rattle.validity.specs.declared.Date.{Date}
use Rattle.validity.specs.declared.Window.{Window}
use Rattle.validity.specs.declared.WindowState.{WindowState}
use Rattle.validity.specs.declared.WindowState.TheVariants.{Inactive, Active, Inverted, InvalidDate}

-- the state where some window has an invalid date, some is inverted, some is active
abbrev form : Bool → Bool → Bool → WindowState
form a b c = cond a InvalidDate (cond b Inverted (cond c Active Inactive))

-- the stronger of two states is the state of all windows of both
joined : (a b c d e f : Bool) → stronger (form a b c) (form d e f) ≡ form (a || d) (b || e) (c || f)
joined true b c true e f = refl
joined true b c false true f = refl
joined true b c false false true = refl
joined true b c false false false = refl
joined false true c true e f = refl
joined false true c false true f = refl
joined false true c false false true = refl
joined false true c false false false = refl
joined false false true true e f = refl
joined false false true false true f = refl
joined false false true false false true = refl
joined false false true false false false = refl
joined false false false true e f = refl
joined false false false false true f = refl
joined false false false false false true = refl
joined false false false false false false = refl

module _ (id : ℕ) (date : Date) where
  folded_form : (a b c : Bool) (ws : List Window)
      → folded id date (form a b c) ws ≡ form (a || some_window invalid_dates ws) (b || some_window inverted ws) (c || some_window (holds_date id date) ws)
  unfolding folded some_window one_window_state
  folded_form a b c [] = sym (λ i. form (or-false a i) (or-false b i) (or-false c i))
  folded_form a b c (w ∷ ws) =
      ap (λ (s : WindowState). folded id date s ws) (stepped_form w)
      ∙ folded_form (a || invalid_dates w) (b || inverted w) (c || holds_date id date w) ws
      ∙ (λ i. form (or_assoc a (invalid_dates w) (some_window invalid_dates ws) i) (or_assoc b (inverted w) (some_window inverted ws) i)
      (or_assoc c (holds_date id date w) (some_window (holds_date id date) ws) i))
    where
      stepped_form : (w : Window) → stepped id date (form a b c) w ≡ form (a || invalid_dates w) (b || inverted w) (c || holds_date id date w)
      stepped_form w = joined a b c (invalid_dates w) (inverted w) (holds_date id date w)

  -- one pass computes the rule
  pub folded_is_state : (ws : List Window) → folded id date Inactive ws ≡ window_state id date ws
  unfolding window_state
  folded_is_state ws = folded_form false false false ws

  -- the fold that the code runs
  folding : (s : WindowState) (ws : List Window) → fold (stepped id date) s ws ≡ folded id date s ws
  unfolding folded
  folding s [] = refl
  folding s (w ∷ ws) = folding (stepped id date s w) ws

  pub folds : (ws : List Window) → fold (stepped id date) Inactive ws ≡ window_state id date ws
  folds ws = folding Inactive ws ∙ folded_is_state ws

-- ---- the answer by the state is the rule's answer
module _ (image : List ℕ) (id : ℕ) (date : Date) (ws : List Window) where
  pub placed : place_by_state image id date (window_state id date ws) ≡ naming_on image id date ws
  unfolding window_state in_season
  placed =
      ap (λ (x : Outcome Naming). cond (not (is_date date)) (refusal 22) x)
      (by_form (some_window invalid_dates ws) (some_window inverted ws) (some_window (holds_date id date) ws))
    where
      by_form : (a b c : Bool) → answer_by (form a b c) (naming image id)
          ≡ cond a (refusal 22) (cond b (refusal 23) (value (cond c (naming image id) unnamed)))
      by_form true b c = refl
      by_form false true c = refl
      by_form false false true = refl
      by_form false false false = refl

pub parted : (image : Slice) (id : ℕ) (date : Date) (ws : List Window) → part_by_state image id date (window_state id date ws) ≡ name_part_on image id date ws
parted image id date ws = ap (λ (x : Outcome Naming). slice_or image (subslice image 0 0) (named_in x)) (placed image.bytes id date ws)

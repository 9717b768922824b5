-- What one window says, by its six tests; and what is answered by what the windows say. Assumes nothing.
use mathlib.Core.Path.{◌≡◌, sym}
use Prim.Native.Nat.{ℕ, ◌+◌, ◌≤◌}
use native.Mathlib.Omega.{arith}
use mathlib.Core.Bool.{Bool, true, false, cond, not, ◌&&◌, ◌||◌}
use mathlib.Core.List.{List}
use lib.Dec.{eqb}
use lib.ListN.{length}
use Rattle.jhash.specs.Outcome.{Outcome, value, refusal}
use Rattle.reader.specs.Naming.{Naming, place, unnamed, naming}
use Rattle.reader.proofs.Namings.{named, never}
use Rattle.validity.specs.Calendar.{is_date, is_end, earlier}
use Rattle.validity.specs.Rule.{invalid_dates, inverted, holds_date}
use Rattle.validity.specs.Steps.Fold.{one_window_state}
use Rattle.validity.specs.Windows.{answer_by, place_by_state}
use Rattle.validity.specs.declared.Date.{Date}
use Rattle.validity.specs.declared.Window.{Window}
use Rattle.validity.specs.declared.WindowState.{WindowState}
use Rattle.validity.specs.declared.WindowState.TheVariants.{Inactive, Active, Inverted, InvalidDate}

-- f, e: first and end date exist; b: first before end; i: the id's; p: the date is before the first; q: before the end
pub state_of_by : (id : ℕ) (date : Date) (w : Window) (f e b i p q : Bool)
    → is_date w.first ≡ f → is_end w.end ≡ e → earlier w.first w.end ≡ b → eqb w.id id ≡ i
    → earlier date w.first ≡ p → earlier date w.end ≡ q
    → cond (not f || not e) InvalidDate (cond (not b) Inverted (cond (i && not p && q) Active Inactive)) ≡ one_window_state id date w
unfolding one_window_state invalid_dates inverted holds_date
state_of_by id date w f e b i p q ef ee eb ei ep eq =
    sym (λ k. cond (not (ef k) || not (ee k)) InvalidDate (cond (not (eb k)) Inverted (cond (ei k && not (ep k) && eq k) Active Inactive)))

module _ (image : List ℕ) (id : ℕ) (date : Date) (s : WindowState) where
  -- a place on a date is the place of the naming rule
  pub named_so : (p n : ℕ) → place_by_state image id date s ≡ value (place p n) → naming image id ≡ place p n
  named_so p n e = dated (is_date date) e
    where
      refused : (k : ℕ) → ◌≡◌ {A = Outcome Naming} (refusal k) (value (place p n)) → naming image id ≡ place p n
      refused k e = let z : ◌≡◌ {A = ℕ} 0 1 = cc in absurd (omega arith)

      by_case : (t : WindowState) → answer_by t (naming image id) ≡ value (place p n) → naming image id ≡ place p n
      by_case Inactive e = let u : unnamed ≡ place p n = cc in never p n u
      by_case Active e = cc
      by_case Inverted e = refused 23 e
      by_case InvalidDate e = refused 22 e

      dated : (t : Bool) → cond (not t) (refusal 22) (answer_by s (naming image id)) ≡ value (place p n) → naming image id ≡ place p n
      dated true e = by_case s e
      dated false e = refused 22 e

  -- and lies in the image
  pub part_inside : (p n : ℕ) → place_by_state image id date s ≡ value (place p n) → p + n ≤ length image
  part_inside p n e = (named image id p n (named_so p n e)).inside

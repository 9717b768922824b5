-- What is proved of the dates of a report (`dates_held` in proofs/Held), for all lists of windows, rounds and dates.
use Rattle.std.specs.Prelude.{ℕ, ◌≡◌, ◌↔◌, ◌⊎◌, true, false, List, ◌∷◌, ◌++◌}
use Rattle.validity.specs.Calendar.{is_date, is_end, earlier}
use Rattle.validity.specs.Rule.{some_window, invalid_dates, inverted}
use Rattle.validity.specs.Theorems.Seasons.{SomeAt}
use Rattle.validity.specs.declared.Date.{Date}
use Rattle.validity.specs.declared.Window.{Window}
use Rattle.preflight.specs.Dates.{holds_both, preflight_dates}
use Rattle.preflight.specs.Theorems.Asked.{In}
use Rattle.preflight.specs.Answers.DatesAnswer.{Yes, Refused}

-- a window of the id holds a date: the first date included, the end date not
pub record Holds (id : ℕ) (date : Date) (w : Window) : Type 0 where
  pub its_own : w.id ≡ id
  pub begun : earlier date w.first ≡ false
  pub not_ended : earlier date w.end ≡ true

-- nothing is refused: both dates and all dates of the windows exist within the bounds, and every window starts before
-- its end
pub record DatesAccepted (windows : List Window) (last date : Date) : Type 0 where
  pub last_exists : is_date last ≡ true
  pub date_exists : is_date date ≡ true
  pub no_invalid : some_window invalid_dates windows ≡ false
  pub none_inverted : some_window inverted windows ≡ false

pub record DatesHeld : Type 0 where
  -- yes exactly where nothing is refused and each id of the round has one window that holds both dates
  pub yes_exactly : (windows : List Window) (round : List ℕ) (last date : Date)
      → (preflight_dates windows round last date ≡ Yes)
      ↔ (DatesAccepted windows last date × ((i : ℕ) → In i round → SomeAt (holds_both last date i) windows))
  pub holds_exactly : (last date : Date) (id : ℕ) (w : Window)
      → (holds_both last date id w ≡ true) ↔ (Holds id last w × Holds id date w)
  -- 22 for a date that does not exist or is out of bounds, of the last report, of this one or of a window; "after
  -- these" 23
  pub gives_22 : (windows : List Window) (round : List ℕ) (last date : Date)
      → (is_date last ≡ false) ⊎ ((is_date date ≡ false) ⊎ (some_window invalid_dates windows ≡ true))
      → preflight_dates windows round last date ≡ Refused 22
  pub gives_23 : (windows : List Window) (round : List ℕ) (last date : Date)
      → is_date last ≡ true → is_date date ≡ true → some_window invalid_dates windows ≡ false
      → some_window inverted windows ≡ true → preflight_dates windows round last date ≡ Refused 23
  -- adding a window whose dates exist within the bounds, the first before the end, at any place of the list, never
  -- removes a yes
  pub adding : (before after : List Window) (w : Window) (round : List ℕ) (last date : Date)
      → is_date w.first ≡ true → is_end w.end ≡ true → earlier w.first w.end ≡ true
      → preflight_dates (before ++ after) round last date ≡ Yes
      → preflight_dates (before ++ w ∷ after) round last date ≡ Yes

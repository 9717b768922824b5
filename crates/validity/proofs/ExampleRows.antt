-- The worked examples hold, computed by the checker. Assumes nothing.
use mathlib.Core.Path.{◌≡◌, refl}
use mathlib.Core.List.{map}
use Rattle.validity.specs.Calendar.{leap, one_of, month_length, is_date, is_end, earlier}
use Rattle.validity.specs.Rule.{some_window, invalid_dates, inverted, holds_date, in_season}
use Rattle.validity.specs.Examples.Rows.{Month, months, Day, days, SeasonRow, season_rows}

-- every row holds
pub record Computed : Type 0 where
  pub the_months : map (λ (m : Month). month_length m.year m.month) months ≡ map (λ (m : Month). m.length) months
  pub the_days : map (λ (d : Day). is_date d.day) days ≡ map (λ (d : Day). d.exists) days
  pub the_ends : map (λ (d : Day). is_end d.day) days ≡ map (λ (d : Day). d.ends) days
  pub the_names : map (λ (r : SeasonRow). in_season r.naming 5 r.day r.windows) season_rows ≡ map (λ (r : SeasonRow). r.answer) season_rows

pub rows_hold : Computed
unfolding in_season some_window invalid_dates inverted holds_date is_end is_date earlier month_length one_of leap
rows_hold = record { the_months = refl; the_days = refl; the_ends = refl; the_names = refl }

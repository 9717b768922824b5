-- What the windows alone say of an id on a date, and what is answered where they say it: the rule in two parts, for a
-- call that asks the windows first. Both together are the rule (`in_two_parts` of specs/Theorems/Seasons).
use Rattle.std.specs.Prelude.{ℕ, cond, not, List}
use Rattle.jhash.specs.Outcome.{Outcome, value, refusal}
use Rattle.reader.specs.Slices.{Slice, subslice}
use Rattle.reader.specs.Naming.{Naming, unnamed, naming, slice_or}
use Rattle.validity.specs.Calendar.{is_date}
use Rattle.validity.specs.Rule.{some_window, invalid_dates, inverted, holds_date, named_in}
use Rattle.validity.specs.declared.Date.{Date}
use Rattle.validity.specs.declared.Window.{Window}
use Rattle.validity.specs.declared.WindowState.{WindowState}
use Rattle.validity.specs.declared.WindowState.TheVariants.{Inactive, Active, Inverted, InvalidDate}
use Rattle.jhash.specs.Refusals as refused

-- what the windows say, in the rule's order
unfoldable pub window_state : ℕ → Date → List Window → WindowState
window_state id date windows =
    cond (some_window invalid_dates windows) InvalidDate
    (cond (some_window inverted windows) Inverted
    (cond (some_window (holds_date id date) windows) Active Inactive))

-- what a state makes of a naming
abbrev pub answer_by : WindowState → Naming → Outcome Naming
answer_by Inactive n = value unnamed
answer_by Active n = value n
answer_by Inverted n = refusal refused.not_before_end
answer_by InvalidDate n = refusal refused.no_such_date

abbrev pub place_by_state : List ℕ → ℕ → Date → WindowState → Outcome Naming
place_by_state image id date s = cond (not (is_date date)) (refusal refused.no_such_date)
    (answer_by s (naming image id))

abbrev pub part_by_state : Slice → ℕ → Date → WindowState → Slice
part_by_state image id date s = slice_or image (subslice image 0 0) (named_in (place_by_state image.bytes id date s))

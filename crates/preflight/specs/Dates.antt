-- Windows beside a round: "every id of the round has one window that holds both the date of the last report and the
-- date of this one", by the windows of 02 (xiv).
use Rattle.std.specs.Prelude.{ℕ, zero, suc, ◌+◌, ◌*◌, ◌/◌, ◌%◌, Bool, cond, not, ◌&&◌, List, [], ◌∷◌, length, get_or}
use Rattle.validity.specs.Calendar.{is_date}
use Rattle.validity.specs.Rule.{some_window, invalid_dates, inverted, holds_date}
use Rattle.validity.specs.declared.Date.{Date}
use Rattle.validity.specs.declared.Window.{Window}
use Rattle.preflight.specs.Ids.{first_place}
use Rattle.preflight.specs.Answers.Place.{Place}
use Rattle.preflight.specs.Answers.Place as place
use Rattle.preflight.specs.Answers.DatesAnswer.{DatesAnswer}
use Rattle.preflight.specs.Answers.DatesAnswer.{Yes, Refused, Outside}
use Rattle.jhash.specs.Refusals as refused

-- a window of the id that holds both dates
abbrev pub holds_both : Date → Date → ℕ → Window → Bool
holds_both last date id w = holds_date id last w && holds_date id date w

-- has the id no such window?
abbrev pub outside : List Window → Date → Date → ℕ → Bool
outside windows last date id = not (some_window (holds_both last date id) windows)

abbrev pub first_outside : List Window → Date → Date → List ℕ → Place
first_outside windows last date round = first_place (outside windows last date) 0 round

abbrev pub of_outside : Place → DatesAnswer
of_outside (place.At p) = Outside p
of_outside place.Nothing = Yes

-- "22 and 23 as in (xiv)": 22 for a date that does not exist or is out of bounds, that of the last report, that of this
-- one, then those of the windows; after these 23 for a window that does not start before its end
unfoldable pub preflight_dates : List Window → List ℕ → Date → Date → DatesAnswer
preflight_dates windows round last date =
    cond (not (is_date last)) (Refused refused.no_such_date)
    (cond (not (is_date date)) (Refused refused.no_such_date)
    (cond (some_window invalid_dates windows) (Refused refused.no_such_date)
    (cond (some_window inverted windows) (Refused refused.not_before_end)
    (of_outside (first_outside windows last date round)))))

-- windows as words of 32 bits, three to a window, as they lie in memory: the id, the first date, the end date. A date's
-- year is the low half of its word, the two bytes above are month and day
abbrev pub date_of : ℕ → Date
date_of word = record { year = word % 65536; month = word / 65536 % 256; day = word / 16777216 }

abbrev pub window_at : List ℕ → ℕ → Window
window_at words i =
    record {
      id = get_or words (3 * i) 0;
      first = date_of (get_or words (3 * i + 1) 0);
      end = date_of (get_or words (3 * i + 2) 0);
    }

-- n windows from the place i on
unfoldable pub windows_from : List ℕ → ℕ → ℕ → List Window
windows_from words i zero = []
windows_from words i (suc n) = window_at words i ∷ windows_from words (i + 1) n

-- all windows; one or two words behind the last are none
abbrev pub windows_in : List ℕ → List Window
windows_in words = windows_from words 0 (length words / 3)

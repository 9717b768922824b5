-- Worked examples: windows, a round, the dates of two reports, and the answer.
use Rattle.std.specs.Prelude.{ℕ, ◌≡◌, List, [], ◌∷◌}
use Rattle.validity.specs.declared.Date.{Date}
use Rattle.validity.specs.declared.Window.{Window}
use Rattle.preflight.specs.Dates.{preflight_dates, windows_in}
use Rattle.preflight.specs.Answers.DatesAnswer.{DatesAnswer}
use Rattle.preflight.specs.Answers.DatesAnswer.{Yes, Refused, Outside}

pub record DatesRow : Type 0 where
  pub windows : List Window
  pub round : List ℕ
  pub last : Date
  pub date : Date
  pub answer : DatesAnswer

abbrev pub DatesAnswered : DatesRow → Type 0
DatesAnswered r = preflight_dates r.windows r.round r.last r.date ≡ r.answer

abbrev on : ℕ → ℕ → ℕ → Date
on y m d = record { year = y; month = m; day = d }

abbrev window : ℕ → Date → Date → Window
window id first end = record { id = id; first = first; end = end }

abbrev row : List Window → List ℕ → Date → Date → DatesAnswer → DatesRow
row windows round last date answer =
    record { windows = windows; round = round; last = last; date = date; answer = answer }

-- 5 stands in spring and again in autumn; 6 in both; and windows that are refused
abbrev spring : Window
spring = window 5 (on 2024 3 1) (on 2024 6 1)

abbrev autumn : Window
autumn = window 5 (on 2024 9 1) (on 2024 12 1)

abbrev of_six : Window
of_six = window 6 (on 2024 3 1) (on 2024 12 1)

abbrev pub dates_rows : List DatesRow
dates_rows =
    -- one window holds both; the first date included, the end date not
    row (spring ∷ of_six ∷ []) (6 ∷ 5 ∷ []) (on 2024 3 1) (on 2024 5 31) Yes
    ∷ row (spring ∷ []) (5 ∷ []) (on 2024 5 1) (on 2024 6 1) (Outside 0)
    ∷ row (spring ∷ []) (5 ∷ []) (on 2024 2 29) (on 2024 3 1) (Outside 0)
    -- two windows hold one date each: taken away and set again between them
    ∷ row (spring ∷ autumn ∷ of_six ∷ []) (6 ∷ 5 ∷ []) (on 2024 5 1) (on 2024 10 1) (Outside 1)
    -- an id without a window; no round
    ∷ row (of_six ∷ []) (5 ∷ []) (on 2024 5 1) (on 2024 5 8) (Outside 0)
    ∷ row [] [] (on 2024 5 1) (on 2024 5 8) Yes
    -- dates that do not exist, of the last report, of this one, of a window of another id; a window of no day
    ∷ row (spring ∷ []) (5 ∷ []) (on 2023 2 29) (on 2024 5 8) (Refused 22)
    ∷ row (spring ∷ []) (5 ∷ []) (on 2024 5 1) (on 2024 5 32) (Refused 22)
    ∷ row (spring ∷ window 6 (on 2024 3 1) (on 2024 3 1) ∷ window 7 (on 2024 2 30) (on 2024 6 1) ∷ [])
    (5 ∷ []) (on 2024 5 1) (on 2024 5 8) (Refused 22)
    ∷ row (spring ∷ window 6 (on 2024 3 1) (on 2024 3 1) ∷ []) (5 ∷ []) (on 2024 5 1) (on 2024 5 8) (Refused 23)
    ∷ []

-- 5, 1 March and 1 June 2024 as words: 2024 + 65536 * 3 + 16777216 * 1, and so on; the last word is no window
abbrev pub SpringInWords : Type 0
SpringInWords = windows_in (5 ∷ 16975848 ∷ 17172456 ∷ 9 ∷ []) ≡ spring ∷ []

-- Worked examples of 02 (xiv): months, dates, and names on dates.
use Rattle.std.specs.Prelude.{ℕ, Bool, true, false, List, [], ◌∷◌}
use Rattle.jhash.specs.Outcome.{Outcome, value, refusal}
use Rattle.reader.specs.Naming.{Naming, place, unnamed}
use Rattle.validity.specs.declared.Date.{Date}
use Rattle.validity.specs.declared.Window.{Window}

-- a year and a month, and the month's length
pub record Month : Type 0 where
  pub year : ℕ
  pub month : ℕ
  pub length : ℕ

abbrev month : ℕ → ℕ → ℕ → Month
month y m l = record { year = y; month = m; length = l }

abbrev pub months : List Month
months =
    -- a common year: 365 days
    month 2023 1 31 ∷ month 2023 2 28 ∷ month 2023 3 31 ∷ month 2023 4 30 ∷ month 2023 5 31 ∷ month 2023 6 30
    ∷ month 2023 7 31 ∷ month 2023 8 31 ∷ month 2023 9 30 ∷ month 2023 10 31 ∷ month 2023 11 30
    ∷ month 2023 12 31
    -- February by the 4, 100 and 400 rule
    ∷ month 1900 2 28 ∷ month 1904 2 29 ∷ month 2000 2 29 ∷ month 2024 2 29 ∷ month 2100 2 28
    ∷ month 2196 2 29
    -- no months
    ∷ month 2023 0 0 ∷ month 2023 13 0 ∷ month 2023 255 0
    ∷ []

abbrev date : ℕ → ℕ → ℕ → Date
date y m d = record { year = y; month = m; day = d }

-- a date, whether it exists within the bounds, and whether it can be an end date
pub record Day : Type 0 where
  pub day : Date
  pub exists : Bool
  pub ends : Bool

abbrev day : Date → Bool → Bool → Day
day d e f = record { day = d; exists = e; ends = f }

abbrev pub days : List Day
days =
    -- the first and the last, and those beside them
    day (date 1899 12 31) false false ∷ day (date 1900 1 1) true true ∷ day (date 2199 12 31) true true
    ∷ day (date 2200 1 1) false true ∷ day (date 2200 1 2) false false ∷ day (date 2200 2 1) false false
    ∷ day (date 2201 1 1) false false
    -- 29 February
    ∷ day (date 1900 2 29) false false ∷ day (date 2000 2 29) true true ∷ day (date 2023 2 29) false false
    ∷ day (date 2024 2 29) true true ∷ day (date 2024 2 30) false false ∷ day (date 2100 2 29) false false
    -- days and months that are none
    ∷ day (date 2023 4 31) false false ∷ day (date 2023 1 0) false false ∷ day (date 2023 1 32) false false
    ∷ day (date 2023 0 1) false false ∷ day (date 2023 13 1) false false ∷ day (date 0 0 0) false false
    ∷ []

-- what the naming rule gives the id 5, a date, a list of windows, and what is answered for the id 5 on the date
pub record SeasonRow : Type 0 where
  pub naming : Naming
  pub day : Date
  pub windows : List Window
  pub answer : Outcome Naming

abbrev row : Naming → Date → List Window → Outcome Naming → SeasonRow
row n d ws a = record { naming = n; day = d; windows = ws; answer = a }

abbrev window : ℕ → Date → Date → Window
window id first end = record { id = id; first = first; end = end }

-- a name of four bytes
abbrev quay : Naming
quay = place 2080 4

-- spring, of the id 5: March, April and May 2024
abbrev spring : Window
spring = window 5 (date 2024 3 1) (date 2024 6 1)

-- the same months of the id 6; June; a window with its dates exchanged; one of no day; and one with a date that does
-- not exist
abbrev of_six : Window
of_six = window 6 (date 2024 3 1) (date 2024 6 1)

abbrev june : Window
june = window 5 (date 2024 6 1) (date 2024 7 1)

abbrev swapped : Window
swapped = window 6 (date 2024 6 1) (date 2024 3 1)

abbrev zero_days : Window
zero_days = window 5 (date 2024 3 1) (date 2024 3 1)

abbrev no_day : Window
no_day = window 6 (date 2023 2 29) (date 2024 3 1)

abbrev pub season_rows : List SeasonRow
season_rows =
    -- the first date is included, the end date is not
    row quay (date 2024 2 29) (spring ∷ []) (value unnamed)
    ∷ row quay (date 2024 3 1) (spring ∷ []) (value quay)
    ∷ row quay (date 2024 5 31) (spring ∷ []) (value quay)
    ∷ row quay (date 2024 6 1) (spring ∷ []) (value unnamed)
    -- windows that meet; a window of another id; no window; an id without a name
    ∷ row quay (date 2024 6 1) (spring ∷ june ∷ []) (value quay)
    ∷ row quay (date 2024 4 1) (of_six ∷ []) (value unnamed)
    ∷ row quay (date 2024 4 1) (of_six ∷ spring ∷ []) (value quay)
    ∷ row quay (date 2024 4 1) [] (value unnamed)
    ∷ row unnamed (date 2024 4 1) (spring ∷ []) (value unnamed)
    -- 22 for the date asked about; for a window's, also of another id and of an id without a name; before a 23 that
    -- stands in front
    ∷ row quay (date 2024 2 30) [] (refusal 22)
    ∷ row quay (date 2200 1 1) (spring ∷ []) (refusal 22)
    ∷ row quay (date 2024 4 1) (spring ∷ no_day ∷ []) (refusal 22)
    ∷ row unnamed (date 2024 4 1) (no_day ∷ []) (refusal 22)
    ∷ row quay (date 2024 4 1) (swapped ∷ no_day ∷ []) (refusal 22)
    -- 23 for a window that does not start before its end, also of another id and behind one that holds the date
    ∷ row quay (date 2024 4 1) (swapped ∷ []) (refusal 23)
    ∷ row quay (date 2024 4 1) (zero_days ∷ []) (refusal 23)
    ∷ row quay (date 2024 4 1) (spring ∷ swapped ∷ []) (refusal 23)
    -- the bounds: the last day, and 1 January 2200 as end date and as first date
    ∷ row quay (date 2199 12 31) (window 5 (date 1900 1 1) (date 2200 1 1) ∷ []) (value quay)
    ∷ row quay (date 1900 1 1) (window 5 (date 1900 1 1) (date 2200 1 1) ∷ []) (value quay)
    ∷ row quay (date 2199 12 31) (window 5 (date 2200 1 1) (date 2200 1 1) ∷ []) (refusal 22)
    ∷ []

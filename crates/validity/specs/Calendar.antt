-- Dates of 02 (xiv): "Dates are Gregorian, years 1900 to 2199, for an end date also 1 January 2200".
use Rattle.std.specs.Prelude.{ℕ, ◌%◌, Bool, true, false, cond, ◌&&◌, ◌||◌, List, [], ◌∷◌, eqb, ltb, leb}
use Rattle.validity.specs.declared.Date.{Date}

-- "leap years by the 4, 100 and 400 rule"
unfoldable pub leap : ℕ → Bool
leap year = cond (eqb (year % 4) 0) (cond (eqb (year % 100) 0) (eqb (year % 400) 0) true) false

-- is the number one of the list?
unfoldable pub one_of : List ℕ → ℕ → Bool
one_of [] m = false
one_of (x ∷ xs) m = cond (eqb m x) true (one_of xs m)

-- "month lengths run from 28 to 31": the months of 31 days, of 30 days, and February; another number is no month, and
-- has no day
unfoldable pub month_length : ℕ → ℕ → ℕ
month_length year month =
    cond (one_of (1 ∷ 3 ∷ 5 ∷ 7 ∷ 8 ∷ 10 ∷ 12 ∷ []) month) 31
    (cond (one_of (4 ∷ 6 ∷ 9 ∷ 11 ∷ []) month) 30
    (cond (eqb month 2) (cond (leap year) 29 28) 0))

-- the date exists, and lies in the "years 1900 to 2199"
unfoldable pub is_date : Date → Bool
is_date d =
    leb 1900 d.year && leb d.year 2199 && leb 1 d.day && leb d.day (month_length d.year d.month)

-- "for an end date also 1 January 2200"
unfoldable pub is_end : Date → Bool
is_end d = is_date d || (eqb d.year 2200 && eqb d.month 1 && eqb d.day 1)

-- the order of dates: by year, then month, then day
unfoldable pub earlier : Date → Date → Bool
earlier a b =
    cond (eqb a.year b.year)
    (cond (eqb a.month b.month) (ltb a.day b.day) (ltb a.month b.month))
    (ltb a.year b.year)

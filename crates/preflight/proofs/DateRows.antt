-- The worked examples of dates hold: they are computed. Assumes nothing.
use mathlib.Core.Path.{refl}
use Rattle.image.proofs.AllOfList.{All}
use Rattle.validity.specs.Calendar.{leap, one_of, month_length, is_date, is_end, earlier}
use Rattle.validity.specs.Rule.{some_window, invalid_dates, inverted, holds_date}
use Rattle.preflight.specs.Ids.{first_place}
use Rattle.preflight.specs.Dates.{preflight_dates, windows_from}
use Rattle.preflight.specs.Examples.DateRows.{DatesAnswered, dates_rows, SpringInWords}

pub dates_computed : All DatesAnswered dates_rows
unfolding preflight_dates first_place some_window invalid_dates inverted holds_date leap one_of month_length is_date is_end earlier
dates_computed = (refl, (refl, (refl, (refl, (refl, (refl, (refl, (refl, (refl, (refl, tt))))))))))

pub spring_in_words : SpringInWords
unfolding windows_from
spring_in_words = refl

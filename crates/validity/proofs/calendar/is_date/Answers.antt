-- `validity::calendar::is_date` meets its contract, by the tests that led to each return.
use Rattle.std.proofs.Common.{ap, ◌∙◌, le-leb, leb}
use Rattle.std.proofs.lemmas.Bool.{lt-leb}
use Rattle.validity.specs.Calendar.{is_date}
use Rattle.validity.proofs.Dates.{by_last_day}
use Rattle.validity.proofs.calendar.is_date.Goals.{then-d-lt1900-via-then-d-lt1900, then-d-lt1900-via-else-d-lt1900+then-d-gt2199}
use Rattle.validity.proofs.calendar.is_date.Goals as goal

pub returns-then-d-lt1900 : goal.returns-then-d-lt1900
unfolding is_date
returns-then-d-lt1900 c =
    elim c.then-d-lt1900.branch [
      | then-d-lt1900-via-then-d-lt1900 w ↦ simp (lt-leb _ _ w.if-d-lt1900.true)
      | then-d-lt1900-via-else-d-lt1900+then-d-gt2199 w ↦ simp (le-leb _ _ w.if-d-lt1900.false, lt-leb _ _ w.if-d-gt2199.true)
    ]

pub returns-then-d-ge1 : goal.returns-then-d-ge1
returns-then-d-ge1 c =
    let d = c.args.d in
    ap (leb d.day) c.month_length.ensures ∙ by_last_day d c.if-d-lt1900.false c.if-d-gt2199.false c.if-d-ge1.true

pub returns-else-d-ge1 : goal.returns-else-d-ge1
unfolding is_date
returns-else-d-ge1 c =
    simp (le-leb _ _ c.if-d-lt1900.false, le-leb _ _ c.if-d-gt2199.false, lt-leb _ _ c.if-d-ge1.false)

-- `validity::calendar::month_length` meets its contract, by the arms of its match.
use mathlib.Core.Path.{sym, ◌∙◌}
use Rattle.validity.proofs.Months.{months_30, months_31, leap_february, february}
use native.Mathlib.Omega.{arith}
use Rattle.std.proofs.lemmas.Grind.{common_steps}
use Rattle.validity.specs.Calendar.{month_length, one_of}
use Rattle.validity.proofs.calendar.month_length.Goals as goal

pub returns-in-4 : goal.returns-in-4
returns-in-4 c = months_30 _ _ c.in-4.is

pub returns-then-leap : goal.returns-then-leap
returns-then-leap c = leap_february _ _ c.if-month-eq2.true (sym c.leap.ensures ∙ c.if-leap.true)

pub returns-else-leap : goal.returns-else-leap
returns-else-leap c = february _ _ c.if-month-eq2.true (sym c.leap.ensures ∙ c.if-leap.false)

pub returns-in_default : goal.returns-in_default
unfolding month_length one_of
returns-in_default c = let h = c.in_default in grind (arith, common_steps)

pub returns-in_default-2 : goal.returns-in_default-2
unfolding month_length one_of
returns-in_default-2 c = let h = c.in_default in grind (arith, common_steps)

pub returns-in-1 : goal.returns-in-1
returns-in-1 c = months_31 _ _ c.in-1.is

pub returns-in-1-2 : goal.returns-in-1-2
unfolding month_length one_of
returns-in-1-2 c = let h = c.in-1 in grind (arith, common_steps)

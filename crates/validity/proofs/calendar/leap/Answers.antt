-- `validity::calendar::leap` meets its contract, by the tests that led to each return.
use Rattle.std.proofs.Common.{eq-eqb, ne_eqb}
use Rattle.validity.specs.Calendar.{leap}
use Rattle.validity.proofs.calendar.leap.Goals as goal

pub returns-then-year-ne0 : goal.returns-then-year-ne0
unfolding leap
returns-then-year-ne0 c = simp (eq-eqb _ _ c.if-year-eq0.true, ne_eqb _ _ c.if-year-ne0.true)

pub returns-else-year-ne0 : goal.returns-else-year-ne0
unfolding leap
returns-else-year-ne0 c = simp (eq-eqb _ _ c.if-year-eq0.true, eq-eqb _ _ c.if-year-ne0.false)

pub returns-else-year-eq0 : goal.returns-else-year-eq0
unfolding leap
returns-else-year-eq0 c = simp (ne_eqb _ _ c.if-year-eq0.false)

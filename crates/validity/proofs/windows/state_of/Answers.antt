-- `validity::windows::state_of` meets its contract, by the tests that led to each return.
use Rattle.std.proofs.Common.{refl, sym, ◌∙◌, true, false, eq-eqb, ne_eqb}
use Rattle.validity.proofs.WindowTests.{state_of_by}
use Rattle.validity.proofs.windows.state_of.Goals.{then-not-is_date-via-then-not-is_date, then-not-is_date-via-else-not-is_date+then-not-is_end}
use Rattle.validity.proofs.windows.state_of.Goals.{else-w-id-via-then-w-id+then-not-earlier-2+else-earlier}
use Rattle.validity.proofs.windows.state_of.Goals.{else-w-id-via-then-w-id+else-not-earlier-2, else-w-id-via-else-w-id}
use Rattle.validity.proofs.windows.state_of.Goals as goal

pub returns-then-not-is_date : goal.returns-then-not-is_date
returns-then-not-is_date c =
    let a = c.args in
    elim c.then-not-is_date.branch [
      | then-not-is_date-via-then-not-is_date w ↦
          state_of_by a.id a.date a.w false _ _ _ _ _ (sym c.is_date.ensures ∙ w.if-not-is_date.true) refl refl refl refl refl
      | then-not-is_date-via-else-not-is_date+then-not-is_end w ↦
          state_of_by a.id a.date a.w true false _ _ _ _ (sym c.is_date.ensures ∙ w.if-not-is_date.false)
          (sym w.is_end.ensures ∙ w.if-not-is_end.true) refl refl refl refl
    ]

pub returns-then-not-earlier : goal.returns-then-not-earlier
returns-then-not-earlier c =
    let a = c.args in
    state_of_by a.id a.date a.w true true false _ _ _ (sym c.is_date.ensures ∙ c.if-not-is_date.false)
    (sym c.is_end.ensures ∙ c.if-not-is_end.false) (sym c.earlier.ensures ∙ c.if-not-earlier.true) refl refl refl

pub returns-then-earlier : goal.returns-then-earlier
returns-then-earlier c =
    let a = c.args in
    state_of_by a.id a.date a.w true true true true false true (sym c.is_date.ensures ∙ c.if-not-is_date.false)
    (sym c.is_end.ensures ∙ c.if-not-is_end.false) (sym c.earlier.ensures ∙ c.if-not-earlier.false) (eq-eqb _ _ c.if-w-id.true)
    (sym c.earlier-then-w-id.ensures ∙ c.if-not-earlier-2.true) (sym c.earlier-then-not-earlier-2.ensures ∙ c.if-earlier.true)

pub returns : goal.returns
returns c =
    let a = c.args in
    let first = sym c.is_date.ensures ∙ c.if-not-is_date.false in
    let end = sym c.is_end.ensures ∙ c.if-not-is_end.false in
    let before = sym c.earlier.ensures ∙ c.if-not-earlier.false in
    elim c.else-w-id.branch [
      | else-w-id-via-then-w-id+then-not-earlier-2+else-earlier w ↦
          state_of_by a.id a.date a.w true true true true false false first end before (eq-eqb _ _ w.if-w-id.true)
          (sym w.earlier-then-w-id.ensures ∙ w.if-not-earlier-2.true) (sym w.earlier-then-not-earlier-2.ensures ∙ w.if-earlier.false)
      | else-w-id-via-then-w-id+else-not-earlier-2 w ↦
          state_of_by a.id a.date a.w true true true true true _ first end before (eq-eqb _ _ w.if-w-id.true)
          (sym w.earlier-then-w-id.ensures ∙ w.if-not-earlier-2.false) refl
      | else-w-id-via-else-w-id w ↦
          state_of_by a.id a.date a.w true true true false _ _ first end before (ne_eqb _ _ w.if-w-id.false) refl refl
    ]

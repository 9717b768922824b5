-- `preflight::dates::preflight_dates` meets its contract, by the tests that led to each return. Assumes nothing.
use Rattle.std.proofs.Common.{rules, refl, sym, ◌∙◌, true, false}
use Rattle.validity.specs.Rule.{invalid_dates, inverted}
use Rattle.preflight.specs.Dates.{windows_in}
use Rattle.preflight.proofs.Windows.{dates_by}
use Rattle.preflight.proofs.dates.preflight_dates.Goals.{then-not-is_date-via-then-not-is_date}
use Rattle.preflight.proofs.dates.preflight_dates.Goals.{then-not-is_date-via-else-not-is_date+then-not-is_date-2}
use Rattle.preflight.proofs.dates.preflight_dates.Goals.{then-not-is_date-via-else-not-is_date+else-not-is_date-2+then-some_window}
use Rattle.preflight.proofs.dates.preflight_dates.Goals as goal

pub returns-then-not-is_date : goal.returns-then-not-is_date
returns-then-not-is_date c =
    let a = c.args in
    let ws = windows_in a.windows.now in
    elim c.then-not-is_date.branch [
      | then-not-is_date-via-then-not-is_date w ↦
          dates_by ws a.round.now a.last a.date false _ _ _ _ (sym c.is_date.ensures ∙ w.if-not-is_date.true) refl refl refl refl
      | then-not-is_date-via-else-not-is_date+then-not-is_date-2 w ↦
          dates_by ws a.round.now a.last a.date true false _ _ _ (sym c.is_date.ensures ∙ w.if-not-is_date.false)
          (sym w.is_date-else-not-is_date.ensures ∙ w.if-not-is_date-2.true) refl refl refl
      | then-not-is_date-via-else-not-is_date+else-not-is_date-2+then-some_window w ↦
          dates_by ws a.round.now a.last a.date true true true _ _ (sym c.is_date.ensures ∙ w.if-not-is_date.false)
          (sym w.is_date-else-not-is_date.ensures ∙ w.if-not-is_date-2.false)
          (sym (w.some_window.ensures invalid_dates (λ v r p. search rules)) ∙ w.if-some_window.true) refl refl
    ]

pub returns-then-some_window-2 : goal.returns-then-some_window-2
returns-then-some_window-2 c =
    let a = c.args in
    dates_by (windows_in a.windows.now) a.round.now a.last a.date true true false true _
    (sym c.is_date.ensures ∙ c.if-not-is_date.false) (sym c.is_date-else-not-is_date.ensures ∙ c.if-not-is_date-2.false)
    (sym (c.some_window.ensures invalid_dates (λ v r p. search rules)) ∙ c.if-some_window.false)
    (sym (c.some_window-2.ensures inverted (λ v r p. search rules)) ∙ c.if-some_window-2.true) refl

pub returns-in-Some : goal.returns-in-Some
returns-in-Some c =
    let a = c.args in
    dates_by (windows_in a.windows.now) a.round.now a.last a.date true true false false _
    (sym c.is_date.ensures ∙ c.if-not-is_date.false) (sym c.is_date-else-not-is_date.ensures ∙ c.if-not-is_date-2.false)
    (sym (c.some_window.ensures invalid_dates (λ v r p. search rules)) ∙ c.if-some_window.false)
    (sym (c.some_window-2.ensures inverted (λ v r p. search rules)) ∙ c.if-some_window-2.false) (sym c.in-Some.ensures)

pub returns-in-None : goal.returns-in-None
returns-in-None c =
    let a = c.args in
    dates_by (windows_in a.windows.now) a.round.now a.last a.date true true false false _
    (sym c.is_date.ensures ∙ c.if-not-is_date.false) (sym c.is_date-else-not-is_date.ensures ∙ c.if-not-is_date-2.false)
    (sym (c.some_window.ensures invalid_dates (λ v r p. search rules)) ∙ c.if-some_window.false)
    (sym (c.some_window-2.ensures inverted (λ v r p. search rules)) ∙ c.if-some_window-2.false) (sym c.in-None.ensures)

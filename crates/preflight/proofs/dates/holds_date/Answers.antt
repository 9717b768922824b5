-- `preflight::dates::holds_date` meets its contract, by the tests that led to each return. Assumes nothing.
use Rattle.std.proofs.Common.{refl, sym, ap, not, ◌∙◌, true, false, eq-eqb, ne_eqb}
use Rattle.preflight.proofs.Windows.{holds_by}
use Rattle.preflight.proofs.dates.holds_date.Goals as goal

pub returns-then-w-id : goal.returns-then-w-id
returns-then-w-id c = let a = c.args in holds_by a.w a.id a.date false _ _ (ne_eqb _ _ c.if-w-id.true) refl refl

pub returns-then-not-earlier : goal.returns-then-not-earlier
returns-then-not-earlier c =
    let a = c.args in
    c.earlier-then-not-earlier.ensures
    ∙ holds_by a.w a.id a.date true false _ (eq-eqb _ _ c.if-w-id.false) (sym c.earlier.ensures ∙ c.if-not-earlier.true) refl

pub returns-else-not-earlier : goal.returns-else-not-earlier
returns-else-not-earlier c =
    let a = c.args in
    ap not c.if-not-earlier.false
    ∙ holds_by a.w a.id a.date true true _ (eq-eqb _ _ c.if-w-id.false) (sym c.earlier.ensures ∙ c.if-not-earlier.false) refl

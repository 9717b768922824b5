-- `preflight::dates::has_invalid_date` meets its contract. Assumes nothing.
use Rattle.std.proofs.Common.{refl, sym, ap, not, ◌∙◌, true, false}
use Rattle.preflight.proofs.Windows.{invalid_by}
use Rattle.preflight.proofs.dates.has_invalid_date.Goals as goal

pub returns-then-not-is_date : goal.returns-then-not-is_date
returns-then-not-is_date c = ap not c.if-not-is_date.true ∙ invalid_by c.args.w false _ (sym c.is_date.ensures ∙ c.if-not-is_date.true) refl

pub returns-else-not-is_date : goal.returns-else-not-is_date
returns-else-not-is_date c = invalid_by c.args.w true _ (sym c.is_date.ensures ∙ c.if-not-is_date.false) (sym c.is_end.ensures)

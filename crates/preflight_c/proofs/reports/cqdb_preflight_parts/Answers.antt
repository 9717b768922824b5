-- `preflight_c::reports::cqdb_preflight_parts` meets its contract. Assumes nothing.
use mathlib.Core.Path.{ap, ◌∙◌}
use Rattle.preflight_c.specs.PreflightAnswer.{preflight_answer}
use Rattle.preflight_c.proofs.reports.cqdb_preflight_parts.Goals as goal

pub returns : goal.returns
returns c = c.answer.ensures ∙ ap preflight_answer c.preflight.ensures

-- `cqdb_name_on` meets its contract: a thin call of `answer_by` on what the windows say.
use mathlib.Core.Path.{ap, ◌∙◌}
use Rattle.validity.specs.Windows.{place_by_state}
use Rattle.validity.proofs.WindowLaws.{placed}
use Rattle.reader_c.specs.NameOnAnswer.{on_answer}
use Rattle.reader_c.proofs.windows.cqdb_name_on.Goals as goal

pub returns : goal.returns
returns c =
    c.answer_by.ensures
    ∙ ap (λ s. on_answer (place_by_state c.args.image.now c.args.id c.args.date s)) c.window_state.ensures
    ∙ ap on_answer (placed c.args.image.now c.args.id c.args.date c.args.windows.now)

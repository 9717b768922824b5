-- `validity::to_str_on` meets its contract: a thin call of `place_by_state` on what the windows say.
use mathlib.Core.Path.{ap, ◌∙◌}
use Rattle.validity.specs.declared.WindowState.{WindowState}
use Rattle.validity.specs.Windows.{place_by_state}
use Rattle.validity.proofs.WindowLaws.{placed}
use Rattle.validity.proofs.to_str_on.Goals as goal

pub returns : goal.returns
returns c =
    let a = c.args in
    c.place_by_state.ensures
    ∙ ap (λ (s : WindowState). place_by_state a.image.now a.id a.date s) c.window_state.ensures
    ∙ placed a.image.now a.id a.date a.windows.now

-- `validity::name_on` meets its contract: a thin call of `part_by_state` on what the windows say. The part that it
-- returns is at the image's own lifetime.
use mathlib.Core.Path.{ap, ◌∙◌}
use Rattle.reader.specs.Slices.{slice}
use Rattle.validity.specs.declared.WindowState.{WindowState}
use Rattle.validity.specs.Windows.{part_by_state}
use Rattle.validity.proofs.WindowLaws.{parted}
use Rattle.validity.proofs.name_on.Goals as goal

pub returns : goal.returns
returns c =
    let a = c.args in
    c.part_by_state.ensures
    ∙ ap (λ (s : WindowState). part_by_state (slice a.image) a.id a.date s) c.window_state.ensures
    ∙ parted (slice a.image) a.id a.date a.windows.now

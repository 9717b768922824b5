-- `catalogue::Intake::end_input` meets its contract. Assumes nothing.
use mathlib.Core.Path.{ap}
use Rattle.catalogue.specs.Steps.Pieces.{Gathering, input_ended}
use Rattle.catalogue.proofs.Intake.end_input.Goals as goal

pub returns : goal.returns
unfolding input_ended
returns c = ap (λ (g : Gathering). g.state) c.end_line.ensures

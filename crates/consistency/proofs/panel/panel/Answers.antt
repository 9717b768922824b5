-- `consistency::panel::panel` meets its contract. Assumes nothing.
use Rattle.std.proofs.Common.{sym}
use Rattle.consistency.proofs.Panels.{panel_inside}
use Rattle.consistency.proofs.panel.panel.Goals as goal

pub of-requires : goal.of-requires
of-requires c =
    let place = c.in-Some.place in
    panel_inside c.args.image.now c.args.id place.start place.len (sym c.in-Some.ensures)

-- `consistency::panel::panel_place` meets its contract. Assumes nothing.
use Rattle.std.proofs.Common.{sym, ap, ◌∙◌}
use Rattle.reader.specs.Cases.{naming_of}
use Rattle.reader.proofs.Namings.{named}
use Rattle.consistency.proofs.Panels.{panel_named, panel_unnamed}
use Rattle.consistency.proofs.panel.panel_place.Goals as goal

pub shown_length-requires : goal.shown_length-requires
shown_length-requires c =
    let place = c.in_ok-place.place in
    (named c.args.image.now c.args.id place.start place.len (sym c.in_ok-place.ensures)).inside

pub returns-in_err-place : goal.returns-in_err-place
returns-in_err-place c =
    ap naming_of c.from_residual.ensures ∙ panel_unnamed c.args.image.now c.args.id c.in_err-place.ensures

pub returns : goal.returns
returns c =
    let place = c.in_ok-place.place in
    panel_named c.args.image.now c.args.id place.start place.len c.in_ok-place.ensures c.shown_length.result c.shown_length.ensures

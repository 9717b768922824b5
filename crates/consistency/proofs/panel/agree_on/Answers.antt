-- `consistency::panel::agree_on` meets its contract. Assumes nothing.
use Rattle.std.proofs.Common.{◌+◌, ◌≤◌, length, sym}
use Rattle.reader.proofs.Namings.{named}
use Rattle.consistency.proofs.Panels.{agree_unnamed, agree_sized}
use Rattle.consistency.proofs.panel.agree_on.Goals.{In-Some}
use Rattle.consistency.proofs.panel.agree_on.Goals as goal

-- the name stands in the image
inside : (c : In-Some) → c.in-Some.place.start + c.in-Some.place.len ≤ length c.args.image.now
inside c =
    let place = c.in-Some.place in
    (named c.args.image.now c.args.id place.start place.len (sym c.in-Some.ensures)).inside

pub shown_length-requires : goal.shown_length-requires
shown_length-requires c = inside (goal.at.shown_length-requires c).In-Some

pub returns-in-Some : goal.returns-in-Some
returns-in-Some c =
    let place = c.in-Some.place in
    agree_sized c.args.image.now c.args.id place.start place.len c.in-Some.ensures (inside (goal.at.returns-in-Some c).In-Some)
    c.shown_length.result c.shown_length.ensures

pub returns-in-None : goal.returns-in-None
returns-in-None c = agree_unnamed c.args.image.now c.args.id c.in-None.ensures

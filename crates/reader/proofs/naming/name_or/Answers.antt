-- `reader::naming::name_or` meets its contract. Assumes nothing.
use Rattle.std.proofs.Common.{sym}
use Rattle.reader.proofs.Namings.{named}
use Rattle.reader.proofs.naming.name_or.Goals as goal

pub of-requires : goal.of-requires
of-requires c =
    let place = c.in-Some.place in
    (named c.args.image.now c.args.id place.start place.len (sym c.in-Some.ensures)).inside

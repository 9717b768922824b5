-- `reader::naming::name_given` meets its contract. Assumes nothing.
use Rattle.std.proofs.Common.{sym, arith}
use Rattle.reader.proofs.Namings.{named}
use Rattle.reader.proofs.naming.name_given.Goals as goal

pub of-requires : goal.of-requires
of-requires c =
    let place = c.in_ok-place.place in
    omega (arith, named c.args.image.now c.args.id place.start place.len (sym c.in_ok-place.ensures))

-- `image::probe::start` meets its contract. Assumes nothing.
use Rattle.std.proofs.Common.{◌/◌, refl, mod-lt}
use Rattle.image.proofs.probe.start.Goals as goal

pub returns : goal.returns
returns c = record { is = refl; inside = mod-lt (c.args.h / 256) {m = c.args.n} c.requires }

-- `image::entries::raise` meets its contract. Assumes nothing.
use Rattle.std.proofs.Common.{refl}
use Rattle.image.specs.Tally.{raised_counts}
use Rattle.image.proofs.entries.raise.Goals as goal

pub returns : goal.returns
unfolding raised_counts
returns c = refl

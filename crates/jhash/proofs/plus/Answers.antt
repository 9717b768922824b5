-- `jhash::plus` meets its contract. Assumes nothing.
use Rattle.std.proofs.Common.{refl}
use Rattle.jhash.specs.Lookup3.{plus}
use Rattle.jhash.proofs.plus.Goals as goal

pub returns : goal.returns
unfolding plus
returns c = refl

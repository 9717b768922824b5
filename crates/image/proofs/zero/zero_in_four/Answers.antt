-- `image::zero::zero_in_four` meets its contract. Assumes nothing.
use Rattle.image.proofs.Zeros.{zero_four}
use Rattle.image.proofs.zero.zero_in_four.Goals as goal

pub returns : goal.returns
returns c = let a = c.args in zero_four a.s.now a.at c.requires

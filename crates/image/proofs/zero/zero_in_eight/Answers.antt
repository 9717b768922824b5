-- `image::zero::zero_in_eight` meets its contract. Assumes nothing.
use Rattle.image.proofs.Zeros.{zero_eight}
use Rattle.image.proofs.zero.zero_in_eight.Goals as goal

pub returns : goal.returns
returns c =
    let a = c.args in
    let first = c.zero_in_four in
    let second = c.zero_in_four-2 in
    zero_eight a.s.now a.at first.result second.result first.ensures second.ensures

-- `jhash::rotate_left` meets its contract, for every word and amount. Assumes nothing.
use Rattle.jhash.proofs.Rotation.{product_fits, sum_fits, sum_rotates}
use Rattle.jhash.proofs.rotate_left.Goals as goal

pub overflow_mul-x : goal.overflow_mul-x
overflow_mul-x c =
    record { fits = product_fits c.args.x c.args.k c.ranges.x.fits c.power.ensures }

pub overflow_cast-result : goal.overflow_cast-result
overflow_cast-result c =
    let sum = c.halves_added.ensures in
    record { fits = sum_fits c.args.x c.args.k c.ranges.x.fits c.power.ensures sum }

pub returns : goal.returns
returns c =
    sum_rotates c.args.x c.args.k c.ranges.x.fits c.power.ensures c.halves_added.ensures

-- `bundle::walking::open` meets its contract. Assumes nothing.
use Rattle.std.proofs.Common.{sym, arith}
use Rattle.bundle.proofs.ImagePlaces.{place_inside}
use Rattle.bundle.proofs.walking.open.Goals as goal

pub overflow_add-start : goal.overflow_add-start
overflow_add-start c =
    let p = c.in_ok-start.field-0 in
    omega (arith, place_inside c.args.file.now c.args.position p.start p.size (sym c.in_ok-start.ensures))

pub slice_bounds-open-end : goal.slice_bounds-open-end
slice_bounds-open-end c =
    let p = c.in_ok-start.field-0 in
    omega (arith, place_inside c.args.file.now c.args.position p.start p.size (sym c.in_ok-start.ensures))

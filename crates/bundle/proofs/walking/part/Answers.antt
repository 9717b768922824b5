-- `bundle::walking::part` meets its contract. Assumes nothing.
use Rattle.std.proofs.Common.{sym, arith}
use Rattle.reader.specs.Slices.{slice}
use Rattle.bundle.proofs.ImagePlaces.{place_inside, part_there, no_part}
use Rattle.bundle.proofs.walking.part.Goals as goal

pub overflow_add-result : goal.overflow_add-result
overflow_add-result c = omega (arith, place_inside c.args.file.now c.args.position c.in-Ok.p.start c.in-Ok.p.size (sym c.in-Ok.ensures))

pub slice_bounds-result-end : goal.slice_bounds-result-end
slice_bounds-result-end c = omega (arith, place_inside c.args.file.now c.args.position c.in-Ok.p.start c.in-Ok.p.size (sym c.in-Ok.ensures))

pub returns-in-Ok : goal.returns-in-Ok
returns-in-Ok c = part_there (slice c.args.file) c.args.position c.in-Ok.p.start c.in-Ok.p.size (sym c.in-Ok.ensures)

pub returns-in-Err : goal.returns-in-Err
returns-in-Err c = no_part (slice c.args.file) c.args.position _ (sym c.in-Err.ensures)

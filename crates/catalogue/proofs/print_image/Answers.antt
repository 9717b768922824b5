-- `catalogue::print_image` is safe and ends: the image lies in the buffer. Assumes nothing.
use Rattle.std.proofs.Common.{sym}
use lib.Seq.{length-take-le}
use Rattle.catalogue.proofs.BuiltImage.{built_inside}
use Rattle.catalogue.proofs.print_image.Goals as goal

pub slice_bounds-print_walk-end : goal.slice_bounds-print_walk-end
slice_bounds-print_walk-end g c =
    let a = c.args in
    sym (length-take-le a.size a.buf.now (built_inside 65536 a.entries a.size a.buf.now c.requires))

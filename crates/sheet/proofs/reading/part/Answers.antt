-- `sheet::reading::part` meets its contract. Assumes nothing.
use native.Mathlib.Omega.{arith}
use Rattle.reader.specs.Slices.{slice}
use Rattle.sheet.proofs.Parts.{part_past, part_clipped}
use Rattle.sheet.proofs.reading.part.Goals as goal

pub returns-then-all-start : goal.returns-then-all-start
returns-then-all-start c = part_past (slice c.args.file) c.args.p (omega arith)

pub returns : goal.returns
returns c = part_clipped (slice c.args.file) c.args.p c.min-size.result c.min-size.ensures (omega arith)

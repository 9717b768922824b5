-- All marked examples of 01, "Examples from the quay", under one theorem: C1 to C5, C7 and C11 as rows of calls with
-- either choice of 02 (viii), C6 as one that names it, C8, C9, C10 and C12 as rows of reading.
use Rattle.reader.specs.Examples.Reads.{ReadsHold}
use Rattle.writer.specs.declared.Repeats.{Repeats}
use Rattle.lists.specs.Examples.Rows.{Each, HoldsInAny, example_rows, named_rows}

pub record AllExamples : Type 0 where
  pub calls : (repeats : Repeats) → Each HoldsInAny (example_rows repeats)
  pub named : Each HoldsInAny named_rows
  pub reading : ReadsHold

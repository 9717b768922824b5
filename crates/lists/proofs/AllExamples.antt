-- All marked examples of 01 hold (`specs/Examples/AllExamples`). Assumes nothing.
use Rattle.reader.proofs.ExampleReads.{reads_hold}
use Rattle.lists.specs.Examples.AllExamples.{AllExamples}
use Rattle.lists.proofs.ExampleRows.{rows_hold, named_hold}

pub all_examples : AllExamples
all_examples = record { calls = rows_hold; named = named_hold; reading = reads_hold }

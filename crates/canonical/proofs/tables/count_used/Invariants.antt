-- `canonical::tables::count_used` meets its contract. Assumes nothing.
use Rattle.canonical.specs.Steps.InPlace.{back_word_at}
use Rattle.canonical.proofs.TableLoops.{Used}
use Rattle.canonical.proofs.tables.count_used.Given as goal

abbrev pub invariant-loop-k : goal.invariant-loop-k
invariant-loop-k l = Used (back_word_at l.image l.o) l.k l.used

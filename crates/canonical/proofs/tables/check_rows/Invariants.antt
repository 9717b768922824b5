-- `canonical::tables::check_rows` meets its contract. Assumes nothing.
use Rattle.canonical.proofs.TableLoops.{Rows}
use Rattle.canonical.proofs.tables.check_rows.Given as goal

abbrev pub invariant-loop-t : goal.invariant-loop-t
invariant-loop-t l = Rows l.image l.end l.o l.t

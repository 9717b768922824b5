-- `canonical::tables::check_table` meets its contract. Assumes nothing.
use Rattle.std.proofs.Common.{◌*◌}
use Rattle.canonical.proofs.TableLoops.{Buckets}
use Rattle.canonical.proofs.tables.check_table.Given as goal

abbrev pub invariant-loop-k : goal.invariant-loop-k
invariant-loop-k l = Buckets l.image l.o (2 * l.c) l.k l.clean l.used

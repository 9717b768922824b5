-- `serialize::tables::insert_pairs` meets its contract. Assumes nothing.
use Rattle.serialize.proofs.TableFill.{Filling}
use Rattle.serialize.proofs.tables.insert_pairs.Given as goal

abbrev pub invariant-loop-i : goal.invariant-loop-i
invariant-loop-i l = Filling l.initial.buf l.pairs l.end l.o l.c l.i l.buf l.met

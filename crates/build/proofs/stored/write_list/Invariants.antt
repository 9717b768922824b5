-- `build::stored::write_list` meets its contract. The loop's invariant: the first i entries are stored, with their pairs and offsets. Assumes nothing.
use Rattle.build.proofs.WrittenList.{Turn}
use Rattle.build.proofs.stored.write_list.Given as goal

abbrev pub invariant-loop-i : goal.invariant-loop-i
invariant-loop-i l = Turn l.mode l.initial.buf l.names.bytes.now l.names.ends.now l.ids l.buf l.places l.at l.i

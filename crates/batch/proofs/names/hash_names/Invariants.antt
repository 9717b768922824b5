-- `batch::names::hash_names` meets its contract. The loop's invariant: the first i hashes are stored. Assumes nothing.
use Rattle.std.proofs.Common.{◌≡◌, length}
use Rattle.batch.specs.RoundNames.{names}
use Rattle.batch.proofs.Duplicates.{HashesTo}
use Rattle.batch.proofs.names.hash_names.Given as goal

abbrev pub invariant-loop-i : goal.invariant-loop-i
invariant-loop-i l = record { long : length l.hashes ≡ 512; stored : HashesTo (names l.packed.bytes.now l.packed.ends.now) l.i l.hashes }

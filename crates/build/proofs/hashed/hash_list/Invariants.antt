-- `build::hashed::hash_list` meets its contract. Assumes nothing.
use Rattle.build.proofs.StoredAll.{HashingTo}
use Rattle.build.proofs.hashed.hash_list.Given as goal

abbrev pub invariant-loop-i : goal.invariant-loop-i
invariant-loop-i l = HashingTo l.names.bytes.now l.names.ends.now l.initial.hashes l.i l.hashes l.counts

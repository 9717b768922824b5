-- `build::hashed::hash_list` meets its contract. Assumes nothing.
use Rattle.std.proofs.Common.{arith}
use Rattle.build.proofs.StoredAll.{hashing_start, hashing_end, count_word, hashing_step}
use Rattle.build.proofs.hashed.hash_list.Goals as goal

pub loop-i-init : goal.loop-i-init
loop-i-init c = hashing_start c.requires

pub bounds-hashes-i : goal.bounds-hashes-i
bounds-hashes-i c = omega (arith, c.loop-i-test.true, c.requires.hashes_long, c.loop-i.invariant.size)

pub raise-requires : goal.raise-requires
raise-requires c =
    count_word c.requires c.loop-i.invariant c.loop-i-test.true c.name.ensures c.hash_name-h.ensures

pub loop-i-preserved : goal.loop-i-preserved
loop-i-preserved c =
    hashing_step c.requires c.loop-i.invariant c.loop-i-test.true c.name.ensures c.hash_name-h.ensures c.requires.hashes_long
    c.raise.ensures

pub returns : goal.returns
returns c = hashing_end c.requires c.loop-i.invariant (omega (arith, c.loop-i-test.false))

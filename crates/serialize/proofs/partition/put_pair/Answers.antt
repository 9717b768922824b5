-- `serialize::partition::put_pair` meets its contract. Assumes nothing.
use Rattle.serialize.proofs.PartitionSteps.{pair_put_lem, pair_left}
use Rattle.serialize.proofs.partition.put_pair.Goals as goal

pub returns-then-at-buf : goal.returns-then-at-buf
returns-then-at-buf c =
    let a = c.args in
    pair_put_lem a.buf.now a.at a.h a.offset c.if-at-buf.true c.store_pair.ensures

pub returns-else-at-buf : goal.returns-else-at-buf
returns-else-at-buf c =
    let a = c.args in
    pair_left a.buf.now a.at a.h a.offset c.if-at-buf.false

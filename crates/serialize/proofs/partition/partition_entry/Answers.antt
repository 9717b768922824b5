-- `serialize::partition::partition_entry` meets its contract. Assumes nothing.
use Rattle.serialize.proofs.PartitionSteps.{entry_partitioned}
use Rattle.serialize.proofs.partition.partition_entry.Goals as goal

pub returns : goal.returns
returns c =
    let a = c.args in
    entry_partitioned a.mode a.back_offset a.at a.id a.h a.places.now a.buf.now c.append_pair.ensures
    c.store_back.ensures

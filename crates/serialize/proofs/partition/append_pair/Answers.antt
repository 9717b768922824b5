-- `serialize::partition::append_pair` meets its contract. Assumes nothing.
use Rattle.std.proofs.Common.{refl}
use Rattle.serialize.proofs.PartitionSteps.{pair_appended}
use Rattle.serialize.proofs.partition.append_pair.Goals as goal

pub returns : goal.returns
returns c =
    let a = c.args in
    pair_appended a.places.now a.buf.now a.h a.at _ c.put_pair.ensures refl

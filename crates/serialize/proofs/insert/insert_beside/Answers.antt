-- `serialize::insert::insert_beside` meets its contract. Assumes nothing.
use Rattle.std.proofs.Common.{arith}
use Rattle.serialize.proofs.Insertion.{pair_inserted}
use Rattle.serialize.proofs.insert.insert_beside.Goals as goal

pub returns : goal.returns
returns c =
    let a = c.args in
    pair_inserted a.buf.now a.end a.o a.n a.h a.at c.probe-found.result.bucket c.probe-found.ensures
    c.store_pair.ensures (omega arith) (omega arith)

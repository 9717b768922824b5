-- `serialize::insert::insert_pair` meets its contract. Assumes nothing.
use Rattle.std.proofs.Common.{◌+◌, ◌*◌, ◌≤◌, length, arith}
use Rattle.serialize.proofs.Insertion.{pair_inserted}
use Rattle.serialize.proofs.insert.insert_pair.Goals.{In-Some}
use Rattle.serialize.proofs.insert.insert_pair.Goals as goal

-- the bucket lies in the buffer
inside : (c : In-Some) → let a = c.args in a.o + 8 * c.in-Some.k + 8 ≤ length a.buf.now
inside c = omega (arith, (c.in-Some.ensures c.args.end c.args.at).first.inside, c.requires.inside)

pub overflow_mul-k : goal.overflow_mul-k
overflow_mul-k c = omega (arith, inside (goal.at.overflow_mul-k c).In-Some)

pub overflow_add-o : goal.overflow_add-o
overflow_add-o c = omega (arith, inside (goal.at.overflow_add-o c).In-Some)

pub store_pair-requires : goal.store_pair-requires
store_pair-requires c = omega (arith, inside (goal.at.store_pair-requires c).In-Some)

pub returns : goal.returns
returns c =
    let a = c.args in
    let k = c.in-Some.k in
    pair_inserted a.buf.now a.end a.o a.n a.h a.at k (c.in-Some.ensures a.end a.at) c.store_pair.ensures (omega arith) (omega arith)

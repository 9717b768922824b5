-- `serialize::tables::insert_singly` meets its contract. Assumes nothing.
use Rattle.std.proofs.Common.{arith}
use Rattle.serialize.proofs.Insertion.{inserted_in}
use Rattle.serialize.proofs.tables.insert_singly.Goals as goal

pub insert_entries-requires : goal.insert_entries-requires
insert_entries-requires c =
    let pre = c.requires in
    record {
      low = pre.low;
      inside = omega (arith, pre.within, pre.inside, c.clear_bytes.auto.buf);
      end_word = omega (arith, pre.within, pre.size_word);
      back_word = pre.back_word;
    }

pub returns : goal.returns
returns c =
    let a = c.args in
    inserted_in a.mode a.back_offset a.end a.entries a.size a.buf.now c.clear_bytes.ensures
    c.insert_entries.ensures

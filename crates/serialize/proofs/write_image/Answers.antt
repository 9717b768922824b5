-- `serialize::write_image` meets its contract. Assumes nothing.
use Rattle.std.proofs.Common.{arith}
use Rattle.image.proofs.EntryArea.{AllBytes}
use Rattle.serialize.specs.Steps.Written.{FillAllPre}
use Rattle.serialize.proofs.WriteSteps.{back_offset_le}
use Rattle.serialize.proofs.WrittenImage.{written_singly, written_by_tables}
use Rattle.serialize.proofs.write_image.Goals.{After-back_offset-back_offset}
use Rattle.serialize.proofs.write_image.Goals as goal

-- ---- what is known at them
bytes : (c : After-back_offset-back_offset) → AllBytes c.args.buf.now
bytes c i = omega (arith, c.slice_known-1.given i)

-- entries end in the image, and the image in the buffer
room : (c : After-back_offset-back_offset) → FillAllPre c.back_offset-back_offset.result c.args.end c.finished_size-size.result c.begin_image.new.buf
room c =
    let pre = c.requires in
    let a = c.args in
    let size = c.finished_size-size.ensures in
    record {
      low = pre.after_head;
      within = omega (arith, size);
      inside = omega (arith, size, pre.fits_buffer, c.begin_image.auto.buf);
      size_word = omega (arith, size, pre.fits_word);
      back_word = omega (arith, c.back_offset-back_offset.ensures, back_offset_le a.mode a.end a.entries a.back, pre.fits_word);
    }

-- ---- the needs
pub returns-then-not-by_tables : goal.returns-then-not-by_tables
returns-then-not-by_tables c =
    let a = c.args in
    written_singly a.mode a.end a.entries a.back a.counts.now a.buf.now
    (bytes (goal.at.returns-then-not-by_tables c).After-back_offset-back_offset) c.requires
    c.finished_size-size.ensures c.back_offset-back_offset.ensures c.begin_image.ensures.image c.insert_singly.ensures

pub partition_entries-requires : goal.partition_entries-requires
partition_entries-requires c =
    let r = room (goal.at.partition_entries-requires c).After-back_offset-back_offset in
    record { low = r.low; inside = omega (arith, r.within, r.inside); end_word = omega (arith, r.within, r.size_word); back_word = r.back_word }

pub fill_all-requires : goal.fill_all-requires
fill_all-requires c =
    let r = room (goal.at.fill_all-requires c).After-back_offset-back_offset in
    record {
      low = r.low;
      within = r.within;
      inside = omega (arith, r.inside, c.partition_entries.auto.buf);
      size_word = r.size_word;
      back_word = r.back_word;
    }

pub returns : goal.returns
returns c =
    let a = c.args in
    written_by_tables a.mode a.end a.entries a.back a.counts.now a.buf.now (bytes (goal.at.returns c).After-back_offset-back_offset) c.requires
    c.finished_size-size.ensures c.back_offset-back_offset.ensures c.begin_image.ensures.image c.begin_image.ensures.begins
    c.partition_entries.ensures c.fill_all.ensures

pub insert_singly-requires : goal.insert_singly-requires
insert_singly-requires c = room (goal.at.insert_singly-requires c).After-back_offset-back_offset

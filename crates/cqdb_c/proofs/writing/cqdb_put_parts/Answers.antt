-- `cqdb_c::writing::cqdb_put_parts` meets its contract: what `put` promises, of C's record. Assumes nothing.
use mathlib.Core.Path.{ap, ◌∙◌}
use Rattle.writer.specs.Put.{entry_of}
use Rattle.writer.specs.CRecord.{record_in, lent_state, writer_read}
use Rattle.writer.proofs.CRecords.{record_stored}
use Rattle.cqdb_c.proofs.CCalls.{put_unknown}
use Rattle.cqdb_c.proofs.InPlace.{put_answered, put_stored}
use Rattle.cqdb_c.proofs.RecordRead.{known_writer, no_writer}
use Rattle.cqdb_c.proofs.writing.cqdb_put_parts.Goals as goal

pub returns-in_default : goal.returns-in_default
returns-in_default c =
    let a = c.args in
    let none = no_writer (record_in a.numbers.now a.sizes.now) _ (c.in_default.ensures ∙ ap writer_read c.record_in.ensures) in
    let same = put_unknown (lent_state a.numbers.now a.sizes.now a.counts.now a.buf.now) (entry_of a.name.now a.id) none in
    record { answer = c.from.ensures ∙ same.0; leaves = λ four two. same.1 }

pub returns : goal.returns
returns c =
    let a = c.args in
    let h = lent_state a.numbers.now a.sizes.now a.counts.now a.buf.now in
    let e = entry_of a.name.now a.id in
    let is = known_writer (record_in a.numbers.now a.sizes.now) _ (c.in-Ok.ensures ∙ ap writer_read c.record_in.ensures) in
    record {
      answer = c.refusal_number.ensures ∙ put_answered h e is.0 is.1 (c.put-done.ensures.answer, c.put-done.ensures.leaves);
      leaves = λ four two. put_stored h e is.0 is.1 (c.put-done.ensures.answer, c.put-done.ensures.leaves)
          (record_stored a.numbers.now a.sizes.now c.put-done.new.self four two);
    }

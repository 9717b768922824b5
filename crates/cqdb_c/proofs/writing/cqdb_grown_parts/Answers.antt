-- `cqdb_c::writing::cqdb_grown_parts` meets its contract: what `grown` promises, of C's record. Assumes nothing.
use mathlib.Core.Path.{ap, ◌∙◌}
use Rattle.writer.specs.CRecord.{record_in, writer_read}
use Rattle.writer.proofs.CRecords.{length_stored}
use Rattle.cqdb_c.proofs.GrownCalls.{grown_unknown}
use Rattle.cqdb_c.proofs.InPlace.{grown_answered, grown_stored}
use Rattle.cqdb_c.proofs.RecordRead.{known_writer, no_writer}
use Rattle.cqdb_c.proofs.writing.cqdb_grown_parts.Goals as goal

pub returns-in_default : goal.returns-in_default
returns-in_default c =
    let a = c.args in
    let none = no_writer (record_in a.numbers.now a.sizes.now) _ (c.in_default.ensures ∙ ap writer_read c.record_in.ensures) in
    let same = grown_unknown (record_in a.numbers.now a.sizes.now) a.longer none in
    record { answer = c.from.ensures ∙ same.0; leaves = λ two. same.1 }

pub returns : goal.returns
returns c =
    let a = c.args in
    let r = record_in a.numbers.now a.sizes.now in
    let is = known_writer r _ (c.in-Ok.ensures ∙ ap writer_read c.record_in.ensures) in
    record {
      answer = c.refusal_number.ensures ∙ grown_answered r a.longer is.0 is.1 (c.grown-done.ensures.answer, c.grown-done.ensures.leaves);
      leaves = λ two. grown_stored r a.longer is.0 is.1 (c.grown-done.ensures.answer, c.grown-done.ensures.leaves)
          (length_stored a.numbers.now a.sizes.now c.grown-done.new.self.length two);
    }

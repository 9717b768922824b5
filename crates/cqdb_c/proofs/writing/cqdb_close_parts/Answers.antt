-- `cqdb_c::writing::cqdb_close_parts` meets its contract: what `close` promises, of C's record. Assumes nothing.
use mathlib.Core.Path.{ap, ◌∙◌}
use Rattle.writer.specs.CRecord.{record_in, lent_state, writer_read}
use Rattle.cqdb_c.specs.declared.writing.CloseAnswer.{CloseAnswer}
use Rattle.cqdb_c.proofs.CCalls.{close_unknown}
use Rattle.cqdb_c.proofs.InPlace.{close_in_place}
use Rattle.cqdb_c.proofs.RecordRead.{known_writer, no_writer}
use Rattle.cqdb_c.proofs.writing.cqdb_close_parts.Goals as goal

pub returns-in_default : goal.returns-in_default
returns-in_default c =
    let a = c.args in
    let none = no_writer (record_in a.numbers.now a.sizes.now) _ (c.in_default.ensures ∙ ap writer_read c.record_in-r.ensures) in
    let same = close_unknown (lent_state a.numbers.now a.sizes.now a.counts.now a.buf.now) none in
    let told = c.from.ensures in
    record {
      refusal = ap (λ (x : CloseAnswer). x.refusal) told ∙ same.0;
      size = ap (λ (x : CloseAnswer). x.size) told ∙ same.1.0;
      leaves = same.1.1;
    }

pub returns-then-r-eq0 : goal.returns-then-r-eq0
returns-then-r-eq0 c =
    let a = c.args in
    let is = known_writer (record_in a.numbers.now a.sizes.now) _ (c.in-Ok.ensures ∙ ap writer_read c.record_in-r.ensures) in
    let all =
    close_in_place (lent_state a.numbers.now a.sizes.now a.counts.now a.buf.now) _ _ _ _ _ _ is.0 is.1
    (c.close.ensures.answer, c.close.ensures.leaves)
    (ap (λ (x : CloseAnswer). x.refusal) c.from-then-r-eq0.ensures) (ap (λ (x : CloseAnswer). x.size) c.from-then-r-eq0.ensures) in
    record { refusal = all.0; size = all.1.0; leaves = all.1.1 }

pub returns : goal.returns
returns c =
    let a = c.args in
    let is = known_writer (record_in a.numbers.now a.sizes.now) _ (c.in-Ok.ensures ∙ ap writer_read c.record_in-r.ensures) in
    let all =
    close_in_place (lent_state a.numbers.now a.sizes.now a.counts.now a.buf.now) _ _ _ _ _ _ is.0 is.1
    (c.close-2.ensures.answer, c.close-2.ensures.leaves)
    (ap (λ (x : CloseAnswer). x.refusal) c.from-2.ensures) (ap (λ (x : CloseAnswer). x.size) c.from-2.ensures) in
    record { refusal = all.0; size = all.1.0; leaves = all.1.1 }

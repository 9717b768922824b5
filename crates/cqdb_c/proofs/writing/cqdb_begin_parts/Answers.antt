-- `cqdb_c::writing::cqdb_begin_parts` meets its contract: what `begin` promises, stored in the writer. Assumes nothing.
use mathlib.Core.Path.{ap, ◌∙◌}
use lib.ListN.{length}
use Rattle.jhash.specs.Outcome.{value, refusal}
use Rattle.writer.specs.declared.c_record.Record.{Record}
use Rattle.cqdb_c.specs.Writing.{lent_writer, numbers_of, sizes_of}
use Rattle.cqdb_c.proofs.CCalls.{begin_unknown, begin_known}
use Rattle.cqdb_c.proofs.RecordRead.{known_mode, no_mode, known_repeats, no_repeats, both_known}
use Rattle.cqdb_c.proofs.writing.cqdb_begin_parts.Goals as goal

pub returns-in_default : goal.returns-in_default
returns-in_default c =
    let a = c.args in
    let same = begin_unknown a.mode a.repeats (length a.buf.now) (lent_writer a.numbers.now a.sizes.now a.counts.now)
    (no_mode a.mode _ a.repeats c.in_default.ensures) in
    record { answer = c.from.ensures ∙ same.0; leaves = same.1 }

pub returns-in_default-try_from : goal.returns-in_default-try_from
returns-in_default-try_from c =
    let a = c.args in
    let same = begin_unknown a.mode a.repeats (length a.buf.now) (lent_writer a.numbers.now a.sizes.now a.counts.now)
    (no_repeats a.mode a.repeats _ (known_mode a.mode _ c.in-Ok.ensures).0 c.in_default-try_from.ensures) in
    record { answer = c.from-in_default-try_from.ensures ∙ same.0; leaves = same.1 }

pub returns-in-Ok-begin : goal.returns-in-Ok-begin
returns-in-Ok-begin c =
    let a = c.args in
    let m = known_mode a.mode _ c.in-Ok.ensures in
    let r = known_repeats a.repeats _ c.in-Ok-try_from.ensures in
    let done = begin_known a.mode a.repeats (length a.buf.now) (lent_writer a.numbers.now a.sizes.now a.counts.now) c.begin.new.counts _ _
    (value _) (both_known a.mode a.repeats m.0 r.0) m.1 r.1 (c.in-Ok-begin.ensures.answer, c.begin.ensures.counts) in
    record {
      answer = done.0;
      leaves = ap (λ (x : Record). lent_writer (numbers_of x) (sizes_of x) c.begin.new.counts) c.from-fresh.ensures ∙ done.1;
    }

pub returns-in-Err : goal.returns-in-Err
returns-in-Err c =
    let a = c.args in
    let m = known_mode a.mode _ c.in-Ok.ensures in
    let r = known_repeats a.repeats _ c.in-Ok-try_from.ensures in
    let done = begin_known a.mode a.repeats (length a.buf.now) (lent_writer a.numbers.now a.sizes.now a.counts.now) c.begin.new.counts _ _
    (refusal _) (both_known a.mode a.repeats m.0 r.0) m.1 r.1 (c.in-Err.ensures.answer, c.begin.ensures.counts) in
    record { answer = c.from-in-Err.ensures ∙ done.0; leaves = done.1 }

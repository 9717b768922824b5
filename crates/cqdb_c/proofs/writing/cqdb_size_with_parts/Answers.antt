-- `cqdb_c::writing::cqdb_size_with_parts` meets its contract: what `size_with` promises, of C's record. Assumes nothing.
use native.Mathlib.Omega.{arith}
use mathlib.Core.Path.{refl, ap, ◌∙◌}
use mathlib.Core.Bool.{true, false}
use borrow.Author.Tests.{le-leb, lt-leb}
use Rattle.writer.specs.declared.CQDBWriter.{CQDBWriter}
use Rattle.writer.specs.declared.c_record.Record.{Record}
use Rattle.writer.specs.State.{finished_size}
use Rattle.writer.specs.Put.{writer_after_put}
use Rattle.writer.specs.CRecord.{writer_of, record_in}
use Rattle.cqdb_c.proofs.Sizes.{size_by}
use Rattle.cqdb_c.proofs.writing.cqdb_size_with_parts.Goals as goal

pub returns-then-r-ge9223372036854775808 : goal.returns-then-r-ge9223372036854775808
returns-then-r-ge9223372036854775808 c =
    let a = c.args in
    let end = ap (λ (x : Record). x.end) c.record_in-r.ensures in
    size_by (record_in a.numbers.now a.sizes.now) a.n a.id true _
    (le-leb 9223372036854775808 (record_in a.numbers.now a.sizes.now).end (omega (arith, end, c.if-r-ge9223372036854775808.true))) refl

pub returns-then-n-ge4294967295 : goal.returns-then-n-ge4294967295
returns-then-n-ge4294967295 c =
    let a = c.args in
    let end = ap (λ (x : Record). x.end) c.record_in-r.ensures in
    size_by (record_in a.numbers.now a.sizes.now) a.n a.id false true
    (lt-leb 9223372036854775808 (record_in a.numbers.now a.sizes.now).end (omega (arith, end, c.if-r-ge9223372036854775808.false)))
    (le-leb 4294967295 a.n c.if-n-ge4294967295.true)

pub size_with-requires : goal.size_with-requires
size_with-requires c = record {
  low = omega (arith, ap (λ (x : CQDBWriter). x.end) c.writer_of.ensures, c.if-r-ge9223372036854775808.false);
  short = omega (arith, c.if-n-ge4294967295.false);
}

pub returns : goal.returns
returns c =
    let a = c.args in
    let end = ap (λ (x : Record). x.end) c.record_in-r.ensures in
    c.size_with.ensures
    ∙ ap (λ (x : CQDBWriter). finished_size (writer_after_put x a.n a.id)) (c.writer_of.ensures ∙ ap writer_of c.record_in-r.ensures)
    ∙ size_by (record_in a.numbers.now a.sizes.now) a.n a.id false false
    (lt-leb 9223372036854775808 (record_in a.numbers.now a.sizes.now).end (omega (arith, end, c.if-r-ge9223372036854775808.false)))
    (lt-leb 4294967295 a.n c.if-n-ge4294967295.false)

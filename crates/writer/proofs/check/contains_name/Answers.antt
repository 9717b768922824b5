-- `writer::check::contains_name` meets its contract. Assumes nothing.
use Rattle.std.proofs.Common.{sym}
use Rattle.writer.proofs.Agree.{zeros, same_test, other_test}
use Rattle.writer.proofs.Earlier.{not_whole, other_counts, other_back, by_name}
use Rattle.writer.proofs.check.contains_name.Goals as goal

pub walk-requires : goal.walk-requires
walk-requires c = record { head = c.requires.low; inside = c.requires.high; zero = zeros 256 }

pub returns-in_default : goal.returns-in_default
returns-in_default c =
    let a = c.args in
    not_whole a.w.now a.counts.now a.buf.now a.name.now c.in_default.ensures

pub returns-then-ne : goal.returns-then-ne
returns-then-ne c =
    let a = c.args in
    let f = c.in-Some.ensures in
    other_counts a.w.now a.counts.now a.buf.now a.name.now f.whole_is _ f.counts_are c.told-counts (other_test _ _ (sym c.if-ne.ensures))

pub returns-then-w-back_in : goal.returns-then-w-back_in
returns-then-w-back_in c =
    let a = c.args in
    let f = c.in-Some.ensures in
    other_back a.w.now a.counts.now a.buf.now a.name.now f.whole_is _ f.counts_are c.told-counts (same_test _ _ (sym c.if-ne.ensures)) _ _
    f.back_is c.back_in.ensures c.if-w-back_in.true

pub returns : goal.returns
returns c =
    let a = c.args in
    let f = c.in-Some.ensures in
    by_name a.w.now a.counts.now a.buf.now a.name.now f.whole_is _ f.counts_are c.told-counts (same_test _ _ (sym c.if-ne.ensures)) _ _
    f.back_is c.back_in.ensures c.if-w-back_in.false _ f.contains_is

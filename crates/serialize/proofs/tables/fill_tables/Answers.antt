-- `serialize::tables::fill_tables` meets its contract. Assumes nothing.
use Rattle.std.proofs.Common.{◌≡◌, ℕ, ◌-◌, ◌<◌, List, get_or, take, sym, refl, ap, ◌∙◌, subst, arith}
use Rattle.image.proofs.Bools.{or_false_first, or_false_second}
use Rattle.serialize.specs.Steps.Partition.{pairs_stored}
use Rattle.serialize.specs.Steps.Meeting.{Apart, TablesApart}
use Rattle.serialize.proofs.Insertion.{not_met, stopped}
use Rattle.serialize.proofs.PartitionSteps.{tables_step, front_kept, apart_next, tables_end}
use Rattle.serialize.proofs.tables.fill_tables.Goals as goal

-- ---- the needs
pub loop-count-init : goal.loop-count-init
loop-count-init c =
    record {
      long = refl;
      copy_long = refl;
      leaves = refl;
      near = omega (arith, c.requires.end_word);
      behind = omega arith;
      front = refl;
      apart = λ z rest. rest;
    }

pub fill_table-one-requires : goal.fill_table-one-requires
fill_table-one-requires c =
    let less : c.loop-count.count-index < 256 = omega arith in
    record {
      behind = c.loop-count.invariant.behind;
      low = omega (arith, c.loop-count.invariant.near, less);
      count_word = c.fits-counts c.loop-count.count-index;
      copy_long = omega (arith, c.requires.copies c.loop-count.count-index less, c.loop-count.invariant.copy_long);
    }

pub overflow_add-o : goal.overflow_add-o
overflow_add-o c =
    omega (arith, c.fits-counts c.loop-count.count-index, c.loop-count.invariant.near)

pub loop-count-preserved : goal.loop-count-preserved
loop-count-preserved c =
    let a = c.args in
    let done = c.fill_table-one in
    let less : c.loop-count.count-index < 256 = omega arith in
    let count = get_or a.counts.now c.loop-count.count-index 0 in
    let leaves = done.ensures.leaves c.if-stop-one.false in
    record {
      long = done.auto.buf ∙ c.loop-count.invariant.long;
      copy_long = done.auto.copy ∙ c.loop-count.invariant.copy_long;
      leaves = tables_step a.counts.now c.loop-count.buf _ c.loop-count.o c.loop-count.count-index 256 count less refl leaves
          c.loop-count.invariant.leaves;
      near = omega (arith, c.fits-counts c.loop-count.count-index, c.loop-count.invariant.near);
      behind = omega (arith, c.loop-count.invariant.behind);
      front = ap (take a.end) leaves ∙ front_kept c.loop-count.buf a.end c.loop-count.o count c.loop-count.invariant.behind ∙ c.loop-count.invariant.front;
      apart = λ z. apart_next _ a.counts.now c.loop-count.buf c.loop-count.o c.loop-count.count-index 256 count less refl leaves
          (c.loop-count.invariant.apart (or_false_first c.loop-count.met _ z))
          (subst (λ (g : List ℕ). Apart g (pairs_stored c.loop-count.buf c.loop-count.o count)) c.loop-count.invariant.front
          (done.ensures.apart (or_false_second c.loop-count.met _ z)));
    }

pub returns-then-stop-one : goal.returns-then-stop-one
returns-then-stop-one c =
    record { leaves = stopped c.args.stop c.fill_table-one.result c.if-stop-one.true; apart = not_met }

pub returns : goal.returns
returns c =
    let z : 256 - c.loop-count.count-index ≡ 0 = omega (arith, c.loop-count-test.false) in
    let a = c.args in
    record {
      leaves = λ _. tables_end a.counts.now c.loop-count.buf _ c.loop-count.o c.loop-count.count-index (rw z at c.loop-count.invariant.leaves);
      apart = λ e. c.loop-count.invariant.apart e (subst (λ (k : ℕ). TablesApart (take a.end a.buf.now) a.counts.now c.loop-count.o c.loop-count.count-index k
          c.loop-count.buf) (sym z) tt);
    }

pub overflow_mul-o : goal.overflow_mul-o
overflow_mul-o c = omega (arith, c.fits-counts c.loop-count.count-index)

pub shape_of-buf : goal.shape_of-buf
shape_of-buf c = c.loop-count.invariant.long

pub shape_of-copy : goal.shape_of-copy
shape_of-copy c = c.loop-count.invariant.copy_long

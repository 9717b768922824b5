-- `serialize::head::write_rows` meets its contract. Assumes nothing.
use Rattle.std.proofs.Common.{◌≡◌, ◌+◌, ◌-◌, ◌*◌, ◌<◌, refl, ◌∙◌, arith}
use Rattle.serialize.proofs.HeadStores.{rows_step, rows_end}
use Rattle.serialize.proofs.PartitionSteps.{table_offsets_step, table_offsets_end}
use Rattle.serialize.proofs.head.write_rows.Goals as goal

pub loop-t-init : goal.loop-t-init
loop-t-init c = record { long = refl; rows = refl; begins = refl; near = omega arith }

pub overflow_add-o : goal.overflow_add-o
overflow_add-o c = omega (arith, c.fits-counts c.loop-t.t)

pub overflow_mul-count : goal.overflow_mul-count
overflow_mul-count c = omega (arith, c.fits-counts c.loop-t.t)

pub overflow_mul-o : goal.overflow_mul-o
overflow_mul-o c = omega (arith, c.fits-counts c.loop-t.t)

pub loop-t-preserved : goal.loop-t-preserved
loop-t-preserved c =
    let less : c.loop-t.t < 256 = omega arith in
    let counts = c.args.counts.now in
    record {
      long = c.store_word-in-loop-t.auto.buf ∙ c.store_word.auto.buf ∙ c.loop-t.invariant.long;
      rows =
          rows_step counts c.loop-t.buf _ c.loop-t.o c.loop-t.t 256 less refl c.offset_or_zero.ensures c.low.ensures c.low-in-loop-t.ensures
          c.store_word.ensures c.store_word-in-loop-t.ensures c.loop-t.invariant.rows;
      begins = table_offsets_step counts c.loop-t.places _ c.loop-t.o c.loop-t.t 256 c.low-in-loop-t-2.result _ less
          c.low-in-loop-t-2.ensures refl c.loop-t.invariant.begins;
      near = omega (arith, c.fits-counts c.loop-t.t, c.loop-t.invariant.near);
    }

pub returns : goal.returns
returns c =
    let counts = c.args.counts.now in
    let z : 256 - c.loop-t.t ≡ 0 = omega (arith, c.loop-t-test.false) in
    record {
      rows = rows_end counts c.loop-t.buf _ c.loop-t.o c.loop-t.t (24 + 8 * c.loop-t.t) (rw z at c.loop-t.invariant.rows);
      begins = table_offsets_end counts c.loop-t.places _ c.loop-t.o c.loop-t.t c.loop-t.t (rw z at c.loop-t.invariant.begins);
    }

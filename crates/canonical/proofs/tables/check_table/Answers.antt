-- `canonical::tables::check_table` meets its contract. Assumes nothing.
use Rattle.std.proofs.Common.{arith, refl, ap, ◌∙◌, ◌+◌, ◌*◌, ◌&&◌}
use Rattle.canonical.specs.Steps.HiddenBuckets.{bit}
use Rattle.canonical.proofs.TableLoops.{Buckets, buckets_start, buckets_next, buckets_end}
use Rattle.canonical.proofs.tables.check_table.Goals.{After-used_bit-used}
use Rattle.canonical.proofs.tables.check_table.Goals as goal

pub loop-k-init : goal.loop-k-init
loop-k-init c = let a = c.args in buckets_start a.image.now a.o (2 * a.c)

-- the buckets up to this one
next : (c : After-used_bit-used) → let a = c.args in
    Buckets a.image.now a.o (2 * a.c) (c.loop-k.k + 1) (c.loop-k.clean && c.clean_bucket-clean.result) (c.loop-k.used + c.used_bit-used.result)
next c =
    let bucket = c.clean_bucket-clean in
    buckets_next c.loop-k.invariant c.loop-k-test.true bucket.result c.used_bit-used.result bucket.ensures
    (c.used_bit-used.ensures ∙ ap (bit 1) c.word.ensures)

pub overflow_add-used : goal.overflow_add-used
overflow_add-used c = let b = next (goal.at.overflow_add-used c).After-used_bit-used in omega (arith, b.counts.few, b.inside)

pub loop-k-preserved : goal.loop-k-preserved
loop-k-preserved c = next (goal.at.loop-k-preserved c).After-used_bit-used

pub returns : goal.returns
returns c = buckets_end c.loop-k.invariant c.args.c (omega arith) refl

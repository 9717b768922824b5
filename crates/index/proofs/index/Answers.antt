-- `index::index` meets its contract. Assumes nothing.
use Rattle.std.proofs.Common.{◌*◌, sym, arith}
use Rattle.std.proofs.lemmas.Result.{err_from_is_err_and}
use Rattle.jhash.proofs.Outcomes.{number_some}
use Rattle.writer.specs.State.{state_with}
use Rattle.index.specs.Index.{slot_count}
use Rattle.index.proofs.Cleared.{cleared}
use Rattle.index.proofs.MakeIndex.{index_refused, index_full, index_made, fillable}
use Rattle.index.proofs.index.Goals as goal

pub returns-in_err-check_close : goal.returns-in_err-check_close
returns-in_err-check_close c =
    let p = err_from_is_err_and c.from_residual.result c.from_residual.ensures.1 in
    rw (p.1, p.2)
    (index_refused (state_with c.args.w.now c.args.counts.now c.args.buf.now) c.args.slots.now c.in_err-check_close.ensures (number_some _))

pub returns-then-m-w : goal.returns-then-m-w
returns-then-m-w c =
    index_full (state_with c.args.w.now c.args.counts.now c.args.buf.now) c.args.slots.now (sym c.in_ok-check_close.ensures) c.if-m-w.true

pub fill-requires-2 : goal.fill-requires-2
fill-requires-2 c =
    let a = c.args in
    let z = cleared a.slots.now (2 * slot_count a.slots.now) (omega arith) (c.fill.ensures.after (λ y e. e)) in
    fillable a.w.now a.counts.now a.buf.now _ (sym c.in_ok-check_close.ensures) (omega (arith, c.if-m-w.false, z.long))
    (λ i below. z.zero i (omega (arith, below, z.long)))

pub returns : goal.returns
returns c =
    let a = c.args in
    let z = cleared a.slots.now (2 * slot_count a.slots.now) (omega arith) (c.fill.ensures.after (λ y e. e)) in
    index_made (state_with a.w.now a.counts.now a.buf.now) a.slots.now (sym c.in_ok-check_close.ensures) _ _ z.long z.kept c.fill-2.ensures
    (omega (arith, c.if-m-w.false))

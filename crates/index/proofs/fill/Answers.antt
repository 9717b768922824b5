-- `index::fill` meets its contract. The loop's invariant: the slots are those of the entries passed. Assumes nothing.
use Rattle.std.proofs.Common.{refl, arith}
use Rattle.jhash.proofs.Outcomes.{result_refused, result_name_hash}
use Rattle.image.proofs.Between.{entry_room}
use Rattle.index.proofs.MakeIndex.{EntryRead, filling_start, not_broken, empty_slot, filling_turn, filling_end}
use Rattle.index.proofs.fill.Goals as goal

pub loop-init : goal.loop-init
loop-init c = filling_start c.requires (omega arith)

pub returns-in_default : goal.returns-in_default
returns-in_default c = absurd (not_broken c.requires c.loop.invariant (omega arith) c.in_default.ensures)

pub name_at-requires : goal.name_at-requires
name_at-requires c =
    let w = c.in-Some.ensures in
    (entry_room c.args.buf.now c.loop.at c.args.end c.in-Some.n c.loop.invariant.inside c.requires.inside w.is (λ z. omega (arith, z, w.some))).name

pub returns-in_default-name_hash : goal.returns-in_default-name_hash
returns-in_default-name_hash c =
    let d = c.in_default-name_hash in
    let long = result_refused c.name_at.result.now 0 c.name_hash.result d.field-0 c.name_hash.ensures d.is in
    absurd (omega (arith, long, c.name_at.ensures.size, c.in-Some.ensures.small))

pub returns-in_default-first_empty_slot : goal.returns-in_default-first_empty_slot
returns-in_default-first_empty_slot c =
    absurd (omega (arith, c.in_default-first_empty_slot.ensures, (empty_slot c.requires c.loop.invariant (omega arith) _ c.in-Ok.h refl).0))

pub loop-preserved : goal.loop-preserved
loop-preserved c =
    let w = c.in-Some.ensures in
    let read : EntryRead c.args.buf.now c.loop.at c.args.end c.in-Some.n c.name_at.result.now c.in-Ok.h =
    record {
      is = w.is;
      named = c.name_at.ensures.is;
      sized = c.name_at.ensures.size;
      hash = (result_name_hash c.name_at.result.now c.name_hash.result c.in-Ok.h c.name_hash.ensures c.in-Ok.is).1;
    } in
    filling_turn c.requires c.loop.invariant (omega arith) read c.in-Some-first_empty_slot.ensures.is (omega arith) c.store_slot.ensures

pub returns : goal.returns
returns c = filling_end c.requires c.loop.invariant (omega arith)

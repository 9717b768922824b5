-- `serialize::tables::insert_pairs` meets its contract. Assumes nothing.
use Rattle.std.proofs.Common.{refl, ◌∙◌, arith}
use Rattle.serialize.proofs.Insertion.{not_met, stopped}
use Rattle.serialize.proofs.TableFill.{filling_start, filling_step, filling_end}
use Rattle.serialize.proofs.tables.insert_pairs.Goals as goal

pub loop-i-init : goal.loop-i-init
loop-i-init c =
    let a = c.args in
    filling_start a.buf.now a.o a.c c.requires.inside _ c.clear_bytes.ensures a.end a.pairs.now

pub insert_pair-one-requires : goal.insert_pair-one-requires
insert_pair-one-requires c =
    let pre = c.requires in
    let long = c.loop-i.invariant.table.long ∙ c.clear_bytes.auto.buf in
    record {
      some = omega (arith, c.loop-i-test.true);
      inside = omega (arith, pre.inside, long);
      front = omega (arith, pre.inside, pre.behind, long);
    }

pub loop-i-preserved : goal.loop-i-preserved
loop-i-preserved c =
    let pre = c.requires in
    filling_step c.loop-i.invariant pre.behind (omega (arith, pre.inside, c.clear_bytes.auto.buf)) c.loop-i-test.true _ _ refl refl
    c.insert_pair-one.auto.buf c.insert_pair-one.ensures

pub returns-then-stop-one : goal.returns-then-stop-one
returns-then-stop-one c =
    record { leaves = stopped c.args.stop c.insert_pair-one.result c.if-stop-one.true; apart = not_met }

pub returns : goal.returns
returns c =
    let a = c.args in
    filling_end a.buf.now a.o a.c c.requires.inside _ c.clear_bytes.ensures c.requires.behind c.loop-i.invariant
    c.loop-i-test.false a.stop

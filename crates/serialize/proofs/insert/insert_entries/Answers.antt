-- `serialize::insert::insert_entries` meets its contract. Assumes nothing.
use Rattle.std.proofs.Common.{◌≡◌, ◌+◌, ◌-◌, ◌≤◌, sym, refl, arith}
use Rattle.serialize.specs.Steps.Insertion.{EntryPre}
use Rattle.serialize.proofs.Insertion.{not_met, stopped, entry_in, inserted_broken, inserted_step, inserted_all}
use Rattle.serialize.proofs.insert.insert_entries.Goals.{In-Some, After-insert_entry-one}
use Rattle.serialize.proofs.insert.insert_entries.Goals as goal

-- the entry that was read lies before the end
entry : (c : In-Some) → let n = c.in-Some.n in
    (c.loop.at + (8 + n) ≤ c.args.end) × EntryPre c.loop.at n c.loop.buf
entry c =
    entry_in c.requires c.loop.buf c.loop.invariant.long c.loop.at c.in-Some.n c.loop.invariant.inside c.in-Some.ensures

pub whole_length-requires : goal.whole_length-requires
whole_length-requires c =
    record { from = c.loop.invariant.inside; inside = omega (arith, c.requires.inside, c.loop.invariant.long) }

pub loop-init : goal.loop-init
loop-init c =
    let e : c.args.entries - 0 ≡ c.args.entries = omega arith in
    record { inside = c.requires.low; long = refl; leaves = rw e refl; unmet = rw e (λ z rest. rest) }

pub returns-in_default : goal.returns-in_default
returns-in_default c = inserted_broken c.loop.invariant (omega arith) (sym c.in_default.ensures) _ refl

pub returns-then-stop-one : goal.returns-then-stop-one
returns-then-stop-one c =
    record { leaves = stopped c.args.stop c.insert_entry-one.result c.if-stop-one.true; unmet = not_met }

pub insert_entry-one-requires : goal.insert_entry-one-requires
insert_entry-one-requires c =
    record {
      entry = (entry (goal.at.insert_entry-one-requires c).In-Some).1;
      front = omega (arith, c.requires.inside, c.loop.invariant.long);
      back_word = c.requires.back_word;
    }

pub loop-preserved : goal.loop-preserved
loop-preserved c =
    let done = c.insert_entry-one in
    let w = c.in-Some.ensures in
    let e : c.args.entries - c.loop.counter - 1 ≡ c.args.entries - (c.loop.counter + 1) = omega arith in
    rw e at
    (inserted_step c.loop.invariant (omega arith) w.is (λ z. omega (arith, w.some))
    (entry (goal.at.loop-preserved c).In-Some).0 done.new.buf done.auto.buf done.ensures)

pub returns : goal.returns
returns c = inserted_all c.loop.invariant _ (omega arith)

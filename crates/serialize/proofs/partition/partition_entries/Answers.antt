-- `serialize::partition::partition_entries` meets its contract. Assumes nothing.
use Rattle.std.proofs.Common.{◌≡◌, ◌+◌, ◌-◌, ◌≤◌, sym, refl, arith}
use Rattle.serialize.specs.Steps.Insertion.{EntryPre}
use Rattle.serialize.proofs.Insertion.{entry_in}
use Rattle.serialize.proofs.PartitionSteps.{partitioned_broken, partitioned_step, partitioned_all}
use Rattle.serialize.proofs.partition.partition_entries.Goals.{In-Some}
use Rattle.serialize.proofs.partition.partition_entries.Goals as goal

-- the entry that was read lies before the end
entry : (c : In-Some) → let n = c.in-Some.n in
    (c.loop.at + (8 + n) ≤ c.args.end) × EntryPre c.loop.at n c.loop.buf
entry c =
    entry_in c.requires c.loop.buf c.loop.invariant.long c.loop.at c.in-Some.n c.loop.invariant.inside c.in-Some.ensures

pub whole_length-requires : goal.whole_length-requires
whole_length-requires c =
    record { from = c.loop.invariant.inside; inside = omega (arith, c.requires.inside, c.loop.invariant.long) }

pub loop-init : goal.loop-init
loop-init c =
    let e : c.args.entries - 0 ≡ c.args.entries = omega arith in
    record { inside = c.requires.low; long = refl; leaves = rw e refl }

pub returns-in_default : goal.returns-in_default
returns-in_default c = partitioned_broken c.loop.invariant (omega arith) (sym c.in_default.ensures) refl

pub entry_hash-h-requires : goal.entry_hash-h-requires
entry_hash-h-requires c = (entry (goal.at.entry_hash-h-requires c).In-Some).1

pub overflow_cast-at : goal.overflow_cast-at
overflow_cast-at c = omega (arith, (entry (goal.at.overflow_cast-at c).In-Some).0, c.requires.end_word)

pub loop-preserved : goal.loop-preserved
loop-preserved c =
    let done = c.partition_entry in
    let w = c.in-Some.ensures in
    let e : c.args.entries - c.loop.counter - 1 ≡ c.args.entries - (c.loop.counter + 1) = omega arith in
    rw e at
    (partitioned_step c.loop.invariant (omega arith) w.is (λ z. omega (arith, w.some))
    (entry (goal.at.loop-preserved c).In-Some).0 done.new.places done.new.buf done.auto.buf c.word_or_zero-id.ensures c.entry_hash-h.ensures
    done.ensures)

pub returns : goal.returns
returns c = partitioned_all c.loop.invariant (omega arith)

-- `batch::deduplicate::find_or_insert` meets its contract. The loop's invariant: the slots hold the names before the i-th, and the rest of the
-- search tells what the whole one tells. Assumes nothing.
use Prim.Native.Nat.{ℕ, ◌-◌, ◌+◌, ◌≤◌, ◌<◌}
use native.Mathlib.Omega.{arith}
use mathlib.Core.Path.{◌≡◌, sym, subst, ◌∙◌}
use lib.ListN.{length, get_or}
use Rattle.image.proofs.NameEnds.{length_names}
use Rattle.batch.specs.declared.names.Round.{Round}
use Rattle.batch.specs.Steps.Slots.{round_slot}
use Rattle.batch.specs.Steps.Duplicates.{round_names}
use Rattle.lookup_laws.proofs.SlotSearch.{Remaining, remaining_start, remaining_step, remaining_end, first_empty_lem, none_matches}
use Rattle.batch.proofs.Duplicates.{equal_to, slot_below, some_empty, found_equal, inserted_here}
use Rattle.batch.proofs.deduplicate.find_or_insert.Goals.{At-loop, Start}
use Rattle.batch.proofs.deduplicate.find_or_insert.Goals as goal

inside : (s : Start) → s.args.i < length (round_names s.args.round.now)
inside s = let r = s.args.round.now in omega (arith, length_names r.names.bytes.now r.names.ends.now, s.requires.inside)

few : (r : Round) → length (round_names r) ≤ 512
few r = omega (arith, length_names r.names.bytes.now r.names.ends.now, r.hashed.few)

-- the number in the slot is that of a name before the i-th
below : (c : At-loop) → get_or c.loop.slots c.loop.k 0 ≤ c.args.i
below c =
    let r = c.args.round.now in
    let here : c.args.i < length (round_names r) = omega (arith, length_names r.names.bytes.now r.names.ends.now, c.requires.inside) in
    slot_below r.hashed.hashed here (few r) c.loop.invariant.holds c.loop.k c.loop.invariant.rest.inside

pub loop-init : goal.loop-init
loop-init c =
    let r = c.args.round.now in
    record {
      holds = c.requires.holds;
      rest =
          subst (Remaining (round_slot r.hashes.now c.args.slots.now) (equal_to (round_names r) c.args.i) (get_or r.hashes.now c.args.i 0) 4096 4096)
          (sym c.start-k.ensures.is)
          (remaining_start (round_slot r.hashes.now c.args.slots.now) (equal_to (round_names r) c.args.i) (get_or r.hashes.now c.args.i 0) 4096
          (omega arith));
    }

pub returns-then-q-eq0 : goal.returns-then-q-eq0
returns-then-q-eq0 c =
    let r = c.args.round.now in
    let rest = c.loop.invariant.rest in
    let more : 0 < 4096 - c.loop.counter = omega arith in
    inserted_here r.hashed.hashed (inside (goal.at.returns-then-q-eq0 c).Start) (few r)
    c.loop.invariant.holds c.loop.k rest.inside (first_empty_lem rest more c.if-q-eq0.true)
    (none_matches rest more c.if-q-eq0.true)

pub overflow_cast-q : goal.overflow_cast-q
overflow_cast-q c = omega (arith, below (goal.at.overflow_cast-q c).At-loop)

pub equal_names-requires : goal.equal_names-requires
equal_names-requires c =
    record { first = omega (arith, below (goal.at.equal_names-requires c).At-loop, c.requires.inside); second = c.requires.inside }

pub returns-then-equal_names : goal.returns-then-equal_names
returns-then-equal_names c =
    let r = c.args.round.now in
    found_equal r.hashed.hashed (inside (goal.at.returns-then-equal_names c).Start) (few r) c.loop.invariant.holds _ (omega (arith, c.if-q-eq0.false))
    (below (goal.at.returns-then-equal_names c).At-loop) (sym c.equal_names.ensures ∙ c.if-equal_names.true)

pub loop-preserved : goal.loop-preserved
loop-preserved c =
    let inv = c.loop.invariant in
    let r = c.args.round.now in
    let more : 0 < 4096 - c.loop.counter = omega arith in
    let left : 4096 - c.loop.counter - 1 ≡ 4096 - (c.loop.counter + 1) = omega arith in
    record {
      holds = inv.holds;
      rest =
          subst (λ (n : ℕ). Remaining (round_slot r.hashes.now c.loop.slots) (equal_to (round_names r) c.args.i) (get_or r.hashes.now c.args.i 0) 4096 n
          c.next-k.result)
          left
          (remaining_step inv.rest more c.if-q-eq0.false (λ e. sym c.equal_names.ensures ∙ c.if-equal_names.false) c.next-k.result c.next-k.ensures.is
          c.next-k.ensures.inside);
    }

pub returns : goal.returns
returns c =
    let r = c.args.round.now in
    absurd (some_empty r.hashed.hashed (inside (goal.at.returns c).Start) (few r) c.loop.invariant.holds
    (remaining_end c.loop.invariant.rest (omega (arith, c.loop-test.false))))

-- `one_to_one::first_failure` meets its contract. The loop's invariant: the entries that are left have the first failure of all. Assumes nothing.
use Rattle.std.proofs.Common.{ℕ, ◌≡◌, ◌+◌, ◌-◌, refl, arith}
use Rattle.canonical.proofs.EntriesAhead.{turn, inside}
use Rattle.one_to_one.proofs.Walking.{Step, walk_starts, walk_ends, other_id, other_name, walk_on}
use Rattle.one_to_one.proofs.first_failure.Goals.{After-finds_id}
use Rattle.one_to_one.proofs.first_failure.Goals as goal

-- the turn, where the entry's name was looked up
step : (c : After-finds_id) → Step c.args.image.now c.loop.at (c.args.n - c.loop.counter)
    c.size_or_zero-len.result c.name_at-name.result.now c.word_or_zero-id.result c.finds_id.result
step c =
    record {
      turn = turn c.loop.invariant (omega arith);
      len_is = c.size_or_zero-len.ensures.is;
      name_read = c.name_at-name.ensures;
      id_read = c.word_or_zero-id.ensures;
      finds_is = c.finds_id.ensures;
    }

pub loop-init : goal.loop-init
loop-init c =
    let e : c.args.n - 0 ≡ c.args.n = omega arith in
    rw e (walk_starts c.args.n (λ (i : ℕ). omega (arith, c.shared_slice_known-1.given i)) c.requires)

pub overflow_add-at : goal.overflow_add-at
overflow_add-at c =
    let t = turn c.loop.invariant (omega arith) in
    omega (arith, (inside t refl).inside, t.short)

pub name_at-name-requires : goal.name_at-name-requires
name_at-name-requires c = inside (turn c.loop.invariant (omega arith)) c.size_or_zero-len.ensures.is

pub overflow_cast-offset : goal.overflow_cast-offset
overflow_cast-offset c =
    let t = turn c.loop.invariant (omega arith) in
    omega (arith, (inside t c.size_or_zero-len.ensures.is).inside, t.short)

pub returns-then-not-finds_id : goal.returns-then-not-finds_id
returns-then-not-finds_id c = other_id (step (goal.at.returns-then-not-finds_id c).After-finds_id) c.if-not-finds_id.true

pub returns-then-not-gives_name : goal.returns-then-not-gives_name
returns-then-not-gives_name c =
    other_name (step (goal.at.returns-then-not-gives_name c).After-finds_id) c.if-not-finds_id.false c.mode_in-mode.ensures
    c.gives_name.ensures c.if-not-gives_name.true

pub overflow_add-at-in-loop-2 : goal.overflow_add-at-in-loop-2
overflow_add-at-in-loop-2 c =
    let t = turn c.loop.invariant (omega arith) in
    omega (arith, (inside t c.size_or_zero-len.ensures.is).inside, t.short)

pub loop-preserved : goal.loop-preserved
loop-preserved c =
    let left = c.args.n - c.loop.counter in
    let e : left - 1 ≡ c.args.n - (c.loop.counter + 1) = omega arith in
    rw e at
    (walk_on (step (goal.at.loop-preserved c).After-finds_id) c.if-not-finds_id.false c.mode_in-mode.ensures
    c.gives_name.ensures c.if-not-gives_name.false)

pub returns : goal.returns
returns c = walk_ends c.loop.invariant (omega arith)

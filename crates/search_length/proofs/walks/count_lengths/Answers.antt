-- `search_length::walks::count_lengths` meets its contract. Assumes nothing.
use Rattle.std.proofs.Common.{arith, ◌≡◌, ◌+◌, ◌-◌, refl, ap, ◌∙◌}
use Rattle.image.specs.Tally.{one_more}
use Rattle.reader.specs.Cases.{reads}
use Rattle.reader.specs.Lookup.{lookup}
use Rattle.canonical.proofs.EntriesAhead.{Turn, turn, ahead_starts, ahead_ends, inside, name_is, ahead_next}
use Rattle.search_length.proofs.Histogram.{buckets_read, counting_starts, counting_next, counting_ends}
use Rattle.search_length.proofs.walks.count_lengths.Invariants.{Adding}
use Rattle.search_length.proofs.walks.count_lengths.Goals.{In-loop}
use Rattle.search_length.proofs.walks.count_lengths.Goals as goal

-- the entry of this turn
this : (c : In-loop) → let a = c.args in
    Turn (Adding a.image.now a.n c.loop.counts (a.n - c.loop.counter) c.loop.sum) a.image.now c.loop.at (a.n - c.loop.counter)
this c = turn c.loop.invariant (omega arith)

pub loop-init : goal.loop-init
loop-init c =
    let e : c.args.n - 0 ≡ c.args.n = omega arith in
    rw e
    (ahead_starts c.args.n (λ i. (c.shared_slice_known-1.given i).fits) c.requires.own
    (counting_starts c.args.image.now c.args.counts.now c.args.n c.requires.zeros))

pub overflow_add-at : goal.overflow_add-at
overflow_add-at c = omega (arith, (inside (this (goal.at.overflow_add-at c).In-loop) refl).inside, c.loop.invariant.short)

pub name_at-requires : goal.name_at-requires
name_at-requires c = inside (this (goal.at.name_at-requires c).In-loop) c.size_or_zero-len.ensures.is

pub overflow_add-at-in-loop-2 : goal.overflow_add-at-in-loop-2
overflow_add-at-in-loop-2 c =
    omega (arith, (inside (this (goal.at.overflow_add-at-in-loop-2 c).In-loop) c.size_or_zero-len.ensures.is).inside, c.loop.invariant.short)

pub loop-preserved : goal.loop-preserved
loop-preserved c =
    let t = this (goal.at.loop-preserved c).In-loop in
    let len = c.size_or_zero-len.ensures.is in
    let e : c.args.n - (c.loop.counter + 1) ≡ c.args.n - c.loop.counter - 1 = omega arith in
    let length = c.to_id-length.result.buckets in
    rw e
    (ahead_next t len
    (counting_next t.holds (omega arith) length _ (omega arith)
    (buckets_read c.to_id-length.result ∙ ap reads (c.to_id-length.ensures ∙ ap (lookup c.args.image.now) (name_is t len c.name_at.ensures)))
    (ap (one_more c.loop.counts) c.bin_of.ensures.is)))

pub returns : goal.returns
returns c = counting_ends (ahead_ends c.loop.invariant (omega arith))

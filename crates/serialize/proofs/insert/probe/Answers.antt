-- `serialize::insert::probe` meets its contract. The loop's invariant: the probe sequence that is left tells what the whole one tells. Assumes nothing.
use Rattle.std.proofs.Common.{◌≡◌, ℕ, ◌+◌, ◌-◌, ◌*◌, ◌≤◌, false, length, take, sym, ◌∙◌, subst, arith, length-take}
use Rattle.lookup_laws.proofs.SlotSearch.{Remaining, remaining_start, remaining_step, first_empty_lem, none_matches}
use Rattle.serialize.specs.Steps.Meeting.{bucket_at, same_names}
use Rattle.serialize.proofs.Insertion.{restarted}
use Rattle.serialize.proofs.insert.probe.Goals.{At-loop, else-word-h-via-then-word-h+else-same_names, else-word-h-via-else-word-h}
use Rattle.serialize.proofs.insert.probe.Goals as goal

-- ---- the needs
pub loop-init : goal.loop-init
loop-init c =
    let a = c.args in
    let b = bucket_at a.buf.now a.o in
    let v = same_names (take a.end a.buf.now) a.at in
    let e : a.n - 0 ≡ a.n = omega arith in
    rw e (subst (Remaining b v a.h a.n a.n) (sym c.start-first.ensures.is) (remaining_start b v a.h a.n c.requires.some))

-- the bucket lies in the buffer
inside : (c : At-loop) → let a = c.args in a.o + 8 * c.loop.k + 8 ≤ length a.buf.now
inside c = omega (arith, c.requires.inside, c.loop.invariant.inside)

pub returns-then-a-eq0 : goal.returns-then-a-eq0
returns-then-a-eq0 c =
    let a = c.args in
    let empty : (bucket_at a.buf.now a.o c.loop.k).at ≡ 0 = sym c.word-a.ensures ∙ c.if-a-eq0.true in
    record {
      first = record { is = first_empty_lem c.loop.invariant (omega arith) empty; inside = c.loop.invariant.inside };
      unmet = λ z. none_matches c.loop.invariant (omega arith) empty;
    }

pub loop-preserved : goal.loop-preserved
loop-preserved c =
    let a = c.args in
    let b = bucket_at a.buf.now a.o in
    let v = same_names (take a.end a.buf.now) a.at in
    let is = c.word-a.ensures in
    let other : (b c.loop.k).hash ≡ a.h → v (b c.loop.k).at ≡ false = λ p.
    elim c.else-word-h.branch [
      | else-word-h-via-then-word-h+else-same_names w ↦ subst (λ (x : ℕ). v x ≡ false) is (w.same_names.ensures w.if-same_names.false)
      | else-word-h-via-else-word-h w ↦ absurd (w.if-word-h.false (c.word.ensures ∙ p))
    ] in
    let full : (b c.loop.k).at ≡ 0 → ⊥ = λ z. c.if-a-eq0.false (is ∙ z) in
    let e : c.args.n - c.loop.counter - 1 ≡ c.args.n - (c.loop.counter + 1) = omega arith in
    rw e at (remaining_step c.loop.invariant (omega arith) full other c.next-k.result c.next-k.ensures.is c.next-k.ensures.inside)

pub returns : goal.returns
returns c =
    let a = c.args in
    restarted a.buf.now a.end a.o a.n a.h a.at _ _ c.start-first.ensures c.first_empty.ensures

pub overflow_mul-k : goal.overflow_mul-k
overflow_mul-k c = omega (arith, inside (goal.at.overflow_mul-k c).At-loop)

pub overflow_add-o : goal.overflow_add-o
overflow_add-o c = omega (arith, inside (goal.at.overflow_add-o c).At-loop)

pub overflow_add-o-in-loop : goal.overflow_add-o-in-loop
overflow_add-o-in-loop c = omega (arith, inside (goal.at.overflow_add-o-in-loop c).At-loop)

pub word-a-requires : goal.word-a-requires
word-a-requires c = omega (arith, inside (goal.at.word-a-requires c).At-loop)

pub overflow_mul-k-in-loop : goal.overflow_mul-k-in-loop
overflow_mul-k-in-loop c = omega (arith, inside (goal.at.overflow_mul-k-in-loop c).At-loop)

pub overflow_add-o-in-loop-2 : goal.overflow_add-o-in-loop-2
overflow_add-o-in-loop-2 c = omega (arith, inside (goal.at.overflow_add-o-in-loop-2 c).At-loop)

pub word-requires : goal.word-requires
word-requires c = omega (arith, inside (goal.at.word-requires c).At-loop)

pub slice_bounds-same_names-end : goal.slice_bounds-same_names-end
slice_bounds-same_names-end c = simp length-take (omega (arith, c.requires.front))

pub next-k-requires : goal.next-k-requires
next-k-requires c = c.loop.invariant.inside

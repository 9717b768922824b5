-- `serialize::insert::first_without_equal` meets its contract. The loop's invariant: the probe sequence that is left tells what the whole one tells,
-- whatever the names. Assumes nothing.
use Rattle.std.proofs.Common.{◌≡◌, ◌+◌, ◌-◌, ◌*◌, ◌≤◌, true, length, sym, ◌∙◌, subst, arith}
use Rattle.lookup_laws.proofs.SlotSearch.{Remaining, remaining_start, remaining_step, first_empty_lem, none_matches}
use Rattle.serialize.specs.Steps.Meeting.{bucket_at}
use Rattle.serialize.proofs.insert.first_without_equal.Goals.{At-loop}
use Rattle.serialize.proofs.insert.first_without_equal.Goals as goal

pub loop-init : goal.loop-init
loop-init c = λ named.
    let a = c.args in
    let b = bucket_at a.buf.now a.o in
    let e : a.n - 0 ≡ a.n = omega arith in
    rw e (subst (Remaining b named a.h a.n a.n) (sym c.start-k.ensures.is) (remaining_start b named a.h a.n c.requires.some))

-- the bucket lies in the buffer
inside : (c : At-loop) → let a = c.args in a.o + 8 * c.loop.k + 8 ≤ length a.buf.now
inside c = omega (arith, c.requires.inside, (c.loop.invariant (λ x. true)).inside)

pub returns-then-word-eq0 : goal.returns-then-word-eq0
returns-then-word-eq0 c = λ end at.
    let empty = sym c.word.ensures ∙ c.if-word-eq0.true in
    record {
      first = record {
        is = first_empty_lem (c.loop.invariant (λ x. true)) (omega arith) empty;
        inside =
            (c.loop.invariant (λ x. true)).inside;
      };
      unmet = λ z. none_matches (c.loop.invariant _) (omega arith) empty;
    }

pub loop-preserved : goal.loop-preserved
loop-preserved c = λ named.
    let e : c.args.n - c.loop.counter - 1 ≡ c.args.n - (c.loop.counter + 1) = omega arith in
    rw e at
    (remaining_step (c.loop.invariant named) (omega arith) (λ z. c.if-word-eq0.false (c.word.ensures ∙ z))
    (λ p. absurd (c.if-word-h.false (c.word-in-loop.ensures ∙ p))) c.next-k.result c.next-k.ensures.is c.next-k.ensures.inside)

pub overflow_mul-k : goal.overflow_mul-k
overflow_mul-k c = omega (arith, inside (goal.at.overflow_mul-k c).At-loop)

pub overflow_add-o : goal.overflow_add-o
overflow_add-o c = omega (arith, inside (goal.at.overflow_add-o c).At-loop)

pub overflow_add-o-in-loop : goal.overflow_add-o-in-loop
overflow_add-o-in-loop c = omega (arith, inside (goal.at.overflow_add-o-in-loop c).At-loop)

pub word-requires : goal.word-requires
word-requires c = omega (arith, inside (goal.at.word-requires c).At-loop)

pub overflow_mul-k-in-loop : goal.overflow_mul-k-in-loop
overflow_mul-k-in-loop c = omega (arith, inside (goal.at.overflow_mul-k-in-loop c).At-loop)

pub overflow_add-o-in-loop-2 : goal.overflow_add-o-in-loop-2
overflow_add-o-in-loop-2 c = omega (arith, inside (goal.at.overflow_add-o-in-loop-2 c).At-loop)

pub word-requires-in-loop : goal.word-requires-in-loop
word-requires-in-loop c = omega (arith, inside (goal.at.word-requires-in-loop c).At-loop)

pub next-k-requires : goal.next-k-requires
next-k-requires c = (c.loop.invariant (λ x. true)).inside

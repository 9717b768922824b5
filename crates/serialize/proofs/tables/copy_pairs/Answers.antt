-- `serialize::tables::copy_pairs` meets its contract. Assumes nothing.
use Rattle.std.proofs.Common.{◌≡◌, ◌+◌, ◌*◌, ◌≤◌, length, set, refl, ◌∙◌, subst, arith, length-set}
use Rattle.serialize.specs.Steps.Partition.{PairsCopied}
use Rattle.serialize.proofs.TableFill.{copy_step}
use Rattle.serialize.proofs.tables.copy_pairs.Goals.{At-loop-i}
use Rattle.serialize.proofs.tables.copy_pairs.Goals as goal

pub loop-i-init : goal.loop-i-init
loop-i-init c = record { long = refl; copied = record { first = λ i h. absurd (omega arith); second = λ i h. absurd (omega arith) } }

-- the pair stands in the buffer, and the copy has room for it
inside : (c : At-loop-i) → c.loop-i.i + 1 ≤ c.args.c → c.args.o + 8 * c.loop-i.i + 8 ≤ length c.args.buf.now
inside c h = omega (arith, c.requires.inside)

room : (c : At-loop-i) → c.loop-i.i + 1 ≤ c.args.c → 2 * (c.loop-i.i + 1) ≤ length c.loop-i.copy
room c h = omega (arith, c.requires.copy_long, c.loop-i.invariant.long)

pub loop-i-preserved : goal.loop-i-preserved
loop-i-preserved c =
    let less = c.loop-i-test.true in
    let x = set c.loop-i.copy (2 * c.loop-i.i) c.word.result in
    record {
      long = length-set x (2 * c.loop-i.i + 1) c.word-in-loop-i.result ∙ length-set c.loop-i.copy (2 * c.loop-i.i) c.word.result ∙ c.loop-i.invariant.long;
      copied = copy_step c.loop-i.invariant.copied (room (goal.at.loop-i-preserved c).At-loop-i (omega (arith, less))) c.word.ensures
          c.word-in-loop-i.ensures;
    }

pub returns : goal.returns
returns c =
    let all : c.loop-i.i ≡ c.args.c = omega (arith, c.loop-i-test.false) in
    subst (PairsCopied c.loop-i.copy c.args.buf.now c.args.o) all c.loop-i.invariant.copied

pub overflow_mul-i : goal.overflow_mul-i
overflow_mul-i c = omega (arith, inside (goal.at.overflow_mul-i c).At-loop-i (omega (arith, c.loop-i-test.true)))

pub overflow_add-o : goal.overflow_add-o
overflow_add-o c = omega (arith, inside (goal.at.overflow_add-o c).At-loop-i (omega (arith, c.loop-i-test.true)))

pub word-requires : goal.word-requires
word-requires c = omega (arith, inside (goal.at.word-requires c).At-loop-i (omega (arith, c.loop-i-test.true)))

pub overflow_mul-copy : goal.overflow_mul-copy
overflow_mul-copy c = omega (arith, inside (goal.at.overflow_mul-copy c).At-loop-i (omega (arith, c.loop-i-test.true)))

pub bounds-copy-i : goal.bounds-copy-i
bounds-copy-i c = omega (arith, room (goal.at.bounds-copy-i c).At-loop-i (omega (arith, c.loop-i-test.true)))

pub overflow_mul-i-in-loop-i : goal.overflow_mul-i-in-loop-i
overflow_mul-i-in-loop-i c = omega (arith, inside (goal.at.overflow_mul-i-in-loop-i c).At-loop-i (omega (arith, c.loop-i-test.true)))

pub overflow_add-o-in-loop-i : goal.overflow_add-o-in-loop-i
overflow_add-o-in-loop-i c = omega (arith, inside (goal.at.overflow_add-o-in-loop-i c).At-loop-i (omega (arith, c.loop-i-test.true)))

pub overflow_add-o-in-loop-i-2 : goal.overflow_add-o-in-loop-i-2
overflow_add-o-in-loop-i-2 c = omega (arith, inside (goal.at.overflow_add-o-in-loop-i-2 c).At-loop-i (omega (arith, c.loop-i-test.true)))

pub word-requires-in-loop-i : goal.word-requires-in-loop-i
word-requires-in-loop-i c = omega (arith, inside (goal.at.word-requires-in-loop-i c).At-loop-i (omega (arith, c.loop-i-test.true)))

pub overflow_mul-copy-in-loop-i : goal.overflow_mul-copy-in-loop-i
overflow_mul-copy-in-loop-i c = omega (arith, inside (goal.at.overflow_mul-copy-in-loop-i c).At-loop-i (omega (arith, c.loop-i-test.true)))

pub overflow_add-copy : goal.overflow_add-copy
overflow_add-copy c = omega (arith, inside (goal.at.overflow_add-copy c).At-loop-i (omega (arith, c.loop-i-test.true)))

pub bounds-copy-i-in-loop-i : goal.bounds-copy-i-in-loop-i
bounds-copy-i-in-loop-i c = omega (
  arith,
  room (goal.at.bounds-copy-i-in-loop-i c).At-loop-i (omega (arith, c.loop-i-test.true)),
  length-set
      c.loop-i.copy (2 * c.loop-i.i) c.word.result,
)

pub shape_of-copy : goal.shape_of-copy
shape_of-copy c = c.loop-i.invariant.long

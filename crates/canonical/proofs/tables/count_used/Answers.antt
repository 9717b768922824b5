-- `canonical::tables::count_used` meets its contract. Assumes nothing.
use Rattle.std.proofs.Common.{arith, ap, ◌∙◌, ◌+◌}
use Rattle.canonical.specs.Steps.HiddenBuckets.{bit}
use Rattle.canonical.specs.Steps.InPlace.{back_word_at}
use Rattle.canonical.proofs.TableLoops.{Used, used_start, used_next, used_end}
use Rattle.canonical.proofs.tables.count_used.Goals.{After-used_bit-used}
use Rattle.canonical.proofs.tables.count_used.Goals as goal

pub loop-k-init : goal.loop-k-init
loop-k-init c = used_start _

-- the back words up to this one
next : (c : After-used_bit-used) → let a = c.args in Used (back_word_at a.image.now a.o) (c.loop-k.k + 1) (c.loop-k.used + c.used_bit-used.result)
next c = used_next c.loop-k.invariant c.used_bit-used.result (c.used_bit-used.ensures ∙ ap (bit 1) c.word_or_zero.ensures)

pub overflow_add-used : goal.overflow_add-used
overflow_add-used c = let u = next (goal.at.overflow_add-used c).After-used_bit-used in omega (arith, u.few)

pub loop-k-preserved : goal.loop-k-preserved
loop-k-preserved c = next (goal.at.loop-k-preserved c).After-used_bit-used

pub returns : goal.returns
returns c = used_end c.loop-k.invariant (omega arith)

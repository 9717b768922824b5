-- `build::singly::scratch_for_index` meets its contract. Assumes nothing.
use native.Mathlib.Omega.{arith}
use Rattle.build.proofs.singly.scratch_for_index.Goals as goal

pub returns-then-words-n : goal.returns-then-words-n
returns-then-words-n c = record { within = omega arith; enough = λ some. absurd (omega arith) }

pub returns-then-words-n-2 : goal.returns-then-words-n-2
returns-then-words-n-2 c = record { within = omega arith; enough = λ some. omega (arith, c.if-words-n.false) }

pub returns-in-On : goal.returns-in-On
returns-in-On c = record { within = omega arith; enough = λ some. absurd (omega arith) }

pub returns-else-words-n-2 : goal.returns-else-words-n-2
returns-else-words-n-2 c = record { within = omega (arith, c.if-words-n-2.false); enough = λ some. omega arith }

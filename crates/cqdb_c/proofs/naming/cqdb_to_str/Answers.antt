-- `cqdb_c::naming::cqdb_to_str` meets its contract: the reader's answer, put into the struct; the length fits its 32
-- bits. Assumes nothing.
use Prim.Native.Nat.{ℕ}
use native.Mathlib.Omega.{arith}
use mathlib.Core.Path.{ap, ◌∙◌}
use Rattle.cqdb_c.specs.ReadAnswers.{place_answer_of}
use Rattle.reader.proofs.Lengths.{naming_small}
use Rattle.cqdb_c.proofs.naming.cqdb_to_str.Goals as goal

pub place_answer-requires : goal.place_answer-requires
place_answer-requires c =
    let a = c.args in
    rw c.to_str.ensures (naming_small a.image.now a.id (λ (i : ℕ). omega (arith, c.type_inv.image i)))

pub returns : goal.returns
returns c = c.place_answer.ensures ∙ ap place_answer_of c.to_str.ensures

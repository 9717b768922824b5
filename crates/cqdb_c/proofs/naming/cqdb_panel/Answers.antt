-- `cqdb_c::naming::cqdb_panel` meets its contract: the reader's answer, put into the struct; the length fits its 32
-- bits. Assumes nothing.
use Prim.Native.Nat.{ℕ}
use native.Mathlib.Omega.{arith}
use mathlib.Core.Path.{ap, ◌∙◌}
use Rattle.cqdb_c.specs.ReadAnswers.{place_answer_of}
use Rattle.cqdb_c.proofs.ShortPlaces.{panel_small}
use Rattle.cqdb_c.proofs.naming.cqdb_panel.Goals as goal

pub place_answer-requires : goal.place_answer-requires
place_answer-requires c =
    let a = c.args in
    rw c.panel_place.ensures (panel_small a.image.now a.id (λ (i : ℕ). omega (arith, c.type_inv.image i)))

pub returns : goal.returns
returns c = c.place_answer.ensures ∙ ap place_answer_of c.panel_place.ensures

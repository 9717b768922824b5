-- `CQDBWriter::put` meets its contract: the decision, then the effect. Assumes nothing.
use mathlib.Core.Path.{sym, ◌∙◌}
use Rattle.jhash.proofs.Outcomes.{number_some}
use Rattle.writer.specs.State.{state_with}
use Rattle.writer.specs.Put.{entry_of}
use Rattle.writer.proofs.Puts.{refused_leaves, accepted_leaves}
use Rattle.writer.proofs.CQDBWriter.put.Goals as goal

pub returns-in_err-check_put-clause-leaves : goal.returns-in_err-check_put-clause-leaves
returns-in_err-check_put-clause-leaves c =
    let a = c.args in
    refused_leaves (state_with a.self.now a.counts.now a.buf.now) (entry_of a.name.now a.id) _ c.in_err-check_put.ensures (number_some _)

pub returns-clause-leaves : goal.returns-clause-leaves
returns-clause-leaves c =
    let a = c.args in
    c.hash_and_append.ensures
    ∙ accepted_leaves (state_with a.self.now a.counts.now a.buf.now) (entry_of a.name.now a.id) (sym c.in_ok-check_put.ensures)

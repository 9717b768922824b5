-- `catalogue::Intake::end_line` meets its contract. Assumes nothing.
use Rattle.std.proofs.Common.{ap, ◌∙◌, ◌≡◌, List, ℕ}
use Rattle.writer.specs.State.{state_with}
use Rattle.writer.specs.declared.CQDBWriter.{CQDBWriter}
use Rattle.catalogue.specs.declared.Intake.{Intake}
use Rattle.catalogue.specs.Steps.Pieces.{Gathering}
use Rattle.catalogue.proofs.PieceBytes.{ended_put, ended_dropped}
use Rattle.catalogue.proofs.Intake.end_line.Goals.{then-have-room, else-have-room}
use Rattle.catalogue.proofs.Intake.end_line.Goals as goal

-- what is kept with no line at hand, by its parts
kept : (room : List ℕ) (t u : Intake) (counts counts' buffer buffer' : List ℕ) → t ≡ u → counts ≡ counts' → buffer ≡ buffer'
    → ◌≡◌ {A = Gathering} (record { state = state_with t.writer counts buffer; room = room; have = 0 })
    (record { state = state_with u.writer counts' buffer'; room = room; have = 0 })
kept room t u counts counts' buffer buffer' e f g = λ i. record { state = state_with (e i).writer (f i) (g i); room = room; have = 0 }

pub returns : goal.returns
returns c =
    let a = c.args in
    let s = state_with a.self.now.writer a.counts.now a.buf.now in
    elim c.if-have-room.branch [
      | then-have-room w ↦
          kept a.room.now _ _ _ _ _ _ w.self-is w.counts-is w.buf-is
          ∙ ended_put s a.room.now a.self.now.have _ w.if-have-room.true w.put_line.ensures
      | else-have-room w ↦
          kept a.room.now _ _ _ _ _ _ w.self-is w.counts-is w.buf-is
          ∙ ended_dropped s a.room.now a.self.now.have w.if-have-room.false
    ]

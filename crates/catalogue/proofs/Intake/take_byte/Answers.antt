-- `catalogue::Intake::take_byte` meets its contract. Assumes nothing.
use Rattle.std.proofs.Common.{ap, ◌∙◌}
use Rattle.writer.specs.State.{state_with}
use Rattle.writer.specs.declared.CQDBWriter.{CQDBWriter}
use Rattle.catalogue.specs.Steps.Pieces.{Gathering}
use Rattle.catalogue.proofs.PieceBytes.{byte_feed, byte_more}
use Rattle.catalogue.proofs.Intake.take_byte.Goals as goal

pub returns-then-b-eq10 : goal.returns-then-b-eq10
returns-then-b-eq10 c =
    let a = c.args in
    byte_feed (state_with a.self.now.writer a.counts.now a.buf.now) a.room.now a.self.now.have a.b _ c.if-b-eq10.true c.end_line.ensures

pub returns-else-b-eq10 : goal.returns-else-b-eq10
returns-else-b-eq10 c =
    let a = c.args in
    let t = c.gather.ensures in
    ap {B = Gathering}
    (λ (w : CQDBWriter). record { state = state_with w a.counts.now a.buf.now; room = c.gather.new.room; have = c.gather.new.self.have }) t.written
    ∙ byte_more (state_with a.self.now.writer a.counts.now a.buf.now) a.room.now a.self.now.have a.b _ _ c.if-b-eq10.false t.counted t.stored

-- `catalogue::pieces::put_line` meets its contract. Assumes nothing.
use Rattle.std.proofs.Common.{sym}
use Rattle.writer.specs.State.{state_with}
use Rattle.catalogue.proofs.Skipped.{after_other}
use Rattle.catalogue.proofs.PieceBytes.{put_parsed}
use Rattle.catalogue.proofs.pieces.put_line.Goals as goal

pub returns-in-Some : goal.returns-in-Some
returns-in-Some c =
    let a = c.args in
    put_parsed (state_with a.w.now a.counts.now a.buf.now) _ _ _ _ c.in-Some.ensures c.put.ensures.leaves

pub returns-in_default : goal.returns-in_default
returns-in_default c = let a = c.args in sym (after_other (state_with a.w.now a.counts.now a.buf.now) _ c.in_default.ensures)

-- `catalogue::Intake::take_piece` meets its contract. Assumes nothing.
use Rattle.std.proofs.Common.{refl, sym, ap, ◌∙◌, ◌+◌, drop}
use Rattle.catalogue.specs.Steps.Pieces.{Gathering, gathering, take_piece}
use Rattle.catalogue.proofs.PieceBytes.{piece_turn, piece_end}
use Rattle.catalogue.proofs.Intake.take_piece.Goals as goal

pub loop-b-init : goal.loop-b-init
loop-b-init c = refl

pub loop-b-preserved : goal.loop-b-preserved
loop-b-preserved c =
    let piece = c.args.piece.now in
    let l = c.loop-b in
    ap (λ (g : Gathering). take_piece g (drop (l.b-index + 1) piece)) c.take_byte.ensures
    ∙ sym (piece_turn (gathering l.self l.counts l.buf l.room) piece l.b-index c.loop-b-test.true)
    ∙ l.invariant

pub returns : goal.returns
returns c =
    let l = c.loop-b in
    sym (piece_end (gathering l.self l.counts l.buf l.room) c.args.piece.now l.b-index c.loop-b-test.false) ∙ l.invariant

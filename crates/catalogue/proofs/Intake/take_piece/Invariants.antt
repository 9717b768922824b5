-- What is still to be taken makes of what was taken what the whole piece leaves.
use Rattle.std.proofs.Common.{◌≡◌, drop}
use Rattle.catalogue.specs.Steps.Pieces.{gathering, take_piece}
use Rattle.catalogue.proofs.Intake.take_piece.Given as goal

abbrev pub invariant-loop-b : goal.invariant-loop-b
invariant-loop-b l =
    take_piece (gathering l.self l.counts l.buf l.room) (drop l.b-index l.piece)
    ≡ take_piece (gathering l.fn.self l.fn.counts l.fn.buf l.fn.room) l.piece

-- `catalogue::put_input` meets its contract: what the loop has is what the pieces read so far leave. Assumes nothing.
use Rattle.std.proofs.Common.{refl, arith, take}
use Rattle.writer.specs.State.{state_with}
use Rattle.catalogue.specs.Steps.Pieces.{gathering}
use Rattle.catalogue.proofs.InputRead.{none_taken, more_taken, taken_left, taken_whole}
use Rattle.catalogue.proofs.put_input.Goals as goal

pub loop-init : goal.loop-init
loop-init g c = record { taken = none_taken _ _; buf_length = refl; room_length = refl; piece_length = refl }

pub loop-preserved : goal.loop-preserved
loop-preserved g c =
    let was = c.loop.invariant in
    let turn = c.take_piece.auto in
    let read = c.read.auto.buf in
    let buf = was.buf_length in
    let room = was.room_length in
    let piece = was.piece_length in
    record {
      taken =
          more_taken (g.R.Read.remaining c.args.input.now) (g.R.Read.remaining c.loop.input) (g.R.Read.remaining c.read.new.self)
          (gathering (record { writer = c.args.w; have = 0 }) c.args.counts.now c.args.buf.now c.args.room.now)
          (gathering c.loop.t c.loop.counts c.loop.buf c.loop.room)
          (gathering c.take_piece.new.self c.take_piece.new.counts c.take_piece.new.buf c.take_piece.new.room)
          (take c.in-Ok.n c.read.new.buf) was.taken c.take_piece.ensures c.in-Ok.ensures.bytes.0;
      buf_length = omega (arith, turn.buf, buf);
      room_length = omega (arith, turn.room, room);
      piece_length = omega (arith, read, piece);
    }

pub returns-in-Ok-eq0-clause-left : goal.returns-in-Ok-eq0-clause-left
returns-in-Ok-eq0-clause-left g c = taken_left _ _ _ _ c.args.room.now _ c.loop.invariant.taken c.end_input.ensures

pub returns-in-Ok-eq0-clause-whole : goal.returns-in-Ok-eq0-clause-whole
returns-in-Ok-eq0-clause-whole g c =
    λ enough some_room.
    let kept = c.loop.invariant.piece_length in
    let read = c.read.auto.buf in
    taken_whole (g.R.Read.remaining c.args.input.now) (g.R.Read.remaining c.loop.input) (g.R.Read.remaining c.read.new.self)
    (state_with c.args.w c.args.counts.now c.args.buf.now) (state_with c.end_input.result c.end_input.new.counts c.end_input.new.buf)
    c.args.room.now (gathering c.loop.t c.loop.counts c.loop.buf c.loop.room)
    c.in-Ok-eq0.field-0 c.read.new.buf c.loop.invariant.taken c.end_input.ensures enough c.in-Ok-eq0.field-0-test
    c.in-Ok-eq0.ensures.bytes.0 (c.in-Ok-eq0.ensures.bytes.1 c.in-Ok-eq0.field-0-test (omega arith))

pub returns-in-Err-clause-left : goal.returns-in-Err-clause-left
returns-in-Err-clause-left g c = taken_left _ _ _ _ c.args.room.now _ c.loop.invariant.taken c.end_input-in-Err.ensures

pub returns-clause-left : goal.returns-clause-left
returns-clause-left g c = taken_left _ _ _ _ c.args.room.now _ c.loop.invariant.taken c.end_input-2.ensures

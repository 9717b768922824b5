-- `writer::begin` meets its contract. Assumes nothing.
use borrow.Author.Tests.{lt-ltb, le-ltb}
use lib.ListN.{length}
use mathlib.Core.Path.{refl, ap}
use Rattle.jhash.specs.Outcome.{value}
use Rattle.writer.specs.State.{beginning, counts_begun}
use Rattle.writer.proofs.begin.Goals as goal

pub returns-then-buf-lt-HEAD_SIZE : goal.returns-then-buf-lt-HEAD_SIZE
unfolding beginning counts_begun
returns-then-buf-lt-HEAD_SIZE c = rw (lt-ltb (length c.args.buf.now) 2072 c.if-buf-lt-HEAD_SIZE.true) (record { answer = refl; counts = refl })

pub returns : goal.returns
unfolding beginning counts_begun
returns c =
    rw (le-ltb (length c.args.buf.now) 2072 c.if-buf-lt-HEAD_SIZE.false) (record { answer = ap value c.fresh_writer.ensures; counts = refl })

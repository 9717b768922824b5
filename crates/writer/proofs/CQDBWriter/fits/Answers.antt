-- `CQDBWriter::fits` meets its contract. Assumes nothing.
use mathlib.Core.Path.{sym, ◌∙◌}
use Rattle.writer.specs.State.{fits}
use Rattle.writer.proofs.CQDBWriter.fits.Goals as goal

pub returns-then-in_buffer : goal.returns-then-in_buffer
unfolding fits
returns-then-in_buffer c = rw (sym c.in_buffer.ensures ∙ c.if-in_buffer.true) c.none_above.ensures

pub returns-else-in_buffer : goal.returns-else-in_buffer
unfolding fits
returns-else-in_buffer c = rw (sym c.in_buffer.ensures ∙ c.if-in_buffer.false) c.if-in_buffer.false

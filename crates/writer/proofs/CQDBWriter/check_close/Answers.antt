-- `CQDBWriter::check_close` meets its contract. Assumes nothing.
use native.Mathlib.Omega.{arith}
use mathlib.Core.Path.{◌≡◌, sym, ap, ◌∙◌}
use mathlib.Core.Bool.{true}
use Rattle.writer.specs.State.{state_with, fits, too_large, finished_size}
use Rattle.writer.proofs.Fits.{fitting, end_inside}
use Rattle.writer.proofs.Closes.{due_unfit, due_big, due_rest}
use Rattle.writer.proofs.CQDBWriter.check_close.Goals.{After-too_large, Else-not-fits}
use Rattle.writer.proofs.CQDBWriter.check_close.Goals as goal

fitted : (c : Else-not-fits) → fits (state_with c.args.self.now c.args.counts.now c.args.buf.now) ≡ true
fitted c = sym c.fits.ensures ∙ c.if-not-fits.false

-- the size, as the second check reads it
sized : (c : After-too_large) → let w = c.args.self.now in too_large w.length (finished_size w) ≡ c.too_large.result
sized c = ap (too_large c.args.self.now.length) (sym c.finished_size-size.ensures) ∙ sym c.too_large.ensures

pub finished_size-size-requires : goal.finished_size-size-requires
finished_size-size-requires c =
    let a = c.args in
    omega (arith, fitting a.self.now a.counts.now a.buf.now (fitted (goal.at.finished_size-size-requires c).Else-not-fits), c.well_formed)

pub check_consistent-requires : goal.check_consistent-requires
check_consistent-requires c =
    let a = c.args in
    end_inside (fitting a.self.now a.counts.now a.buf.now (fitted (goal.at.check_consistent-requires c).Else-not-fits))

pub returns : goal.returns
returns c =
    due_rest (state_with c.args.self.now c.args.counts.now c.args.buf.now) (fitted (goal.at.returns c).Else-not-fits)
    (sized (goal.at.returns c).After-too_large ∙ c.if-too_large.false) _ c.check_consistent.ensures

pub returns-then-not-fits : goal.returns-then-not-fits
returns-then-not-fits c = due_unfit (state_with c.args.self.now c.args.counts.now c.args.buf.now) (sym c.fits.ensures ∙ c.if-not-fits.true)

pub returns-then-too_large : goal.returns-then-too_large
returns-then-too_large c = due_big (state_with c.args.self.now c.args.counts.now c.args.buf.now) (fitted (goal.at.returns-then-too_large c).Else-not-fits)
    (sized (goal.at.returns-then-too_large c).After-too_large ∙ c.if-too_large.true)

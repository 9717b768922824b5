-- `CQDBWriter::check_put` meets its contract. Assumes nothing.
use native.Mathlib.Omega.{arith}
use mathlib.Core.Path.{◌≡◌, sym, ap, ◌∙◌}
use mathlib.Core.Bool.{true, false}
use lib.ListN.{length}
use Rattle.image.specs.Zero.{has_zero}
use Rattle.writer.specs.State.{state_with, fits, finished_size, too_large}
use Rattle.writer.specs.Put.{entry_of, writer_after_put, writer_after_entry}
use Rattle.writer.specs.Steps.Earlier.{earlier_refusal}
use Rattle.std.proofs.lemmas.Result.{err_from_is_err_and}
use Rattle.jhash.proofs.Outcomes.{number_some}
use Rattle.writer.proofs.Fits.{fitting, end_inside}
use Rattle.writer.proofs.Puts.{refuses_unfit, refuses_zero, refuses_earlier, refuses_full, accepts, long_name}
use Rattle.writer.proofs.CQDBWriter.check_put.Goals.{After-too_large, In_ok-check_earlier, Else-has_zero, Else-not-fits}
use Rattle.writer.proofs.CQDBWriter.check_put.Goals as goal

fitted : (c : Else-not-fits) → fits (state_with c.args.self.now c.args.counts.now c.args.buf.now) ≡ true
fitted c = sym c.fits.ensures ∙ c.if-not-fits.false

zero_free : (c : Else-has_zero) → has_zero c.args.name.now ≡ false
zero_free c = sym c.has_zero.ensures ∙ c.if-has_zero.false

none_due : (c : In_ok-check_earlier) → earlier_refusal (state_with c.args.self.now c.args.counts.now c.args.buf.now) c.args.name.now ≡ 0
none_due c = sym c.in_ok-check_earlier.ensures

pub returns-then-not-fits : goal.returns-then-not-fits
returns-then-not-fits c = refuses_unfit (state_with c.args.self.now c.args.counts.now c.args.buf.now) (entry_of c.args.name.now c.args.id)
    (sym c.fits.ensures ∙ c.if-not-fits.true)

pub returns-then-has_zero : goal.returns-then-has_zero
returns-then-has_zero c =
    refuses_zero (state_with c.args.self.now c.args.counts.now c.args.buf.now) (entry_of c.args.name.now c.args.id)
    (fitted (goal.at.returns-then-has_zero c).Else-not-fits) (sym c.has_zero.ensures ∙ c.if-has_zero.true)

pub check_earlier-requires : goal.check_earlier-requires
check_earlier-requires c =
    let a = c.args in
    end_inside (fitting a.self.now a.counts.now a.buf.now (fitted (goal.at.check_earlier-requires c).Else-not-fits))

pub returns-in_err-check_earlier : goal.returns-in_err-check_earlier
returns-in_err-check_earlier c =
    let p = err_from_is_err_and c.from_residual.result c.from_residual.ensures.1 in
    rw (p.1, p.2)
    (refuses_earlier (state_with c.args.self.now c.args.counts.now c.args.buf.now) (entry_of c.args.name.now c.args.id)
    (fitted (goal.at.returns-in_err-check_earlier c).Else-not-fits) (zero_free (goal.at.returns-in_err-check_earlier c).Else-has_zero)
    _ c.in_err-check_earlier.ensures (number_some _))

pub returns-then-name-ge4294967295 : goal.returns-then-name-ge4294967295
returns-then-name-ge4294967295 c =
    let a = c.args in
    refuses_full (state_with c.args.self.now c.args.counts.now c.args.buf.now) (entry_of c.args.name.now c.args.id)
    (fitted (goal.at.returns-then-name-ge4294967295 c).Else-not-fits) (zero_free (goal.at.returns-then-name-ge4294967295 c).Else-has_zero)
    (none_due (goal.at.returns-then-name-ge4294967295 c).In_ok-check_earlier) (long_name a.self.now a.name.now a.id c.if-name-ge4294967295.true)

pub size_with-requires : goal.size_with-requires
size_with-requires c =
    let a = c.args in
    record {
      low = omega (arith, c.well_formed, fitting a.self.now a.counts.now a.buf.now (fitted (goal.at.size_with-requires c).Else-not-fits));
      short =
          c.if-name-ge4294967295.false;
    }

-- the size after this put, as the last check reads it
sized : (c : After-too_large) → let a = c.args in
    too_large a.self.now.length (finished_size (writer_after_put a.self.now (length a.name.now) a.id)) ≡ c.too_large.result
sized c =
    ap (too_large c.args.self.now.length) (sym c.size_with.ensures) ∙ sym c.too_large.ensures

pub returns-then-too_large : goal.returns-then-too_large
unfolding writer_after_entry
returns-then-too_large c =
    refuses_full (state_with c.args.self.now c.args.counts.now c.args.buf.now) (entry_of c.args.name.now c.args.id)
    (fitted (goal.at.returns-then-too_large c).Else-not-fits) (zero_free (goal.at.returns-then-too_large c).Else-has_zero)
    (none_due (goal.at.returns-then-too_large c).In_ok-check_earlier)
    (sized (goal.at.returns-then-too_large c).After-too_large ∙ c.if-too_large.true)

pub returns : goal.returns
unfolding writer_after_entry
returns c =
    accepts (state_with c.args.self.now c.args.counts.now c.args.buf.now) (entry_of c.args.name.now c.args.id) (fitted (goal.at.returns c).Else-not-fits)
    (zero_free (goal.at.returns c).Else-has_zero) (none_due (goal.at.returns c).In_ok-check_earlier)
    (sized (goal.at.returns c).After-too_large ∙ c.if-too_large.false)

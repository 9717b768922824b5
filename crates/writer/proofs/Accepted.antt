-- An accepted close: its checks are the precondition of serializing, and what serializing leaves is what the rule says. Assumes
-- nothing.
use Prim.Native.Nat.{ℕ}
use native.Mathlib.Omega.{arith}
use mathlib.Core.Path.{◌≡◌, ap, ◌∙◌}
use mathlib.Core.Bool.{Bool, true, false, ◌&&◌}
use mathlib.Core.List.{List}
use lib.Dec.{eqb}
use borrow.Author.Tests.{eqb-true}
use Rattle.image.specs.Image.{back_in, back_size}
use Rattle.image.specs.Stored.{whole}
use Rattle.image.proofs.Bools.{and_first, and_second}
use Rattle.serialize.specs.Serialize.{serialized}
use Rattle.serialize.specs.Steps.Preconditions.{ClosePrecondition}
use Rattle.writer.specs.State.{state_with, fits, finished_size, too_large, counts_agree}
use Rattle.writer.specs.Close.{entry_area, recorded, consistent, closed, after_close}
use Rattle.writer.specs.declared.CQDBWriter.{CQDBWriter}
use Rattle.writer.proofs.Fits.{fitting, not_too_large}
use Rattle.writer.proofs.Closes.{closes}

module _ (w : CQDBWriter) (counts buf : List ℕ) (fit : fits (state_with w counts buf) ≡ true)
    (fine : too_large w.length (finished_size w) ≡ false) (all : consistent (state_with w counts buf) ≡ true) where
  pub stands : ClosePrecondition w.mode w.end w.entries w.back counts buf
  stands =
      let s = state_with w counts buf in
      let a : Bool = whole w.entries (entry_area s) in
      let b : Bool = counts_agree counts (recorded s) in
      let c : Bool = eqb w.back (back_in w.mode (back_size (recorded s))) in
      let ab : (a && b) ≡ true = and_first (a && b) c all in
      let l = not_too_large w.length (finished_size w) fine in
      let f = fitting w counts buf fit in
      record {
        after_head = f.low;
        whole_entries = and_first a b ab;
        counts_agree_lem = and_second a b ab;
        back_agrees = eqb-true w.back (back_in w.mode (back_size (recorded s))) (and_second (a && b) c all);
        fits_buffer = omega (arith, l.0, f.same_length);
        fits_word = l.1;
      }

  pub closes_image : (b : List ℕ) → b ≡ serialized w.mode w.end w.entries w.back buf → state_with w counts b ≡ after_close (state_with w counts buf)
  unfolding closed
  closes_image b e = ap (state_with w counts) e ∙ (closes (state_with w counts buf) fit fine all).1

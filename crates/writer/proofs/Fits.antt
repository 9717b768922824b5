-- When a record fits, and the bounds of sizes. Assumes nothing.
use Prim.Native.Nat.{ℕ, ◌+◌, ◌*◌, ◌^◌, ◌≤◌, ◌<◌, max}
use native.Mathlib.Omega.{arith}
use mathlib.Core.Path.{◌≡◌}
use mathlib.Core.Bool.{true, false, ◌&&◌}
use mathlib.Core.List.{List}
use lib.ListN.{length}
use lib.Dec.{eqb, leb, ltb}
use borrow.Author.Tests.{eqb-true, leb-true, ltb-false}
use Rattle.image.specs.Image.{head_size, back_in}
use Rattle.image.specs.declared.Mode.{Mode}
use Rattle.image.specs.declared.Mode.TheVariants.{Twoway, Oneway}
use Rattle.image.proofs.Bools.{and_first, and_second, or_false_first, or_false_second}
use Rattle.writer.specs.State.{state_with, none_above, in_buffer, fits, too_large}
use Rattle.writer.specs.Put.{back_after}
use Rattle.writer.specs.Steps.Earlier.{EndInside}
use Rattle.writer.specs.declared.CQDBWriter.{CQDBWriter}

-- what it means that a record has this buffer's length and an end inside
pub record InBuffer (w : CQDBWriter) (buf : List ℕ) : Type 0 where
  pub same_length : w.length ≡ length buf
  pub low : head_size ≤ w.end
  pub high : w.end ≤ w.length

pub buffer_of : (w : CQDBWriter) (buf : List ℕ) → in_buffer w buf ≡ true → InBuffer w buf
buffer_of w buf h =
    let a = eqb w.length (length buf) in
    let b = leb head_size w.end in
    let c = leb w.end w.length in
    let ab = and_first (a && b) c h in
    record {
      same_length = eqb-true w.length (length buf) (and_first a b ab);
      low = leb-true head_size w.end (and_second a b ab);
      high = leb-true w.end w.length (and_second (a && b) c h);
    }

-- what it means that a record fits
pub record Fitting (w : CQDBWriter) (counts buf : List ℕ) : Type 0 where
  pub same_length : w.length ≡ length buf
  pub low : head_size ≤ w.end
  pub high : w.end ≤ w.length
  pub none : none_above counts w.entries ≡ true

pub fitting : (w : CQDBWriter) (counts buf : List ℕ) → fits (state_with w counts buf) ≡ true → Fitting w counts buf
unfolding fits
fitting w counts buf h =
    let d = none_above counts w.entries in
    let inside = buffer_of w buf (and_first (in_buffer w buf) d h) in
    record {
      same_length = inside.same_length;
      low = inside.low;
      high = inside.high;
      none = and_second (in_buffer w buf) d h;
    }

pub end_inside : {w : CQDBWriter} {counts buf : List ℕ} → Fitting w counts buf → EndInside w buf
end_inside f = record { low = f.low; high = omega (arith, f.high, f.same_length) }

-- ---- sizes

pub not_too_large : (room size : ℕ) → too_large room size ≡ false → (size ≤ room) × (size ≤ 4294967295)
not_too_large room size h = (
  ltb-false room size (or_false_first (ltb room size) (ltb 4294967295 size) h),
  ltb-false 4294967295 size (or_false_second (ltb room size) (ltb 4294967295 size) h),
)

pub back_after_le : (mode : Mode) (back id : ℕ) → back_after mode back id ≤ max back (id + 1)
back_after_le Twoway back id = omega arith
back_after_le Oneway back id = omega arith

-- a back size that a size within 32 bits counts fits 32 bits itself
pub back_after_fits : (mode : Mode) (back id : ℕ) → back < 2 ^ 32 → 4 * back_in mode (back_after mode back id) ≤ 4294967295 → back_after mode back id < 2 ^ 32
back_after_fits Twoway back id h k = omega arith
back_after_fits Oneway back id h k = h

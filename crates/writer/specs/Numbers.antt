-- The numbers by which C names mode and choice of repeats: 01, "The image record", and 02 (viii). Assumes nothing.
use Rattle.std.specs.Prelude.{ℕ, Bool, cond, ◌&&◌, eqb, leb, Result, Ok, Err}
use Rattle.jhash.specs.declared.refusals.Refusal.{Refusal}
use Rattle.jhash.specs.declared.refusals.Refusal.TheVariants.{Unfit}
use Rattle.image.specs.declared.Mode.{Mode}
use Rattle.image.specs.declared.Mode.TheVariants.{Twoway, Oneway}
use Rattle.writer.specs.declared.Repeats.{Repeats}
use Rattle.writer.specs.declared.Repeats.TheVariants.{Off, On}

-- a mode is 0, two-way, or 1, one-way, as the flag word; the choice of repeats (02 (viii)) is 0, off, or 1, on. A
-- record with another number is no record of 01
abbrev pub valid_numbers : ℕ → ℕ → Bool
valid_numbers mode repeats = leb mode 1 && leb repeats 1

abbrev pub mode_of : ℕ → Mode
mode_of mode = cond (eqb mode 0) Twoway Oneway

abbrev pub repeats_of : ℕ → Repeats
repeats_of repeats = cond (eqb repeats 0) Off On

abbrev pub repeats_word : Repeats → ℕ
repeats_word Off = 0
repeats_word On = 1

-- the choice of repeats that a number stands for, if it is 0 or 1
abbrev pub repeats_read : ℕ → Result Repeats Refusal
repeats_read n = cond (leb n 1) (Ok (repeats_of n)) (Err Unfit)

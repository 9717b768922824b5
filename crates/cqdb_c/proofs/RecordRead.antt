-- What reading C's record gives: one of 01's, which the record stands for, or refusal 2 where it is none. Assumes nothing.
use Rattle.std.proofs.Common.{◌≡◌, ℕ, Bool, true, false, cond, ◌&&◌, Result, Ok, Err, refl, ap, leb, arith}
use borrow.Author.Tests.{ne_eqb, leb-false}
use Rattle.std.specs.Result.{result_unwrap_or}
use Rattle.jhash.specs.declared.refusals.Refusal.{Refusal}
use Rattle.jhash.specs.declared.refusals.Refusal.TheVariants.{Unfit}
use Rattle.image.specs.declared.Mode.{Mode}
use Rattle.image.specs.declared.Mode.TheVariants.{Oneway}
use Rattle.image.specs.Steps.Contracts.{mode_read}
use Rattle.writer.specs.declared.Repeats.{Repeats}
use Rattle.writer.specs.declared.CQDBWriter.{CQDBWriter}
use Rattle.writer.specs.declared.c_record.Record.{Record}
use Rattle.writer.specs.Numbers.{valid_numbers, mode_of, repeats_of, repeats_read}
use Rattle.writer.specs.CRecord.{writer_of, writer_read}

-- a value that is read where a test holds, and a refusal where it does not
module _ {A : Type 0} (t : Bool) (x y : A) where
  pub read_ok : Ok y ≡ cond t (Ok x) (Err Unfit) → (t ≡ true) × (y ≡ x)
  read_ok e = elim t as (λ t. ◌≡◌ {A = Result A Refusal} (Ok y) (cond t (Ok x) (Err Unfit)) → (t ≡ true) × (y ≡ x)) [
    | true ↦ λ e. (refl, cc)
    | false ↦ λ e. cc
  ] e

pub read_err : {A : Type 0} (t : Bool) (x : A) (k : Refusal) → Err k ≡ cond t (Ok x) (Err Unfit) → t ≡ false
read_err true x k e = cc
read_err false x k e = refl

-- the record
pub known_writer : (r : Record) (w : CQDBWriter) → Ok w ≡ writer_read r → (valid_numbers r.mode r.repeats ≡ true) × (w ≡ writer_of r)
known_writer r w e = read_ok (valid_numbers r.mode r.repeats) (writer_of r) w e

pub no_writer : (r : Record) (k : Refusal) → Err k ≡ writer_read r → valid_numbers r.mode r.repeats ≡ false
no_writer r k e = read_err (valid_numbers r.mode r.repeats) (writer_of r) k e

-- the mode and the choice of repeats, each by itself: both stand for something where each does
pub known_mode : (n : ℕ) (m : Mode) → Ok m ≡ mode_read n → (leb n 1 ≡ true) × (m ≡ mode_of n)
known_mode n m e = read_ok (leb n 1) (mode_of n) m e

pub no_mode : (n : ℕ) (k : Refusal) (repeats : ℕ) → Err k ≡ mode_read n → valid_numbers n repeats ≡ false
no_mode n k repeats e = ap (λ (t : Bool). t && leb repeats 1) (read_err (leb n 1) (mode_of n) k e)

pub known_repeats : (n : ℕ) (r : Repeats) → Ok r ≡ repeats_read n → (leb n 1 ≡ true) × (r ≡ repeats_of n)
known_repeats n r e = read_ok (leb n 1) (repeats_of n) r e

pub no_repeats : (mode n : ℕ) (k : Refusal) → leb mode 1 ≡ true → Err k ≡ repeats_read n → valid_numbers mode n ≡ false
no_repeats mode n k h e = rw h (read_err (leb n 1) (repeats_of n) k e)

pub both_known : (mode repeats : ℕ) → leb mode 1 ≡ true → leb repeats 1 ≡ true → valid_numbers mode repeats ≡ true
both_known mode repeats h k = rw h k

-- a mode that is none is one-way
pub mode_or_oneway : (mode : ℕ) → result_unwrap_or (mode_read mode) Oneway ≡ mode_of mode
mode_or_oneway mode = by_test (leb mode 1) refl
  where
    by_test : (t : Bool) → leb mode 1 ≡ t → result_unwrap_or {T = Mode} {E = Refusal} (cond t (Ok (mode_of mode)) (Err Unfit)) Oneway ≡ mode_of mode
    by_test true e = refl
    by_test false e = rw (ne_eqb mode 0 (λ z. omega (arith, leb-false mode 1 e, z))) refl

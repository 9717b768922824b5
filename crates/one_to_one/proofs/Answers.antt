-- The answer by the decision of 02 (ix). Assumes nothing.
use Prim.Native.Nat.{ℕ}
use native.Mathlib.Omega.{arith}
use mathlib.Core.Path.{◌≡◌, refl, ap}
use mathlib.Core.Bool.{Bool, true, false, cond}
use mathlib.Core.List.{List}
use mathlib.Core.Option.{Option}
use Rattle.jhash.specs.Outcome.{value, refusal}
use Rattle.jhash.specs.Word.{AllBytes}
use Rattle.reader.specs.Open.{opening}
use Rattle.canonical.specs.Canonical.{canonical}
use Rattle.canonical.proofs.Theorem.{canonical_holds}
use Rattle.one_to_one.specs.OneToOne.{Failure, first_failure_in, one_to_one}

pub refused : (img : List ℕ) → canonical img ≡ false → one_to_one img ≡ refusal 17
unfolding one_to_one
refused img h = ap (λ (t : Bool). cond t (value (first_failure_in img)) (refusal 17)) h

pub answered : (img : List ℕ) → canonical img ≡ true → one_to_one img ≡ value (first_failure_in img)
unfolding one_to_one
answered img h = ap (λ (t : Bool). cond t (value (first_failure_in img)) (refusal 17)) h

-- what the answer says of the image where it is not refused
pub accepted : (img : List ℕ) (a : Option Failure) → one_to_one img ≡ value a → canonical img ≡ true
accepted img a h = answer_true (canonical img) refl
  where
    answer_true : (t : Bool) → canonical img ≡ t → t ≡ true
    answer_true true e = refl
    answer_true false e = let r = refused img e in let z : ◌≡◌ {A = ℕ} 0 1 = cc in absurd (omega arith)

pub first_is : (img : List ℕ) (a : Option Failure) → one_to_one img ≡ value a → first_failure_in img ≡ a
first_is img a h = let r = answered img (accepted img a h) in cc

-- a canonical image opens
pub never_refused : (img : List ℕ) (k : ℕ) → AllBytes img → canonical img ≡ true → refusal k ≡ opening img → ⊥
never_refused img k bytes h e =
    let o = (canonical_holds.holds img bytes h).opens in let z : ◌≡◌ {A = ℕ} 0 1 = cc in omega arith

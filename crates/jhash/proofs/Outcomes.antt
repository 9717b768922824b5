-- What hashing a name answers: the laws that the crates above cite, so that none of them opens a definition of the hash.
-- Assumes nothing.
use Rattle.std.proofs.Common.{◌≡◌, ℕ, zero, suc, ◌+◌, ◌^◌, ◌<◌, ◌≤◌, Bool, true, false, cond, ltb, Result, Ok, Err, List, [], ◌∷◌, ◌++◌, length, drop, refl}
use Rattle.std.proofs.Common.{sym, ap, ◌∙◌, arith}
use Rattle.std.proofs.Common.{le-ltb, lt-ltb}
use Rattle.std.specs.Result.{is_err}
use native.Mathlib.Decide.{dec_lt}
use Rattle.jhash.specs.Lookup3.{added, mix, final, hash_blocks, hash_rest, initial}
use Rattle.jhash.specs.Outcome.{value, refusal, outcome_of, refusal_of}
use Rattle.jhash.specs.Refusals.{number_of}
use Rattle.jhash.specs.NameHash.{name_hash, hash_of, hash_outcome, hash_or_zero}
use Rattle.jhash.specs.declared.Words.{Words}
use Rattle.jhash.specs.declared.refusals.Refusal.{Refusal}
use Rattle.jhash.specs.declared.refusals.Refusal.TheVariants.{TooShort, Unfit, NoRoom, Inconsistent, WrongLetters, WrongByteOrder, TableLeaves, BackLeaves}
use Rattle.jhash.specs.declared.refusals.Refusal.TheVariants.{NameTooLong, BrokenBundle, NoSuchImage, PageTooLong, ZeroByte}
use Rattle.jhash.specs.declared.refusals.Refusal.TheVariants.{RoundUnfit, AnswersTooFew, Repeated, NotCanonical, NoEntries, TooFewBytes, LeftOverBytes}
use Rattle.jhash.specs.declared.refusals.Refusal.TheVariants.{SheetTooLarge, NoSuchDate, NotBeforeEnd, IndexFull}
use Rattle.jhash.proofs.Blocks.{name_begin}

zero_one : ◌≡◌ {A = ℕ} 0 1 → ⊥
zero_one z = omega arith

-- ---- a hash is a word

final_below : (w : Words) → final w < 2 ^ 32
unfolding final
final_below w = omega arith

rest_below : (n : ℕ) (w : Words) (l : List ℕ) → hash_blocks n w l < 2 ^ 32
unfolding hash_blocks
rest_below zero w l = final_below (added w l)
rest_below (suc n) w l =
    elim (ltb 12 (length l)) as (λ b. elim b [ true ↦ hash_blocks n (mix (added w l)) (drop 12 l) | false ↦ final (added w l) ] < 2 ^ 32) [
      | true ↦ rest_below n (mix (added w l)) (drop 12 l)
      | false ↦ final_below (added w l)
    ]

pub name_hash_below : (name : List ℕ) (start : ℕ) → name_hash name start < 2 ^ 32
unfolding hash_rest
name_hash_below name start = rw name_begin (rest_below (length (name ++ 0 ∷ [])) (initial (length name + 1) start) (name ++ 0 ∷ []))

pub hash_of_below : (name : List ℕ) → hash_of name < 2 ^ 32
unfolding hash_of
hash_of_below name = name_hash_below name 0

-- ---- what is answered for a short name, and for one that is too long

pub short_answer : (name : List ℕ) (start : ℕ) → length name < 4294967295 → hash_outcome name start ≡ value (name_hash name start)
unfolding hash_outcome
short_answer name start h = simp (lt-ltb (length name) 4294967295 h)

pub long_answer : (name : List ℕ) (start : ℕ) → 4294967295 ≤ length name → hash_outcome name start ≡ refusal 9
unfolding hash_outcome
long_answer name start h = simp (le-ltb (length name) 4294967295 h)

-- ---- for a caller that matches on the answer `r` of `jhash`; `promise` is what `jhash` ensures

-- the answer is a hash: it is that of the name, which is short enough
pub result_hash : (name : List ℕ) (start : ℕ) (r : Result ℕ Refusal) (h : ℕ) → outcome_of r ≡ hash_outcome name start → r ≡ Ok h
    → (length name < 4294967295) × (h ≡ name_hash name start)
result_hash name start r h promise is =
    elim (dec_lt (length name) 4294967295) [
      | yes short ↦
          let e : value h ≡ value (name_hash name start) = ap outcome_of (sym is) ∙ promise ∙ short_answer name start short in
          (short, cc)
      | no long ↦
          let e : value h ≡ refusal 9 = ap outcome_of (sym is) ∙ promise ∙ long_answer name start (omega arith) in
          let z : ◌≡◌ {A = ℕ} 0 1 = cc in
          absurd (zero_one z)
    ]

-- the same with the start value of images
pub result_name_hash : (name : List ℕ) (r : Result ℕ Refusal) (h : ℕ) → outcome_of r ≡ hash_outcome name 0 → r ≡ Ok h
    → (length name < 4294967295) × (h ≡ hash_of name)
unfolding hash_of
result_name_hash name r h promise is = result_hash name 0 r h promise is

-- the answer is a refusal: the name is too long
pub result_refused : (name : List ℕ) (start : ℕ) (r : Result ℕ Refusal) (e : Refusal) → outcome_of r ≡ hash_outcome name start → r ≡ Err e
    → 4294967295 ≤ length name
result_refused name start r why promise is =
    elim (dec_lt (length name) 4294967295) [
      | yes short ↦
          let e : refusal (number_of why) ≡ value (name_hash name start) = ap outcome_of (sym is) ∙ promise ∙ short_answer name start short in
          let z : ◌≡◌ {A = ℕ} 0 1 = cc in
          absurd (zero_one z)
      | no long ↦ omega arith
    ]

-- ---- the hash of a name, 0 where it is too long to have one

pub hash_or_zero_short : (name : List ℕ) → length name < 4294967295 → hash_or_zero name ≡ hash_of name
unfolding hash_or_zero
hash_or_zero_short name h = ap (λ (t : Bool). cond t (hash_of name) 0) (lt-ltb (length name) 4294967295 h)

pub hash_or_zero_long : (name : List ℕ) → 4294967295 ≤ length name → hash_or_zero name ≡ 0
unfolding hash_or_zero
hash_or_zero_long name h = ap (λ (t : Bool). cond t (hash_of name) 0) (le-ltb (length name) 4294967295 h)

-- ---- no refusal has the number 0, which stands for none

pub number_some : (r : Refusal) → number_of r ≡ 0 → ⊥
number_some TooShort z = omega arith
number_some Unfit z = omega arith
number_some NoRoom z = omega arith
number_some Inconsistent z = omega arith
number_some WrongLetters z = omega arith
number_some WrongByteOrder z = omega arith
number_some TableLeaves z = omega arith
number_some BackLeaves z = omega arith
number_some NameTooLong z = omega arith
number_some BrokenBundle z = omega arith
number_some NoSuchImage z = omega arith
number_some PageTooLong z = omega arith
number_some ZeroByte z = omega arith
number_some RoundUnfit z = omega arith
number_some AnswersTooFew z = omega arith
number_some Repeated z = omega arith
number_some NotCanonical z = omega arith
number_some NoEntries z = omega arith
number_some TooFewBytes z = omega arith
number_some LeftOverBytes z = omega arith
number_some SheetTooLarge z = omega arith
number_some NoSuchDate z = omega arith
number_some NotBeforeEnd z = omega arith
number_some IndexFull z = omega arith

-- so a call is accepted where its answer is `Ok`, and refused where it is `Err`
pub accepted_ok : {A : Type 0} (r : Result A Refusal) → is_err r ≡ false → refusal_of r ≡ 0
accepted_ok (Ok x) h = refl
accepted_ok (Err k) h = cc

pub refused_err : {A : Type 0} (r : Result A Refusal) → is_err r ≡ true → refusal_of r ≡ 0 → ⊥
refused_err (Ok x) h z = cc
refused_err (Err k) h z = number_some k z

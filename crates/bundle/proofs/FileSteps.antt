-- What a walk meets at a place of a file: its end, a broken place or an image. Assumes nothing.
use Prim.Native.Nat.{ℕ, ◌+◌, ◌-◌, ◌≤◌, ◌<◌}
use native.Mathlib.Omega.{arith}
use native.Mathlib.Decide.{ℕ_discrete}
use mathlib.Core.Path.{◌≡◌, refl, sym, ap, ◌∙◌}
use mathlib.Core.Bool.{Bool, true, false, ◌||◌}
use mathlib.Core.List.{List}
use borrow.Author.Tests.{lt-ltb, le-ltb, eq-eqb, ne_eqb, ltb-false}
use lib.Dec.{ltb}
use lib.ListN.{length}
use Rattle.jhash.specs.Outcome.{Outcome, value, refusal}
use Rattle.jhash.proofs.ValueOrRefusal.{no_value, same_value}
use Rattle.image.proofs.Bools.{or_false_first, or_false_second}
use Rattle.bundle.specs.FileWalk.{size_at, breaks, file_step}
use Rattle.bundle.specs.Steps.Contracts.{image_size}

-- an image begins at the place: its size word is there, is at least 2,072, and does not lead past the file's end
pub record Begins (file : List ℕ) (at : ℕ) : Type 0 where
  pub head : at + 8 ≤ length file
  pub large : 2072 ≤ size_at file at
  pub inside : at + size_at file at ≤ length file

-- an image of this size begins at the place
pub record ImageThere (file : List ℕ) (at size : ℕ) : Type 0 where
  pub begins : Begins file at
  pub size_is : size_at file at ≡ size

pub data Met (file : List ℕ) (at : ℕ) : Type 0 where
  ended : at ≡ length file → Met file at
  broke : (at ≡ length file → ⊥) → breaks file at ≡ true → Met file at
  began : Begins file at → Met file at

module _ (file : List ℕ) (at : ℕ) where
  unbroken : breaks file at ≡ false → Begins file at
  unbroken e =
      let short = ltb (length file) (at + 8) in
      let small = ltb (size_at file at) 2072 in
      let past = ltb (length file) (at + size_at file at) in
      let two = or_false_first (short || small) past e in
      record {
        head = ltb-false (length file) (at + 8) (or_false_first short small two);
        large = ltb-false (size_at file at) 2072 (or_false_second short small two);
        inside = ltb-false (length file) (at + size_at file at) (or_false_second (short || small) past e);
      }

  begins_unbroken : Begins file at → breaks file at ≡ false
  begins_unbroken b =
      simp (le-ltb (length file) (at + 8) b.head, le-ltb (size_at file at) 2072 b.large, le-ltb (length file) (at + size_at file at) b.inside)

  pub met : Met file at
  met =
      elim (ℕ_discrete at (length file)) [
        | yes e ↦ ended e
        | no n ↦ broken_or_begun n (breaks file at) refl
      ]
    where
      broken_or_begun : (at ≡ length file → ⊥) → (b : Bool) → breaks file at ≡ b → Met file at
      broken_or_begun n true e = broke n e
      broken_or_begun n false e = began (unbroken e)

  -- what a step gives in each case
  module _ {A : Type 0} (end image : Outcome A) where
    pub step_ended : at ≡ length file → file_step file at end image ≡ end
    unfolding file_step
    step_ended e = rw (eq-eqb at (length file) e)

    pub step_broke : (at ≡ length file → ⊥) → breaks file at ≡ true → file_step file at end image ≡ refusal 10
    unfolding file_step
    step_broke n b = rw (ne_eqb at (length file) n, b)

    pub step_began : Begins file at → file_step file at end image ≡ image
    unfolding file_step
    step_began b =
        let n : at ≡ length file → ⊥ = λ e. (let h = b.head in omega arith) in
        rw (ne_eqb at (length file) n, begins_unbroken b)

  -- the step as the code reads it, where w is the size word
  pub size_end : at ≤ length file → length file - at ≡ 0 → refusal 11 ≡ image_size file at
  size_end h k = let e : at ≡ length file = omega arith in sym (step_ended (refusal 11) (value (size_at file at)) e)

  module _ (h : at ≤ length file) (n : length file - at ≡ 0 → ⊥) where
    apart : at ≡ length file → ⊥
    apart e = n (omega arith)

    broken_there : breaks file at ≡ true → refusal 10 ≡ image_size file at
    broken_there b = sym (step_broke (refusal 11) (value (size_at file at)) apart b)

    pub size_short : length file - at < 8 → refusal 10 ≡ image_size file at
    size_short k = broken_there (simp (lt-ltb (length file) (at + 8) (omega arith)))

    module _ (w : ℕ) (k : 8 ≤ length file - at) (e : w ≡ size_at file at) where
      pub size_small : w < 2072 → refusal 10 ≡ image_size file at
      size_small l = broken_there (simp (le-ltb (length file) (at + 8) (omega arith), lt-ltb (size_at file at) 2072 (omega arith)))

      pub size_past : 2072 ≤ w → length file - at < w → refusal 10 ≡ image_size file at
      size_past l p =
          let whole = le-ltb (length file) (at + 8) (omega arith) in
          let large = le-ltb (size_at file at) 2072 (omega arith) in
          let past = lt-ltb (length file) (at + size_at file at) (omega arith) in
          broken_there (simp (whole, large, past))

      pub size_fine : 2072 ≤ w → w ≤ length file - at → value w ≡ image_size file at
      size_fine l p =
          let begins : Begins file at = record { head = omega arith; large = omega arith; inside = omega arith } in
          ap value e ∙ sym (step_began (refusal 11) (value (size_at file at)) begins)

  -- what a size says
  pub there : (w : ℕ) → value w ≡ image_size file at → ImageThere file at w
  there w e = by_case met
    where
      by_case : Met file at → ImageThere file at w
      by_case (ended q) = absurd (no_value 11 w (sym (step_ended (refusal 11) (value (size_at file at)) q) ∙ sym e))
      by_case (broke n b) = absurd (no_value 10 w (sym (step_broke (refusal 11) (value (size_at file at)) n b) ∙ sym e))
      by_case (began b) =
          let same = same_value w (size_at file at) (e ∙ step_began (refusal 11) (value (size_at file at)) b) in
          record { begins = b; size_is = sym same }

-- A whole list as C has it: what `build` promises, put into the struct. Assumes nothing.
use Prim.Native.Nat.{ℕ, ◌<◌}
use mathlib.Core.Path.{◌≡◌, refl, sym, ap, ap₂, subst, ◌∙◌}
use Rattle.image.proofs.Bools.{false_not_true}
use mathlib.Core.Bool.{Bool, true, false, cond}
use mathlib.Core.List.{List}
use lib.ListN.{length}
use native.Mathlib.Omega.{arith}
use Rattle.std.specs.Prelude.{Result, Ok, Err}
use Rattle.jhash.specs.declared.refusals.Refusal.{Refusal}
use Rattle.jhash.specs.declared.refusals.Refusal.TheVariants.{Unfit}
use Rattle.jhash.specs.Refusals.{number_of}
use Rattle.jhash.specs.Outcome.{Outcome, refusal, outcome_of, refusal_of}
use Rattle.image.specs.declared.Mode.{Mode}
use Rattle.writer.specs.declared.Repeats.{Repeats}
use Rattle.build.specs.declared.Made.{Made}
use Rattle.build.specs.Build.{build_refusal, building, BufferBuilt, answers_after}
use Rattle.build.proofs.Whole.{refused_some}
use Rattle.build_c.specs.declared.BuildAnswer.{BuildAnswer}
use Rattle.writer.specs.Numbers.{valid_numbers, mode_of, repeats_of}
use Rattle.build_c.specs.Building.{built_answer, build_answer, BufferLeft, answers_built}

-- a number that is read as one of two: it stands for none
pub read_unknown : {A : Type 0} (b : Bool) (x : A) {e : Refusal} → ◌≡◌ {A = Result A Refusal} (Err e) (cond b (Ok x) (Err Unfit))
    → (b ≡ false) × (number_of e ≡ 2)
read_unknown true x is = cc
read_unknown false x {e} is = let same : e ≡ Unfit = cc in (refl, ap number_of same)

-- or for this one
pub read_known : {A : Type 0} (b : Bool) {x y : A} → ◌≡◌ {A = Result A Refusal} (Ok y) (cond b (Ok x) (Err Unfit)) → (b ≡ true) × (y ≡ x)
read_known true {x} {y} is = let same : y ≡ x = cc in (refl, same)
read_known false is = cc

-- the number of a refusal is due
pub refusal_due : (mode : Mode) (repeats : Repeats) (buffer bytes ends ids : List ℕ) (places : ℕ) (r : Result Made Refusal)
    → outcome_of r ≡ building mode repeats buffer bytes ends ids places → 0 < refusal_of r
    → 0 < build_refusal bytes ends (length ids) places (length buffer)
refusal_due mode repeats buffer bytes ends ids places (Ok m) e some = absurd (omega arith)
refusal_due mode repeats buffer bytes ends ids places (Err k) e some = refused_some mode repeats buffer bytes ends ids places (number_of k) (sym e)

module _ (mode repeats : ℕ) (buffer bytes ends ids places : List ℕ) where
  abbrev answer : BuildAnswer
  answer = built_answer (building (mode_of mode) (repeats_of repeats) buffer bytes ends ids (length places))

  abbrev told : List ℕ
  told = answers_after (mode_of mode) (repeats_of repeats) buffer bytes ends ids places

  -- a mode or a repeats mode that stands for nothing
  pub unknown_build : valid_numbers mode repeats ≡ false
      → (built_answer (refusal 2) ≡ build_answer mode repeats buffer bytes ends ids (length places))
      × BufferLeft mode repeats buffer bytes ends ids (length places) buffer
      × (places ≡ answers_built mode repeats buffer bytes ends ids places)
  unfolding build_answer answers_built
  unknown_build e = (
    sym (ap (λ (b : Bool). cond b answer (built_answer (refusal 2))) e),
    record { unknown = λ z. refl; built = λ z. absurd (false_not_true (sym e ∙ z)) },
    sym (ap (λ (b : Bool). cond b told places) e),
  )

  pub known_build : valid_numbers mode repeats ≡ true → (m : Mode) (r : Repeats) → m ≡ mode_of mode → r ≡ repeats_of repeats
      → (out : Outcome Made) (l rs : List ℕ) → out ≡ building m r buffer bytes ends ids (length places)
      → BufferBuilt m r buffer bytes ends ids (length places) l → rs ≡ answers_after m r buffer bytes ends ids places
      → (built_answer out ≡ build_answer mode repeats buffer bytes ends ids (length places))
      × BufferLeft mode repeats buffer bytes ends ids (length places) l
      × (rs ≡ answers_built mode repeats buffer bytes ends ids places)
  unfolding build_answer answers_built
  known_build e m r em er out l rs eo el ers = (
    ap built_answer (eo ∙ ap₂ (λ (x : Mode) (y : Repeats). building x y buffer bytes ends ids (length places)) em er)
        ∙ sym (ap (λ (b : Bool). cond b answer (built_answer (refusal 2))) e),
    record {
      unknown = λ z. absurd (false_not_true (sym z ∙ e));
      built = λ z. subst (λ (x : Mode). BufferBuilt x (repeats_of repeats) buffer bytes ends ids (length places) l) em
          (subst (λ (y : Repeats). BufferBuilt m y buffer bytes ends ids (length places) l) er el);
    },
    ers
        ∙ ap₂ (λ (x : Mode) (y : Repeats). answers_after x y buffer bytes ends ids places) em er
        ∙ sym (ap (λ (b : Bool). cond b told places) e),
  )

-- The whole call: its refusals, and what it gives and leaves where none applies. Assumes nothing.
use Prim.Native.Nat.{ℕ, ◌≤◌, ◌<◌}
use native.Mathlib.Omega.{arith}
use mathlib.Core.Path.{◌≡◌, refl, sym, ap, ap₂, ◌∙◌}
use mathlib.Core.Bool.{Bool, true, false, cond, ◌||◌}
use mathlib.Core.List.{List, ◌++◌}
use borrow.Author.Tests.{lt-ltb, le-ltb, ltb-true}
use lib.Dec.{ltb}
use lib.ListN.{length, drop}
use Rattle.jhash.specs.Outcome.{Outcome, value, refusal}
use Rattle.image.specs.declared.Mode.{Mode}
use Rattle.image.specs.Image.{head_size}
use Rattle.image.specs.PackedNames.{invalid_ends}
use Rattle.writer.specs.declared.Repeats.{Repeats}
use Rattle.writer.specs.Close.{closed_size}
use Rattle.lists.specs.Demand3.{answers_of, after_list, accepted_puts}
use Rattle.build.specs.declared.Made.{Made}
use Rattle.build.specs.Build.{listed, build_refusal, made_of, building, BufferBuilt, answers_after}

-- ---- the refusals, in their order

abbrev number : Bool → Bool → Bool → Bool → ℕ
number a b c d = cond a 14 (cond (b || c) 15 (cond d 1 0))

module _ (bytes ends : List ℕ) (ids places room : ℕ) where
  abbrev n : ℕ
  n = length ends

  pub refusal_14 : invalid_ends (length bytes) 0 ends ≡ true → build_refusal bytes ends ids places room ≡ 14
  unfolding build_refusal
  refusal_14 e = ap (λ (t : Bool). number t (ltb ids n) (ltb places n) (ltb room head_size)) e

  pub refusal_15 : invalid_ends (length bytes) 0 ends ≡ false → ids < n → build_refusal bytes ends ids places room ≡ 15
  unfolding build_refusal
  refusal_15 e h =
      ap₂ (λ (t u : Bool). number t u (ltb places n) (ltb room head_size)) e (lt-ltb ids n h)

  pub refusal_15_places : invalid_ends (length bytes) 0 ends ≡ false → n ≤ ids → places < n → build_refusal bytes ends ids places room ≡ 15
  unfolding build_refusal
  refusal_15_places e h k =
      ap₂ (λ (t u : Bool). number t u (ltb places n) (ltb room head_size)) e (le-ltb ids n h)
      ∙ ap (λ (t : Bool). number false false t (ltb room head_size)) (lt-ltb places n k)

  pub refusal_1 : invalid_ends (length bytes) 0 ends ≡ false → n ≤ ids → n ≤ places → room < head_size → build_refusal bytes ends ids places room ≡ 1
  unfolding build_refusal
  refusal_1 e h k l =
      ap₂ (λ (t u : Bool). number t u (ltb places n) (ltb room head_size)) e (le-ltb ids n h)
      ∙ ap₂ (λ (t u : Bool). number false false t u) (le-ltb places n k) (lt-ltb room head_size l)

  pub refusal_none : invalid_ends (length bytes) 0 ends ≡ false → n ≤ ids → n ≤ places → head_size ≤ room → build_refusal bytes ends ids places room ≡ 0
  unfolding build_refusal
  refusal_none e h k l =
      ap₂ (λ (t u : Bool). number t u (ltb places n) (ltb room head_size)) e (le-ltb ids n h)
      ∙ ap₂ (λ (t u : Bool). number false false t u) (le-ltb places n k) (le-ltb room head_size l)

-- ---- what is given and left

module _ (mode : Mode) (repeats : Repeats) (buffer bytes ends ids places : List ℕ) where
  abbrev told : List ℕ
  told = answers_of mode repeats buffer (listed bytes ends ids) ++ drop (length ends) places

  abbrev given : Bool → ℕ → Outcome Made
  given b k = cond b (refusal k) (value (made_of mode repeats buffer (listed bytes ends ids)))

  -- a refusal writes nothing
  pub refused_build : (k : ℕ) → build_refusal bytes ends (length ids) (length places) (length buffer) ≡ k → 0 < k
      → (refusal k ≡ building mode repeats buffer bytes ends ids (length places))
      × (BufferBuilt mode repeats buffer bytes ends ids (length places) buffer × (places ≡ answers_after mode repeats buffer bytes ends ids places))
  unfolding building answers_after
  refused_build k e h =
      let t : ltb 0 (build_refusal bytes ends (length ids) (length places) (length buffer)) ≡ true = ap (ltb 0) e ∙ lt-ltb 0 k h in (
        sym (ap₂ given t e),
        (
          record { refused = λ l. refl; imaged = λ z. absurd (omega (arith, e, h, z)); behind = λ z. refl },
          sym (ap (λ (b : Bool). cond b places told) t),
        ),
      )

  module _ (ok : build_refusal bytes ends (length ids) (length places) (length buffer) ≡ 0) where
    none : ltb 0 (build_refusal bytes ends (length ids) (length places) (length buffer)) ≡ false
    none = ap (ltb 0) ok

    pub answers_are : answers_after mode repeats buffer bytes ends ids places
        ≡ answers_of mode repeats buffer (listed bytes ends ids) ++ drop (length ends) places
    unfolding answers_after
    answers_are = ap (λ (b : Bool). cond b places told) none

    pub built_made : (m : Made) → m.size ≡ closed_size (after_list mode repeats buffer (listed bytes ends ids))
        → m.accepted ≡ length (accepted_puts mode repeats buffer (listed bytes ends ids))
        → value m ≡ building mode repeats buffer bytes ends ids (length places)
    unfolding building made_of
    built_made m e f =
        ap₂ {C = Outcome Made} (λ (x y : ℕ). value (record { size = x; accepted = y })) e f
        ∙ sym (ap (λ (b : Bool). given b (build_refusal bytes ends (length ids) (length places) (length buffer))) none)

abbrev is_made : Outcome Made → ℕ
is_made (value m) = 1
is_made (refusal k) = 0

-- a refusal has a number
pub refused_some : (mode : Mode) (repeats : Repeats) (buffer bytes ends ids : List ℕ) (places k : ℕ)
    → building mode repeats buffer bytes ends ids places ≡ refusal k → 0 < build_refusal bytes ends (length ids) places (length buffer)
unfolding building
refused_some mode repeats buffer bytes ends ids places k e = numbered (ltb 0 due) refl e
  where
    due : ℕ
    due = build_refusal bytes ends (length ids) places (length buffer)

    numbered : (b : Bool) → ltb 0 due ≡ b → cond b (refusal due) (value (made_of mode repeats buffer (listed bytes ends ids))) ≡ refusal k → 0 < due
    numbered true p q = ltb-true 0 due p
    numbered false p q = let z : ◌≡◌ {A = ℕ} 1 0 = ap is_made q in absurd (omega arith)

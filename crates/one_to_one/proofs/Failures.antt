-- The first failure of a list of entries: its steps, and what it says. Assumes nothing.
use Prim.Native.Nat.{ℕ, ◌+◌}
use native.Mathlib.Omega.{arith}
use mathlib.Core.Path.{◌≡◌, refl, sym, ap, ap₂, ◌∙◌}
use mathlib.Core.Bool.{Bool, true, false, cond}
use mathlib.Core.List.{List, [], ◌∷◌, ◌++◌}
use mathlib.Core.Option.{Option, none, some}
use lib.Dec.{eqb}
use borrow.Author.Tests.{eq-eqb, ne_eqb, eqb-true}
use Rattle.image.specs.Image.{Entry, entry_size, entries_size}
use Rattle.image.proofs.AllOfList.{All}
use Rattle.one_to_one.specs.OneToOne.{Failure, first_failure}

abbrev pub failure : ℕ → ℕ → Failure
failure kind o = record { kind = kind; offset = o }

module _ (kind : Entry → ℕ) where
  -- an entry that does not fail is passed, another ends the search
  pub passes : (o : ℕ) (e : Entry) (es : List Entry) → kind e ≡ 0
      → first_failure kind o (e ∷ es) ≡ first_failure kind (o + entry_size e) es
  unfolding first_failure
  passes o e es z =
      ap (λ (t : Bool). cond t (first_failure kind (o + entry_size e) es) (some (failure (kind e) o))) (eq-eqb (kind e) 0 z)

  pub ends : (o : ℕ) (e : Entry) (es : List Entry) (k : ℕ) → kind e ≡ k → ¬ (k ≡ 0)
      → first_failure kind o (e ∷ es) ≡ some (failure k o)
  unfolding first_failure
  ends o e es k h n =
      ap (λ (t : Bool). cond t (first_failure kind (o + entry_size e) es) (some (failure (kind e) o)))
      (ne_eqb (kind e) 0 (λ z. n (sym h ∙ z)))
      ∙ ap (λ (x : ℕ). some (failure x o)) h

  -- after entries that do not fail
  pub after_passed : (o : ℕ) (before : List Entry) (e : Entry) (es : List Entry) (k : ℕ)
      → All (λ (x : Entry). kind x ≡ 0) before → kind e ≡ k → ¬ (k ≡ 0)
      → first_failure kind o (before ++ e ∷ es) ≡ some (failure k (o + entries_size before))
  unfolding entries_size
  after_passed o [] e es k all h n =
      let z : o ≡ o + 0 = omega arith in
      ends o e es k h n ∙ ap (λ (x : ℕ). some (failure k x)) z
  after_passed o (x ∷ before) e es k all h n =
      let s : (o + entry_size x) + entries_size before ≡ o + (entry_size x + entries_size before) = omega arith in
      passes o x (before ++ e ∷ es) all.0
      ∙ after_passed (o + entry_size x) before e es k all.1 h n
      ∙ ap (λ (y : ℕ). some (failure k y)) s

  pub none_fails : (o : ℕ) (es : List Entry) → All (λ (x : Entry). kind x ≡ 0) es → first_failure kind o es ≡ none
  unfolding first_failure
  none_fails o [] all = refl
  none_fails o (e ∷ es) all = passes o e es all.0 ∙ none_fails (o + entry_size e) es all.1

  -- where nothing fails, no entry does
  pub all_pass : (o : ℕ) (es : List Entry) → first_failure kind o es ≡ none → All (λ (x : Entry). kind x ≡ 0) es
  unfolding first_failure
  all_pass o [] h = tt
  all_pass o (e ∷ es) h = first_passes (all_pass (o + entry_size e) es) (eqb (kind e) 0) refl h
    where
      first_passes : (first_failure kind (o + entry_size e) es ≡ none → All (λ (x : Entry). kind x ≡ 0) es)
          → (t : Bool) → eqb (kind e) 0 ≡ t
          → cond t (first_failure kind (o + entry_size e) es) (some (failure (kind e) o)) ≡ none
          → All (λ (x : Entry). kind x ≡ 0) (e ∷ es)
      first_passes rest true t q = (eqb-true (kind e) 0 t, rest q)
      first_passes rest false t q = let z : ◌≡◌ {A = ℕ} 0 1 = cc in absurd (omega arith)

-- kinds that agree on every entry
pub same_kinds : (kind other : Entry → ℕ) → ((e : Entry) → kind e ≡ other e) → (o : ℕ) (es : List Entry)
    → first_failure kind o es ≡ first_failure other o es
unfolding first_failure
same_kinds kind other h o [] = refl
same_kinds kind other h o (e ∷ es) =
    ap₂ (λ (k : ℕ) (r : Option Failure). cond (eqb k 0) r (some (failure k o))) (h e) (same_kinds kind other h (o + entry_size e) es)

-- What close answers in each case, in the order of its checks. Assumes nothing.
use Prim.Native.Nat.{ℕ}
use native.Mathlib.Omega.{arith}
use mathlib.Core.Path.{◌≡◌, refl, sym, ap, ◌∙◌}
use mathlib.Core.Bool.{Bool, true, false, cond, not, ◌&&◌, and-false, and-true}
use mathlib.Core.List.{List}
use borrow.Author.Tests.{ne_eqb}
use Rattle.jhash.specs.Outcome.{value, refusal}
use Rattle.writer.specs.State.{State, state_with, fits, finished_size, too_large}
use Rattle.writer.specs.Close.{consistent, close_refusal, closed_size, closed, after_close, closing}

module _ (s : State) where
  -- a refusal has its number, and changes nothing
  pub refused : (r : ℕ) → r ≡ close_refusal s → (r ≡ 0 → ⊥) → (refusal r ≡ closing s) × (s ≡ after_close s)
  unfolding closing after_close
  refused r e n = rw (ne_eqb (close_refusal s) 0 (λ z. n (e ∙ z)), sym e) (refl, refl)

  pub closes : fits s ≡ true → too_large s.writer.length (finished_size s.writer) ≡ false → consistent s ≡ true
      → (value (closed_size s) ≡ closing s) × (closed s ≡ after_close s)
  unfolding close_refusal closing after_close
  closes h k l = rw (h, k, l) (refl, refl)

  -- the number of its refusal
  pub due_unfit : fits s ≡ false → 2 ≡ close_refusal s
  unfolding close_refusal
  due_unfit h = rw h refl

  pub due_big : fits s ≡ true → too_large s.writer.length (finished_size s.writer) ≡ true → 4 ≡ close_refusal s
  unfolding close_refusal
  due_big h k = rw (h, k, and-false (consistent s)) refl

  pub due_rest : fits s ≡ true → too_large s.writer.length (finished_size s.writer) ≡ false → (r : ℕ)
      → r ≡ cond (consistent s) 0 4 → r ≡ close_refusal s
  unfolding close_refusal
  due_rest h k r e = rw (h, k, and-true (consistent s)) e

-- what an accepted close has passed
pub record Accepted (s : State) : Type 0 where
  pub fit : fits s ≡ true
  pub fine : too_large s.writer.length (finished_size s.writer) ≡ false
  pub all : consistent s ≡ true

pub accepted : (s : State) → close_refusal s ≡ 0 → Accepted s
unfolding close_refusal
accepted s e = all_passed (fits s) (consistent s) (too_large s.writer.length (finished_size s.writer)) refl refl refl e
  where
    all_passed : (f c t : Bool) → fits s ≡ f → consistent s ≡ c → too_large s.writer.length (finished_size s.writer) ≡ t
        → ◌≡◌ {A = ℕ} (cond (not f) 2 (cond (c && not t) 0 4)) 0 → Accepted s
    all_passed true true false p q r z = record { fit = p; fine = r; all = q }
    all_passed true true true p q r z = absurd (omega arith)
    all_passed true false t p q r z = absurd (omega arith)
    all_passed false c t p q r z = absurd (omega arith)

rejoined : (s : State) → state_with s.writer s.counts (closed s).buffer ≡ closed s
unfolding closed
rejoined s = refl

-- a buffer that an accepted close has written
pub written : (s : State) (size : ℕ) (b : List ℕ) → close_refusal s ≡ 0 → size ≡ closed_size s → b ≡ (after_close s).buffer
    → (value size ≡ closing s) × (state_with s.writer s.counts b ≡ after_close s)
written s size b z e f =
    let a = accepted s z in
    let c = closes s a.fit a.fine a.all in
    (ap value e ∙ c.0, ap (state_with s.writer s.counts) (f ∙ ap (λ (t : State). t.buffer) (sym c.1)) ∙ rejoined s ∙ c.1)

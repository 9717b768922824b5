-- The step from bucket to bucket needs no division. Assumes nothing.
use Rattle.std.proofs.Common.{◌≡◌, ℕ, ◌+◌, ◌%◌, ◌<◌, sym, ap, ◌∙◌, mod-eq_of_lt}
use native.Mathlib.Nat.{mod_self}
use Rattle.image.specs.Tables.{next}

pub next_inside : (n k : ℕ) → k + 1 < n → k + 1 ≡ next n k
next_inside n k h = sym (mod-eq_of_lt h)

pub next_wraps : (n k : ℕ) → k + 1 ≡ n → 0 ≡ next n k
next_wraps n k e = sym (ap (λ (m : ℕ). m % n) e ∙ mod_self n)

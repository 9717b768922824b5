-- What a call gives is a value or a refusal, never both, and equal ones hold the same. For the crates above. Assumes nothing.
use Rattle.std.proofs.Common.{◌≡◌, ℕ, ap, arith}
use Rattle.jhash.specs.Outcome.{Outcome, value, refusal}

pub no_value : {A : Type 0} (k : ℕ) (x : A) → refusal k ≡ value x → ⊥
no_value {A} k x e = let z : ◌≡◌ {A = ℕ} 0 1 = ap marked e in omega arith
  where
    marked : Outcome A → ℕ
    marked (value y) = 1
    marked (refusal n) = 0

pub same_value : {A : Type 0} (x y : A) → value x ≡ value y → x ≡ y
same_value {A} x y e = ap held e
  where
    held : Outcome A → A
    held (value z) = z
    held (refusal n) = x

pub same_refusal : {A : Type 0} (j k : ℕ) → ◌≡◌ {A = Outcome A} (refusal j) (refusal k) → j ≡ k
same_refusal {A} j k e = ap number e
  where
    number : Outcome A → ℕ
    number (value x) = 0
    number (refusal n) = n

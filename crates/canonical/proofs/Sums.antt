-- Sums of f 0 up to f (n - 1), and how many of these numbers are a or more. Assumes nothing.
use Prim.Native.Nat.{ℕ, zero, suc, ◌+◌, ◌≤◌, ◌<◌}
use native.Mathlib.Omega.{arith}
use native.Mathlib.Decide.{dec_le, ℕ_discrete}
use mathlib.Core.Path.{◌≡◌, refl, sym, ap₂}
use mathlib.Core.Bool.{Bool, true, false, cond}
use mathlib.Core.List.{List, [], ◌∷◌}
use borrow.Author.Tests.{le-leb, lt-leb}
use Rattle.canonical.specs.Steps.HiddenBuckets.{sum_to, bit, used_to, Rising}

pub bit_yes : (a x : ℕ) → a ≤ x → bit a x ≡ 1
bit_yes a x h = rw (le-leb a x h)

pub bit_no : (a x : ℕ) → x < a → bit a x ≡ 0
bit_no a x h = rw (lt-leb a x h)

pub one_at_most : (t : Bool) → cond t 1 0 ≤ 1
one_at_most true = omega arith
one_at_most false = omega arith

pub bit_mono : (a b x : ℕ) → a ≤ b → bit b x ≤ bit a x
bit_mono a b x h =
    elim (dec_le b x) [
      | yes k ↦ omega (arith, bit_yes a x (omega arith), bit_yes b x k)
      | no k ↦ omega (arith, bit_no b x (omega arith))
    ]

-- what rises from b on rises from every smaller number on
pub rising_less : (a b : ℕ) (l : List ℕ) → a ≤ b → Rising b l → Rising a l
rising_less a b [] h r = tt
rising_less a b (x ∷ l) h r = (let k = r.0 in omega arith, r.1)

module _ (f : ℕ → ℕ) where
  pub sum_zero : (n : ℕ) → ((k : ℕ) → f k ≡ 0) → sum_to f n ≡ 0
  unfolding sum_to
  sum_zero zero h = refl
  sum_zero (suc n) h = omega (arith, h n, sum_zero n h)

  -- fewer than n numbers are above 0: one is 0
  pub used_room : (n : ℕ) → used_to f n < n → (k : ℕ) × (k < n) × (f k ≡ 0)
  unfolding sum_to
  used_room zero h = absurd (omega arith)
  used_room (suc n) h = elim (ℕ_discrete (f n) 0) [
    | yes z ↦ (n, omega arith, z)
    | no z ↦ let (k, l, e) = used_room n (omega (arith, bit_yes 1 (f n) (omega arith))) in (k, omega arith, e)
  ]

module _ (f g : ℕ → ℕ) where
  pub sum_same : (n : ℕ) → ((k : ℕ) → k < n → f k ≡ g k) → sum_to f n ≡ sum_to g n
  unfolding sum_to
  sum_same zero h = refl
  sum_same (suc n) h = ap₂ ◌+◌ (sum_same n (λ k l. h k (omega arith))) (h n (omega arith))

  sum_mono : (n : ℕ) → ((k : ℕ) → k < n → f k ≤ g k) → sum_to f n ≤ sum_to g n
  unfolding sum_to
  sum_mono zero h = omega arith
  sum_mono (suc n) h = omega (arith, h n (omega arith), sum_mono n (λ k l. h k (omega arith)))

  -- g has d more at j, and elsewhere the same
  pub sum_more : (j d n : ℕ) → j < n → g j ≡ f j + d → ((k : ℕ) → (k ≡ j → ⊥) → f k ≡ g k) → sum_to g n ≡ sum_to f n + d
  unfolding sum_to
  sum_more j d zero h here other = absurd (omega arith)
  sum_more j d (suc n) h here other = elim (ℕ_discrete j n) [
    | yes e ↦ let rest = sum_same n (λ k l. other k (λ z. omega arith)) in let last : g n ≡ f n + d = rw e at here in omega arith
    | no e ↦ omega (arith, sum_more j d n (omega arith) here other, other n (λ z. e (sym z)))
  ]

  -- no number of f is above g's: where the sums are equal, all are
  pub sum_equal : (n : ℕ) → ((k : ℕ) → k < n → f k ≤ g k) → sum_to f n ≡ sum_to g n → (k : ℕ) → k < n → f k ≡ g k
  unfolding sum_to
  sum_equal zero le e k h = absurd (omega arith)
  sum_equal (suc n) le e k h =
      let last = le n (omega arith) in
      let rest = sum_mono n (λ k l. le k (omega arith)) in
      elim (ℕ_discrete k n) [
        | yes z ↦ rw z (omega arith)
        | no z ↦ sum_equal n (λ k l. le k (omega arith)) (omega arith) k (omega arith)
      ]

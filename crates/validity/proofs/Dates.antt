-- What decides whether a date exists, and which of two comes first. Assumes nothing.
use mathlib.Core.Path.{◌≡◌, refl, sym, ◌∙◌}
use mathlib.Core.Logic.{◌⊎◌, inl, inr}
use Prim.Native.Nat.{ℕ, ◌≤◌, ◌<◌}
use native.Mathlib.Omega.{arith}
use native.Mathlib.Decide.{ℕ_discrete, dec_lt}
use mathlib.Core.Bool.{true, false}
use lib.Dec.{ltb, leb}
use borrow.Author.Tests.{ltb-true, lt-ltb, le-ltb, le-leb, eq-eqb, ne_eqb}
use Rattle.validity.specs.Calendar.{month_length, is_date, earlier}
use Rattle.validity.specs.declared.Date.{Date}

module _ (d : Date) where
  -- in a year within the bounds, from the first day of the month on, its last day decides
  pub by_last_day : 1900 ≤ d.year → d.year ≤ 2199 → 1 ≤ d.day → leb d.day (month_length d.year d.month) ≡ is_date d
  unfolding is_date
  by_last_day low high day = simp (le-leb 1900 d.year low, le-leb d.year 2199 high, le-leb 1 d.day day)

module _ (a b : Date) where
  pub by_year : ¬ (a.year ≡ b.year) → earlier a b ≡ ltb a.year b.year
  unfolding earlier
  by_year n = simp (ne_eqb a.year b.year n)

  module _ (year : a.year ≡ b.year) where
    pub by_month : ¬ (a.month ≡ b.month) → earlier a b ≡ ltb a.month b.month
    unfolding earlier
    by_month n = simp (eq-eqb a.year b.year year, ne_eqb a.month b.month n)

    pub by_day : a.month ≡ b.month → earlier a b ≡ ltb a.day b.day
    unfolding earlier
    by_day month = simp (eq-eqb a.year b.year year, eq-eqb a.month b.month month)

  -- a is before b: in an earlier year, or in its year in an earlier month, or in its month on an earlier day
  abbrev Before : Type 0
  Before = (a.year < b.year) ⊎ ((a.year ≡ b.year) × ((a.month < b.month) ⊎ ((a.month ≡ b.month) × (a.day < b.day))))

  before : earlier a b ≡ true → Before
  before t =
      elim (ℕ_discrete a.year b.year) [
        | yes e ↦
            inr (
              e,
              elim (ℕ_discrete a.month b.month) [
                | yes f ↦ inr (f, ltb-true a.day b.day (sym (by_day e f) ∙ t))
                | no n ↦ inl (ltb-true a.month b.month (sym (by_month e n) ∙ t))
              ],
            )
        | no n ↦ inl (ltb-true a.year b.year (sym (by_year n) ∙ t))
      ]

  comes_first : Before → earlier a b ≡ true
  comes_first (inl h) = by_year (λ e. omega arith) ∙ lt-ltb a.year b.year h
  comes_first (inr (e, inl h)) = by_month e (λ f. omega arith) ∙ lt-ltb a.month b.month h
  comes_first (inr (e, inr (f, h))) = by_day e f ∙ lt-ltb a.day b.day h

-- ---- the order is strict and total
pub irreflexive : (a : Date) → earlier a a ≡ false
irreflexive a = by_day a a refl refl ∙ le-ltb a.day a.day (omega arith)

pub transitive : (a b c : Date) → earlier a b ≡ true → earlier b c ≡ true → earlier a c ≡ true
transitive a b c p q = comes_first a c (through (before a b p) (before b c q))
  where
    through : Before a b → Before b c → Before a c
    through (inl h) (inl k) = inl (omega arith)
    through (inl h) (inr (f, k)) = inl (omega (arith, h, f))
    through (inr (e, h)) (inl k) = inl (omega (arith, e, k))
    through (inr (e, inl h)) (inr (f, inl k)) = inr (e ∙ f, inl (omega arith))
    through (inr (e, inl h)) (inr (f, inr (g, k))) = inr (e ∙ f, inl (omega (arith, h, g)))
    through (inr (e, inr (i, h))) (inr (f, inl k)) = inr (e ∙ f, inl (omega (arith, i, k)))
    through (inr (e, inr (i, h))) (inr (f, inr (j, k))) = inr (e ∙ f, inr (i ∙ j, omega arith))

pub total : (a b : Date) → (earlier a b ≡ true) ⊎ ((a ≡ b) ⊎ (earlier b a ≡ true))
total a b =
    elim (ℕ_discrete a.year b.year) [
      | yes e ↦
          elim (ℕ_discrete a.month b.month) [
            | yes f ↦
                elim (ℕ_discrete a.day b.day) [
                  | yes g ↦ inr (inl (λ i. record { year = e i; month = f i; day = g i }))
                  | no n ↦ one a.day b.day n (by_day a b e f) (by_day b a (sym e) (sym f))
                ]
            | no n ↦ one a.month b.month n (by_month a b e n) (by_month b a (sym e) (λ f. n (sym f)))
          ]
      | no n ↦ one a.year b.year n (by_year a b n) (by_year b a (λ e. n (sym e)))
    ]
  where
    one : (m n : ℕ) → ¬ (m ≡ n) → earlier a b ≡ ltb m n → earlier b a ≡ ltb n m → (earlier a b ≡ true) ⊎ ((a ≡ b) ⊎ (earlier b a ≡ true))
    one m n d p q =
        elim (dec_lt m n) [
          | yes h ↦ inl (p ∙ lt-ltb m n h)
          | no h ↦ inr (inr (q ∙ lt-ltb n m (omega arith)))
        ]

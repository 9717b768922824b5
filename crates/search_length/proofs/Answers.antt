-- The answers, from the number of entries, the refusal and the counts. Assumes nothing.
use Prim.Native.Nat.{ℕ, ◌/◌, ◌%◌, ◌<◌}
use native.Mathlib.Omega.{arith}
use native.Mathlib.Decide.{dec_lt}
use mathlib.Core.Path.{◌≡◌, refl, sym, ap, ap₂, ◌∙◌}
use mathlib.Core.Bool.{Bool, true, false, cond}
use mathlib.Core.List.{List}
use lib.Dec.{eqb}
use borrow.Author.Tests.{eq-eqb, ne_eqb}
use Rattle.jhash.specs.Outcome.{Outcome, value, refusal}
use Rattle.image.proofs.Bools.{false_not_true}
use Rattle.reader.specs.Open.{opening}
use Rattle.canonical.specs.Canonical.{canonical, counted}
use Rattle.canonical.proofs.EntriesAhead.{puts_number}
use Rattle.search_length.specs.declared.AverageLength.{AverageLength}
use Rattle.search_length.specs.Steps.Contracts.{SomeEntries, ImageRefused, Counted}
use Rattle.jhash.specs.Refusals.{number_of}
use Rattle.jhash.proofs.Outcomes.{number_some}
use Rattle.jhash.specs.declared.refusals.Refusal.{Refusal}
use Rattle.jhash.specs.declared.refusals.Refusal.TheVariants.{NotCanonical, NoEntries}
use Rattle.search_length.specs.Average.{entry_count, first_refusal, average_refusal, average_of, averaging, lengths_of, after_lengths, Lengths}

-- no refusal: the image is canonical, and there are entries
pub first_zero : (own : Bool) (n : ℕ) → first_refusal own n ≡ 0 → (own ≡ true) × (0 < n)
first_zero true n e = (refl, not_empty (eqb n 0) refl e)
  where
    not_empty : (t : Bool) → eqb n 0 ≡ t → ◌≡◌ {A = ℕ} (cond t 18 0) 0 → 0 < n
    not_empty true a b = absurd (omega arith)
    not_empty false a b = above n a
      where
        above : (k : ℕ) → eqb k 0 ≡ false → 0 < k
        above k h = elim (dec_lt 0 k) [
          | yes p ↦ p
          | no p ↦ let z : k ≡ 0 = omega arith in absurd (false_not_true (sym (sym (eq-eqb k 0 z) ∙ h)))
        ]
first_zero false n e = absurd (omega arith)

-- ---- what both calls ask first: whether the image is canonical, and the number of its entries

module _ (image : List ℕ) {n : ℕ} {own : Bool} (number : n ≡ counted (opening image)) (canonical_is : own ≡ canonical image) where
  refusal_is : {a : Bool} {k : ℕ} → own ≡ a → n ≡ k → first_refusal a k ≡ average_refusal image
  unfolding average_refusal
  refusal_is e f = rw (← e, ← f) (ap₂ first_refusal canonical_is (number ∙ sym (puts_number image)))

  pub not_canonical : own ≡ false → ImageRefused image NotCanonical
  not_canonical e = refusal_is e refl

  pub no_entries : own ≡ true → n ≡ 0 → ImageRefused image NoEntries
  no_entries e z = refusal_is e z

  pub some_entries : own ≡ true → (n ≡ 0 → ⊥) → SomeEntries image n
  some_entries e d = record { own = record { canonical = sym canonical_is ∙ e; number = number }; some = omega arith }

-- ---- an image that is refused

module _ (image : List ℕ) (r : Refusal) (f : ImageRefused image r) where
  one_refused : false ≡ eqb (average_refusal image) 0
  one_refused = sym (ap (λ (k : ℕ). eqb k 0) (sym f) ∙ ne_eqb (number_of r) 0 (number_some r))

  pub refused : refusal (number_of r) ≡ averaging image
  unfolding averaging
  refused =
      ap (λ (k : ℕ). refusal k) f
      ∙ ap (λ (t : Bool). cond t (value (average_of image)) (refusal (average_refusal image))) one_refused

  -- the list stays as it was
  pub refused_lengths : (counts : List ℕ) → Lengths image counts counts (number_of r)
  unfolding after_lengths
  refused_lengths counts =
      record { answer = f; leaves = ap (λ (t : Bool). cond t (lengths_of image) counts) one_refused }

-- ---- one that is accepted

module _ {image : List ℕ} {n : ℕ} (s : SomeEntries image n) where
  number_is : n ≡ entry_count image
  number_is = s.own.number ∙ sym (puts_number image)

  not_refused : 0 ≡ average_refusal image
  unfolding average_refusal
  not_refused =
      rw (s.own.canonical, ← number_is, ne_eqb n 0 (λ z. omega (arith, s.some)))

  none_refused : true ≡ eqb (average_refusal image) 0
  none_refused = ap (λ (k : ℕ). eqb k 0) not_refused

  pub averaged : {counts : List ℕ} {sum : ℕ} → Counted image counts sum
      → value (record { entries = n; quotient = sum / n; remainder = sum % n }) ≡ averaging image
  unfolding averaging
  averaged c =
      ap₂ average_from c.total number_is
      ∙ ap (λ (t : Bool). cond t (value (average_of image)) (refusal (average_refusal image))) none_refused
    where
      average_from : ℕ → ℕ → Outcome AverageLength
      average_from s k = value (record { entries = k; quotient = s / k; remainder = s % k })

  pub filled_lengths : (counts : List ℕ) {after : List ℕ} {sum : ℕ} → Counted image after sum → Lengths image counts after 0
  unfolding after_lengths
  filled_lengths counts c =
      record { answer = not_refused; leaves = c.lengths ∙ ap (λ (t : Bool). cond t (lengths_of image) counts) none_refused }

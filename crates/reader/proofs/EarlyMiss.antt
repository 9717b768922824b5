-- A search that meets an empty bucket among its first three, and before it no bucket with its hash. Assumes nothing.
use Rattle.std.proofs.Common.{◌≡◌, ℕ, zero, suc, ◌+◌, ◌-◌, ◌*◌, ◌<◌, ◌≤◌, true, false, List, sym, refl, ap, ◌∙◌, arith, eq-eqb, ne_eqb}
use native.Mathlib.Decide.{dec_lt}
use Rattle.image.specs.Bytes.{word}
use Rattle.image.specs.Tables.{next}
use Rattle.image.proofs.ProbeStep.{next_inside, next_wraps}
use Rattle.reader.specs.Lookup.{nothing, pass, ends, search_table}
use Rattle.reader.specs.Steps.Resume.{search_rest}
use Rattle.reader.specs.Steps.Search.{EarlyMissPre, FirstZero}
use Rattle.reader.proofs.Searches.{probe_bucket_by, rest_start, rest_step}

-- ---- among fewer than three buckets a search comes back to where it was

one_bucket : (n k : ℕ) → k < n → n < 2 → next n k ≡ k
one_bucket n k h l = let e = next_wraps n k (omega arith) in omega (arith, e)

two_buckets : (n k : ℕ) → k < n → n < 3 → next n (next n k) ≡ k
two_buckets n k h l = elim (dec_lt (k + 1) n) [
  | yes p ↦
      let e = next_inside n k p in
      let f = next_wraps n (next n k) (omega arith) in omega arith
  | no p ↦
      let e = next_wraps n k (omega arith) in
      elim (dec_lt 1 n) [
        | yes q ↦ let f = next_inside n (next n k) (omega arith) in omega arith
        | no q ↦ let f = one_bucket n k h (omega arith) in ap (next n) f ∙ f
      ]
]

module _ (image name : List ℕ) (h o n : ℕ) where
  -- the two words of bucket j
  abbrev hash : ℕ → ℕ
  hash j = word image (o + 8 * j)

  abbrev offset : ℕ → ℕ
  offset j = word image (o + 8 * j + 4)

  -- a step at an empty bucket, and at one with another hash
  empty_ends : (j m : ℕ) → 0 < m → m ≤ n → offset j ≡ 0 → search_rest image name h o n j m ≡ nothing (n - (m - 1))
  empty_ends j m l f e =
      sym (rest_step image name h o n j m ends l f (probe_bucket_by image name (offset j) h (o + 8 * j) true _ refl (eq-eqb (offset j) 0 e) refl))

  other_passes : (j m : ℕ) → 0 < m → m ≤ n → 0 < offset j → (hash j ≡ h → ⊥) → search_rest image name h o n j m
      ≡ search_rest image name h o n (next n j) (m - 1)
  other_passes j m l f p d =
      sym
      (rest_step image name h o n j m pass l f
      (probe_bucket_by image name (offset j) h (o + 8 * j) false false refl (ne_eqb (offset j) 0 (λ e. omega arith)) (ne_eqb (hash j) h d)))

  -- buckets differ where their offsets do
  distinct : (j k : ℕ) → 0 < offset j → offset k ≡ 0 → k ≡ j → ⊥
  distinct j k p e q = let f = ap offset q in omega arith

  module _ {k : ℕ} (pre : EarlyMissPre image h o n k) where
    whole : search_table image name h o n ≡ search_rest image name h o n k n
    whole = sym (ap (λ (j : ℕ). search_rest image name h o n j n) pre.starts ∙ rest_start image name h o n)

    at_first : offset k ≡ 0 → search_table image name h o n ≡ nothing 1
    at_first z = let r : n - (n - 1) ≡ 1 = omega arith in whole ∙ empty_ends k n (omega arith) (omega arith) z ∙ ap nothing r

    at_second : (hash k ≡ h → ⊥) → 0 < offset k → offset (next n k) ≡ 0 → search_table image name h o n ≡ nothing 2
    at_second d p z = elim (dec_lt 1 n) [
      | yes q ↦
          let r : n - (n - 1 - 1) ≡ 2 = omega arith in
          whole ∙ other_passes k n (omega arith) (omega arith) p d ∙ empty_ends (next n k) (n - 1) (omega arith) (omega arith) z ∙ ap nothing r
      | no q ↦ absurd (distinct k (next n k) p z (one_bucket n k pre.bucket (omega arith)))
    ]

    at_third : (hash k ≡ h → ⊥) → (hash (next n k) ≡ h → ⊥) → 0 < offset k → 0 < offset (next n k) → offset (next n (next n k)) ≡ 0
        → search_table image name h o n ≡ nothing 3
    at_third d₀ d₁ p₀ p₁ z = elim (dec_lt 2 n) [
      | yes q ↦
          let r : n - (n - 1 - 1 - 1) ≡ 3 = omega arith in
          whole
          ∙ other_passes k n (omega arith) (omega arith) p₀ d₀
          ∙ other_passes (next n k) (n - 1) (omega arith) (omega arith) p₁ d₁
          ∙ empty_ends (next n (next n k)) (n - 1 - 1) (omega arith) (omega arith) z
          ∙ ap nothing r
      | no q ↦ absurd (distinct k (next n (next n k)) p₀ z (two_buckets n k pre.bucket (omega arith)))
    ]

    -- by the first offset that is 0; x, y, z are those in the first three buckets k, i, j
    pub early_miss : (i j x y z : ℕ) → i ≡ next n k → j ≡ next n i → x ≡ offset k → y ≡ offset i → z ≡ offset j → (hash k ≡ h → ⊥) → (hash i ≡ h → ⊥)
        → (r : ℕ) → FirstZero x y z r → search_table image name h o n ≡ nothing r
    early_miss i j x y z ei ej ex ey ez d₀ d₁ = by_first_zero
      where
        second : offset (next n k) ≡ y
        second = ap offset (sym ei) ∙ sym ey

        third : offset (next n (next n k)) ≡ z
        third = ap (λ (b : ℕ). offset (next n b)) (sym ei) ∙ ap offset (sym ej) ∙ sym ez

        by_first_zero : (r : ℕ) → FirstZero x y z r → search_table image name h o n ≡ nothing r
        by_first_zero zero f = absurd (omega (arith, f.some))
        by_first_zero (suc zero) f = at_first (sym ex ∙ f.first refl)
        by_first_zero (suc (suc zero)) f = let g = f.second refl in at_second d₀ (omega (arith, g.0, ex)) (second ∙ g.1)
        by_first_zero (suc (suc (suc zero))) f =
            let g = f.third refl in
            at_third d₀ (λ q. d₁ (ap hash ei ∙ q)) (omega (arith, g.0, ex)) (omega (arith, g.1, second)) (third ∙ g.2)
        by_first_zero (suc (suc (suc (suc r)))) f = absurd (omega (arith, f.few))

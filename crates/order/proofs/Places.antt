-- The rule by places (`specs/Theorems/Places`), one id of the round and one pair of the list at a time; so it is the rule that is computed. Assumes nothing.
use mathlib.Core.Path.{◌≡◌, refl, sym, ap, subst, ◌∙◌}
use mathlib.Core.Logic.{◌↔◌, ◌⊎◌, inl, inr}
use Prim.Native.Nat.{ℕ, zero, suc, ◌+◌, ◌<◌}
use native.Mathlib.Omega.{arith}
use native.Mathlib.Decide.{ℕ_discrete}
use mathlib.Core.Bool.{Bool, true, false, true≢false}
use mathlib.Core.List.{List, [], ◌∷◌}
use mathlib.Core.Option.{none, some}
use Rattle.order.specs.Rule.{occurs, kept, all_kept, fails_at, ordered_from}
use Rattle.order.specs.Theorems.Places.{At, FirstAt, PairKept, AllKept, FailsFirst}
use Rattle.order.specs.declared.Pair.{Pair}
use Rattle.order.proofs.PairLaws.{at_wall, at_reference, at_other, ordered_kept, ordered_fails}

-- nothing stands past the end, and one thing at a place
pub nothing_there : {A : Type 0} {x : A} → ¬ (none ≡ some x)
nothing_there e = let z : ◌≡◌ {A = ℕ} 0 1 = cc in omega arith

pub stands : {A : Type 0} {x y : A} → some x ≡ some y → x ≡ y
stands e = cc

-- an answer is one answer
not_both : {m : ℕ} → ¬ (fails_at m ≡ all_kept)
not_both e = let z : ◌≡◌ {A = ℕ} 0 1 = cc in omega arith

same_place : {m n : ℕ} → fails_at m ≡ fails_at n → m ≡ n
same_place e = cc

decided : (b : Bool) → (b ≡ true) ⊎ (b ≡ false)
decided true = inl refl
decided false = inr refl

below_none : {i : ℕ} → ¬ (i < 0)
below_none h = omega arith

-- ---- the round's first id is the wall prism, the reference, or neither
module _ (p : Pair) (x : ℕ) (xs : List ℕ) where
  wall_first : x ≡ p.wall → ¬ PairKept p (x ∷ xs)
  wall_first e k = let found = k 0 (ap some e, λ i h a. omega arith) in omega (arith, found.1)

  reference_first : ¬ (x ≡ p.wall) → x ≡ p.reference → PairKept p (x ∷ xs)
  reference_first n e zero f = absurd (n (stands f.0))
  reference_first n e (suc j) f = (0, omega arith, ap some e)

  module _ (n : ¬ (x ≡ p.wall)) (m : ¬ (x ≡ p.reference)) where
    later : (j : ℕ) → FirstAt xs p.wall j → FirstAt (x ∷ xs) p.wall (suc j)
    later j f = (f.0, elim [ zero ↦ λ h a. n (stands a) | suc i ↦ λ h a. f.1 i (omega arith) a ])

    sooner : (j : ℕ) → ((i : ℕ) × (i < suc j) × At (x ∷ xs) p.reference i) → (i : ℕ) × (i < j) × At xs p.reference i
    sooner j (zero, h, a) = absurd (m (stands a))
    sooner j (suc i, h, a) = (i, omega arith, a)

    other_down : PairKept p (x ∷ xs) → PairKept p xs
    other_down k j f = sooner j (k (suc j) (later j f))

    other_up : PairKept p xs → PairKept p (x ∷ xs)
    other_up k zero f = absurd (n (stands f.0))
    other_up k (suc j) f =
        let found = k j (f.0, λ i h a. f.1 (suc i) (omega arith) a) in (suc found.0, omega (arith, found.1), found.2)

-- the two rules are one
pub same : (p : Pair) (round : List ℕ) → (kept p round ≡ true) ↔ PairKept p round
unfolding kept occurs
same p [] = (λ k j f. absurd (nothing_there f.0), λ k. refl)
same p (x ∷ xs) =
    elim (ℕ_discrete x p.wall) [
      | yes e ↦ (λ k. absurd (true≢false (sym k ∙ at_wall p x xs e)), λ k. absurd (wall_first p x xs e k))
      | no n ↦
          elim (ℕ_discrete x p.reference) [
            | yes e ↦ (λ k. reference_first p x xs n e, λ k. at_reference p x xs n e)
            | no m ↦
                (let on = at_other p x xs n m in
                (λ k. other_up p x xs n m ((same p xs).0 (sym on ∙ k)), λ k. on ∙ (same p xs).1 (other_down p x xs n m k)))
          ]
    ]

-- ---- the list's first pair is kept, or fails
module _ (p : Pair) (ps : List Pair) (round : List ℕ) where
  all_cons : PairKept p round → AllKept ps round → AllKept (p ∷ ps) round
  all_cons k ks zero q a = subst (λ (r : Pair). PairKept r round) (stands a) k
  all_cons k ks (suc i) q a = ks i q a

  first_fails : ¬ PairKept p round → FailsFirst (p ∷ ps) round 0
  first_fails f = record { pair = p; here = refl; fails = f; least = λ i q h a. absurd (below_none h) }

  fails_later : PairKept p round → (k : ℕ) → FailsFirst ps round k → FailsFirst (p ∷ ps) round (suc k)
  fails_later kp k f = record { pair = f.pair; here = f.here; fails = f.fails; least = least }
    where
      least : (i : ℕ) (q : Pair) → i < suc k → At (p ∷ ps) q i → PairKept q round
      least zero q h a = subst (λ (r : Pair). PairKept r round) (stands a) kp
      least (suc i) q h a = f.least i q (omega arith) a

  fails_tail : (k : ℕ) → FailsFirst (p ∷ ps) round (suc k) → FailsFirst ps round k
  fails_tail k f = record { pair = f.pair; here = f.here; fails = f.fails; least = λ i q h a. f.least (suc i) q (omega arith) a }

  not_first : PairKept p round → ¬ FailsFirst (p ∷ ps) round 0
  not_first kp f = f.fails (subst (λ (r : Pair). PairKept r round) (stands f.here) kp)

-- a computed no is a no by places
fails_so : (p : Pair) (round : List ℕ) → kept p round ≡ false → ¬ PairKept p round
fails_so p round f k = true≢false (sym ((same p round).1 k) ∙ f)

module _ (round : List ℕ) where
  -- yes exactly when every pair is kept
  pub yes_from : (n : ℕ) (pairs : List Pair) → (ordered_from n pairs round ≡ all_kept) ↔ AllKept pairs round
  unfolding ordered_from
  yes_from n [] = (λ e k p a. absurd (nothing_there a), λ a. refl)
  yes_from n (p ∷ ps) =
      elim (decided (kept p round)) [
        | inl k ↦ (
          λ e. all_cons p ps round ((same p round).0 k) ((yes_from (suc n) ps).0 (sym (ordered_kept n p ps round k) ∙ e)),
          λ a. ordered_kept n p ps round k ∙ (yes_from (suc n) ps).1 (λ i q at. a (suc i) q at),
        )
        | inr f ↦
            (λ e. absurd (not_both (sym (ordered_fails n p ps round f) ∙ e)), λ a. absurd (fails_so p round f (a 0 p refl)))
      ]

  -- the place that is given is the first that fails, and the other way; the list's first pair has the place n
  pub place_is : (n : ℕ) (pairs : List Pair) (m : ℕ) → ordered_from n pairs round ≡ fails_at m → (k : ℕ) × (m ≡ n + k) × FailsFirst pairs round k
  unfolding ordered_from
  place_is n [] m e = absurd (not_both (sym e))
  place_is n (p ∷ ps) m e =
      elim (decided (kept p round)) [
        | inl k ↦
            (let found = place_is (suc n) ps m (sym (ordered_kept n p ps round k) ∙ e) in
            (suc found.0, omega (arith, found.1), fails_later p ps round ((same p round).0 k) found.0 found.2))
        | inr f ↦ (0, same_place (sym e ∙ ordered_fails n p ps round f) ∙ omega arith, first_fails p ps round (fails_so p round f))
      ]

  pub place_from : (n : ℕ) (pairs : List Pair) (k : ℕ) → FailsFirst pairs round k → ordered_from n pairs round ≡ fails_at (n + k)
  place_from n [] k f = absurd (nothing_there f.here)
  place_from n (p ∷ ps) zero f =
      elim (decided (kept p round)) [
        | inl k ↦ absurd (not_first p ps round ((same p round).0 k) f)
        | inr no-k ↦ ordered_fails n p ps round no-k ∙ ap fails_at (omega arith)
      ]
  place_from n (p ∷ ps) (suc k) f =
      elim (decided (kept p round)) [
        | inl kp ↦ ordered_kept n p ps round kp ∙ place_from (suc n) ps k (fails_tail p ps round k f) ∙ ap fails_at (omega arith)
        | inr no-k ↦ absurd (fails_so p round no-k (f.least 0 p (omega arith) refl))
      ]

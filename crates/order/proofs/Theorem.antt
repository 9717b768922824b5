-- The theorem `references_first`: the sentences of 02 (xii), and what a caller asks next (`specs/Theorems/ReferencesFirst`). Assumes nothing.
use mathlib.Core.Path.{◌≡◌, refl, sym, ap, subst, ◌∙◌}
use mathlib.Core.Logic.{◌↔◌}
use Prim.Native.Nat.{ℕ, zero, suc}
use native.Mathlib.Omega.{arith}
use native.Mathlib.Decide.{ℕ_discrete}
use mathlib.Core.Bool.{false, true≢false}
use mathlib.Core.List.{List, [], ◌∷◌, ◌++◌}
use mathlib.Core.Option.{some}
use Rattle.order.specs.Rule.{occurs, kept, all_kept, fails_at, ordered}
use Rattle.order.specs.Theorems.Places.{At, Occurs, PairKept, AllKept, FailsFirst}
use Rattle.order.specs.Theorems.ReferencesFirst.{ReferencesFirst, twice}
use Rattle.order.specs.declared.Pair.{Pair}
use Rattle.order.proofs.PairLaws.{at_wall, at_reference, at_other}
use Rattle.order.proofs.Places.{nothing_there, stands, same, yes_from, place_is, place_from}

-- what is not the first occurs behind it
occurs_tail : (x : ℕ) (xs : List ℕ) (id : ℕ) → ¬ (x ≡ id) → Occurs (x ∷ xs) id → Occurs xs id
occurs_tail x xs id n (zero, a) = absurd (n (stands a))
occurs_tail x xs id n (suc i, a) = (i, a)

itself : (id : ℕ) (round : List ℕ) → (kept (twice id) round ≡ false) ↔ Occurs round id
unfolding kept occurs
itself id [] = (λ f. absurd (true≢false f), λ o. absurd (nothing_there o.1))
itself id (x ∷ xs) =
    elim (ℕ_discrete x id) [
      | yes e ↦ (λ f. (0, ap some e), λ o. at_wall (twice id) x xs e)
      | no n ↦ (
        λ f. let o = (itself id xs).0 (sym (at_other (twice id) x xs n n) ∙ f) in (suc o.0, o.1),
        λ o. at_other (twice id) x xs n n ∙ (itself id xs).1 (occurs_tail x xs id n o),
      )
    ]

longer : (p : Pair) (round more : List ℕ) → Occurs round p.wall → kept p (round ++ more) ≡ kept p round
longer p [] more o = absurd (nothing_there o.1)
longer p (x ∷ xs) more o =
    elim (ℕ_discrete x p.wall) [
      | yes e ↦ at_wall p x (xs ++ more) e ∙ sym (at_wall p x xs e)
      | no n ↦
          elim (ℕ_discrete x p.reference) [
            | yes e ↦ at_reference p x (xs ++ more) n e ∙ sym (at_reference p x xs n e)
            | no m ↦ at_other p x (xs ++ more) n m ∙ longer p xs more (occurs_tail x xs p.wall n o) ∙ sym (at_other p x xs n m)
          ]
    ]

-- a pair alone
one : (p : Pair) (round : List ℕ) → (ordered (p ∷ []) round ≡ all_kept) ↔ PairKept p round
one p round = (λ e. (yes_from round 0 (p ∷ [])).0 e 0 p refl, λ k. (yes_from round 0 (p ∷ [])).1 (only k))
  where
    only : PairKept p round → AllKept (p ∷ []) round
    only k zero q a = subst (λ (r : Pair). PairKept r round) (stands a) k
    only k (suc i) q a = absurd (nothing_there a)

alone : (pairs : List Pair) (round : List ℕ)
    → (ordered pairs round ≡ all_kept) ↔ ((k : ℕ) (p : Pair) → At pairs p k → ordered (p ∷ []) round ≡ all_kept)
alone pairs round =
    (λ e k p a. (one p round).1 ((yes_from round 0 pairs).0 e k p a), λ each. (yes_from round 0 pairs).1 (λ k p a. (one p round).0 (each k p a)))

place_exactly : (pairs : List Pair) (round : List ℕ) (k : ℕ) → (ordered pairs round ≡ fails_at k) ↔ FailsFirst pairs round k
place_exactly pairs round k = (gives, λ f. place_from round 0 pairs k f ∙ ap fails_at (omega arith))
  where
    gives : ordered pairs round ≡ fails_at k → FailsFirst pairs round k
    gives e = let found = place_is round 0 pairs k e in
        let here : found.0 ≡ k = omega (arith, found.1) in
        subst (λ (i : ℕ). FailsFirst pairs round i) here found.2

pub references_first : ReferencesFirst
references_first = record {
  same = same;
  yes_exactly = λ pairs round. yes_from round 0 pairs;
  place_exactly = place_exactly;
  itself = itself;
  alone = alone;
  longer = longer;
}

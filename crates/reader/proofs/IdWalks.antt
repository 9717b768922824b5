-- What a walk lists, and that it ends for good (`specs/Theorems/Walks`). Assumes nothing.
use Rattle.std.proofs.Common.{◌≡◌, ℕ, zero, suc, ◌+◌, ◌-◌, ◌<◌, ◌≤◌, false, List, ◌∷◌, ◌++◌, map, replicate, sym, refl, ap, ◌∙◌, ⊎_elim, zero-le}
use Rattle.std.proofs.Common.{eq-or-lt_of_le, add-one, arith}
use native.Mathlib.Decide.{dec_lt}
use Rattle.image.specs.Bytes.{range}
use Rattle.image.specs.Head.{back_size_at}
use Rattle.reader.specs.Naming.{Naming, place, unnamed, no_back, naming}
use Rattle.reader.specs.IdWalk.{Step, done, step_of, step, upper_hint, next_after, steps}
use Rattle.reader.specs.Theorems.Walks.{FirstUnnamed, Ends, Walks}
use Rattle.reader.proofs.Namings.{named, never, hint_back}

-- ---- one step

step_unnamed : (image : List ℕ) (n : ℕ) → naming image n ≡ unnamed → step image n ≡ done
unfolding step
step_unnamed image n e = ap (step_of n) e

step_named : (image : List ℕ) (n : ℕ) → (naming image n ≡ unnamed → ⊥) → next_after n (step image n) ≡ n + 1
unfolding step
step_named image n h = next_by_naming (naming image n) refl
  where
    next_by_naming : (m : Naming) → naming image n ≡ m → next_after n (step_of n m) ≡ n + 1
    next_by_naming (place s l) e = refl
    next_by_naming unnamed e = absurd (h e)

-- ---- it ends for good

-- a walk that has ended stays where it stands: every further step is the end again
pub stays_ended : (image : List ℕ) (n : ℕ) → step image n ≡ done → (m : ℕ) → steps image n m ≡ replicate m done
unfolding steps
stays_ended image n e zero = refl
stays_ended image n e (suc m) =
    ap (λ (s : Step). s ∷ steps image (next_after n s) m) e ∙ ap (λ (l : List Step). done ∷ l) (stays_ended image n e m)

-- ---- what it lists

-- the first j steps, where j ids have names
pub listed : (image : List ℕ) (j n r : ℕ) → ((i : ℕ) → n ≤ i → i < n + j → naming image i ≡ unnamed → ⊥)
    → steps image n (j + r) ≡ map (step image) (range n j) ++ steps image (n + j) r
unfolding steps range
listed image zero n r h =
    let e : 0 + r ≡ r = omega arith in
    let f : n ≡ n + 0 = omega arith in
    ap (steps image n) e ∙ ap (λ (k : ℕ). steps image k r) f
listed image (suc j) n r h =
    let e : suc j + r ≡ suc (j + r) = omega arith in
    let f : n + 1 + j ≡ n + suc j = omega arith in
    ap (steps image n) e
    ∙ ap (λ (k : ℕ). step image n ∷ steps image k (j + r)) (step_named image n (h n (omega arith) (omega arith)))
    ∙ ap (λ (l : List Step). step image n ∷ l)
    (listed image j (n + 1) r (λ i p q. h i (omega arith) (omega arith))
    ∙ ap (λ (k : ℕ). map (step image) (range (n + 1) j) ++ steps image k r) f
    ∙ ap (λ (k : ℕ). map (step image) (range k j) ++ steps image (n + suc j) r) (add-one n))

-- the walk from id 0: each id up to the first without a name in turn, with the place of its name, and from then on the end
pub walk_lists : (image : List ℕ) (k : ℕ) → FirstUnnamed image 0 k → (r : ℕ) → steps image 0 (k + r) ≡ map (step image) (range 0 k) ++ replicate r done
walk_lists image k first r =
    let e : 0 + k ≡ k = omega arith in
    listed image k 0 r (λ i p q. first.each i p (omega arith))
    ∙ ap (λ (l : List Step). map (step image) (range 0 k) ++ l)
    (ap (λ (n : ℕ). steps image n r) e ∙ stays_ended image k (step_unnamed image k first.without) r)

-- ---- there is always an end, at the back size or before it

unnamed? : (x : Naming) → Dec (x ≡ unnamed)
unnamed? (place s n) = no (λ e. never s n (sym e))
unnamed? unnamed = yes refl

has_name : (image : List ℕ) (i : ℕ) → (naming image i ≡ unnamed → ⊥) → (no_back image ≡ false) × (i < back_size_at image)
has_name image i h = listed_by_naming (naming image i) refl
  where
    listed_by_naming : (m : Naming) → naming image i ≡ m → (no_back image ≡ false) × (i < back_size_at image)
    listed_by_naming (place s l) e = let p = named image i s l e in (p.array, p.below)
    listed_by_naming unnamed e = absurd (h e)

-- the first among m ids from n on, where those before n have names
ends_from : (image : List ℕ) (m n : ℕ) → n + m ≡ back_size_at image → ((i : ℕ) → i < n → naming image i ≡ unnamed → ⊥) → Ends image
ends_from image zero n e h =
    elim (unnamed? (naming image n)) [
      | yes u ↦ record { at = n; first = record { from = zero-le; without = u; each = λ i p q. h i q }; within = omega arith }
      | no v ↦ absurd (omega (arith, (has_name image n v).1))
    ]
ends_from image (suc m) n e h =
    elim (unnamed? (naming image n)) [
      | yes u ↦ record { at = n; first = record { from = zero-le; without = u; each = λ i p q. h i q }; within = omega arith }
      | no v ↦
          ends_from image m (n + 1) (omega arith)
          (λ i q. ⊎_elim (λ f. λ w. v (ap (naming image) (sym f) ∙ w)) (h i) (eq-or-lt_of_le (omega arith)))
    ]

pub ends : (image : List ℕ) → Ends image
ends image = ends_from image (back_size_at image) 0 (omega arith) (λ i q. absurd (omega arith))

-- the upper hint is no less than the ids that are still to come
pub hint_holds : (image : List ℕ) (n k : ℕ) → FirstUnnamed image n k → k - n ≤ upper_hint image n
hint_holds image n k first = elim (dec_lt n k) [
  | yes p ↦
      let q : k - 1 < k = omega arith in
      let b = has_name image (k - 1) (first.each (k - 1) (omega arith) q) in
      let e = hint_back image n (back_size_at image) (back_size_at image - n) b.0 refl refl in
      omega (arith, e, b.1)
  | no p ↦ omega arith
]

-- ---- all of it

pub walks : Walks
walks = record { walk_lists = walk_lists; stays_ended = stays_ended; ends = ends; hint_holds = hint_holds }

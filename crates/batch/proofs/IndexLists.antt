-- Lists of numbers that grow by one: what is listed stays so. Assumes nothing.
use Prim.Native.Nat.{ℕ, ◌+◌, ◌≤◌, ◌<◌}
use native.Mathlib.Omega.{arith}
use native.Mathlib.Decide.{ℕ_discrete}
use mathlib.Core.Path.{◌≡◌, sym, ap, subst, ◌∙◌}
use mathlib.Core.List.{List}
use lib.ListN.{length, get_or, set, take, length-take}
use lib.Seq.{get_or-set_same, get_or-set_other, get_or-take}
use Rattle.batch.specs.Steps.Duplicates.{Listed, RisingTo}

-- what is listed stays so
pub listed_old : (l : List ℕ) (p q i j : ℕ) → p ≤ q → Listed l p j → Listed (set l p i) q j
listed_old l p q i j h a =
    record { place = a.place; inside = omega (arith, a.inside); is = get_or-set_other l p a.place i 0 (λ e. omega (arith, a.inside)) ∙ a.is }

pub listed_more : {l : List ℕ} {p q j : ℕ} → p ≤ q → Listed l p j → Listed l q j
listed_more h a = record { place = a.place; inside = omega (arith, a.inside); is = a.is }

pub listed_new : (l : List ℕ) (p q i : ℕ) → p < length l → p < q → Listed (set l p i) q i
listed_new l p q i room h = record { place = p; inside = h; is = get_or-set_same l p i 0 room }

-- what holds of all that is listed, holds of one of them
pub listed_has : (Q : ℕ → Type 0) {l : List ℕ} {m i : ℕ} → ((x : ℕ) → x < m → Q (get_or l x 0)) → Listed l m i → Q i
listed_has Q all a = subst Q a.is (all a.place a.inside)

-- what holds of the first p, and of one more where it is kept, holds of all
pub each_step : (Q : ℕ → Type 0) (l : List ℕ) (p q i : ℕ) → p < length l → q ≤ p + 1 → ((z : ℕ) → z < p → Q (get_or l z 0)) → (p < q → Q i)
    → (z : ℕ) → z < q → Q (get_or (set l p i) z 0)
each_step Q l p q i room few old new z h =
    elim (ℕ_discrete z p) [
      | yes e ↦ subst Q (sym (ap (λ (m : ℕ). get_or (set l p i) m 0) e ∙ get_or-set_same l p i 0 room)) (new (omega arith))
      | no e ↦ subst Q (sym (get_or-set_other l p z i 0 e)) (old z (omega arith))
    ]

-- one more, above all before, and kept or not
pub rising_step : (l : List ℕ) (p q i : ℕ) → p < length l → q ≤ p + 1 → ((z : ℕ) → z < p → get_or l z 0 < i) → RisingTo l p → RisingTo (set l p i) q
rising_step l p q i room few above old x y h k =
    let first : get_or (set l p i) x 0 ≡ get_or l x 0 = get_or-set_other l p x i 0 (λ e. omega arith) in
    elim (ℕ_discrete y p) [
      | yes e ↦
          (let last : get_or (set l p i) y 0 ≡ i = ap (λ (m : ℕ). get_or (set l p i) m 0) e ∙ get_or-set_same l p i 0 room in
          omega (arith, above x (omega arith)))
      | no e ↦ (let second : get_or (set l p i) y 0 ≡ get_or l y 0 = get_or-set_other l p y i 0 e in omega (arith, old x y h (omega arith)))
    ]

-- the same of two lists
pub both_step : (Q : ℕ → ℕ → Type 0) (l o : List ℕ) (p q i e : ℕ) → p < length l → p < length o → q ≤ p + 1
    → ((z : ℕ) → z < p → Q (get_or l z 0) (get_or o z 0)) → (p < q → Q i e) → (z : ℕ) → z < q → Q (get_or (set l p i) z 0) (get_or (set o p e) z 0)
both_step Q l o p q i e room room' few old new z h =
    elim (ℕ_discrete z p) [
      | yes f ↦
          subst (λ (m : ℕ). Q (get_or (set l p i) m 0) (get_or (set o p e) m 0)) (sym f)
          (subst (λ (v : ℕ). Q (get_or (set l p i) p 0) v) (sym (get_or-set_same o p e 0 room'))
          (subst (λ (v : ℕ). Q v e) (sym (get_or-set_same l p i 0 room)) (new (omega arith))))
      | no f ↦
          subst (λ (v : ℕ). Q (get_or (set l p i) z 0) v) (sym (get_or-set_other o p z e 0 f))
          (subst (λ (v : ℕ). Q v (get_or o z 0)) (sym (get_or-set_other l p z i 0 f)) (old z (omega arith)))
    ]

-- ---- the front of a list, as a list of its own

pub taken_all : (Q : ℕ → Type 0) (l : List ℕ) (n : ℕ) → ((z : ℕ) → z < n → Q (get_or l z 0)) → (z : ℕ) → z < length (take n l) → Q (get_or (take n l) z 0)
taken_all Q l n all z h = let k : z < n = omega (arith, length-take n l) in subst Q (sym (get_or-take n l z 0 k)) (all z k)

-- the same of two lists
pub taken_both : (Q : ℕ → ℕ → Type 0) (l o : List ℕ) (n : ℕ) → ((z : ℕ) → z < n → Q (get_or l z 0) (get_or o z 0)) → (z : ℕ) → z < length (take n l)
    → Q (get_or (take n l) z 0) (get_or (take n o) z 0)
taken_both Q l o n all z h =
    let k : z < n = omega (arith, length-take n l) in
    subst (λ (v : ℕ). Q v (get_or (take n o) z 0)) (sym (get_or-take n l z 0 k))
    (subst (λ (v : ℕ). Q (get_or l z 0) v) (sym (get_or-take n o z 0 k)) (all z k))

pub taken_rising : (l : List ℕ) (n : ℕ) → RisingTo l n → RisingTo (take n l) (length (take n l))
taken_rising l n old x y h k =
    let k' : y < n = omega (arith, length-take n l) in
    omega (arith, old x y h k', get_or-take n l x 0 (omega arith), get_or-take n l y 0 k')

pub taken_listed : (l : List ℕ) (n i : ℕ) → n ≤ length l → Listed l n i → Listed (take n l) (length (take n l)) i
taken_listed l n i room a =
    record { place = a.place; inside = omega (arith, a.inside, length-take n l); is = get_or-take n l a.place 0 a.inside ∙ a.is }

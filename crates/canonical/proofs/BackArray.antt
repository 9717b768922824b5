-- Back words match the entries exactly where each is the offset of its id's last entry. Assumes nothing.
use Prim.Native.Nat.{ℕ, suc, ◌+◌, ◌≤◌, ◌<◌}
use native.Mathlib.Omega.{arith}
use native.Mathlib.Decide.{dec_le, ℕ_discrete}
use mathlib.Core.Path.{◌≡◌, refl, sym, ◌∙◌}
use mathlib.Core.Bool.{cond}
use mathlib.Core.List.{List, [], ◌∷◌, map}
use lib.Dec.{eqb}
use borrow.Author.Tests.{eq-eqb, ne_eqb}
use Rattle.image.specs.Bytes.{filter}
use Rattle.image.specs.Image.{Placed, placed_of_id, last_from, back_word}
use Rattle.image.proofs.AllOfList.{All, all_map}
use Rattle.canonical.specs.Steps.HiddenBuckets.{bit, Rising, BackArrayMatches}
use Rattle.canonical.proofs.Sums.{bit_yes, bit_no, sum_same}
use Rattle.canonical.proofs.Cells as cells

-- the offsets of entries, and their ids
abbrev pub offsets : List Placed → List ℕ
offsets ps = map (λ (p : Placed). p.at) ps

-- the back word of an id after entries, x before them
abbrev after : ℕ → ℕ → List Placed → ℕ
after i x ps = last_from x (placed_of_id i ps)

after_own : (i x : ℕ) (p : Placed) (ps : List Placed) → p.entry.id ≡ i → after i x (p ∷ ps) ≡ after i p.at ps
unfolding placed_of_id filter last_from
after_own i x p ps e = rw (eq-eqb p.entry.id i e)

after_other : (i x : ℕ) (p : Placed) (ps : List Placed) → (p.entry.id ≡ i → ⊥) → after i x (p ∷ ps) ≡ after i x ps
unfolding placed_of_id filter last_from
after_other i x p ps d = rw (ne_eqb p.entry.id i d)

-- what holds of each element for its own number
pub all_own : {A : Type 0} (P : ℕ → A → Type 0) (g : A → ℕ) (n : ℕ) (xs : List A) → All (λ (x : A). g x < n) xs
    → ((i : ℕ) → i < n → All (P i) xs) → All (λ (x : A). P (g x) x) xs
all_own P g n [] inside each = tt
all_own P g n (x ∷ xs) inside each = ((each (g x) inside.0).0, all_own P g n xs inside.1 (λ i h. (each i h).1))

module _ (l : ℕ → ℕ) where
  abbrev id : Placed → ℕ
  id p = p.entry.id

  abbrev own : ℕ → List Placed → ℕ
  own i ps = cells.own id (λ (p : Placed). p.at) l i ps

  own_here : (i : ℕ) (p : Placed) (ps : List Placed) → id p ≡ i → own i (p ∷ ps) ≡ cond (eqb (l i) p.at) 1 0 + own i ps
  own_here i p ps e = cells.own_here id (λ (p : Placed). p.at) l i p ps e

  own_other : (i : ℕ) (p : Placed) (ps : List Placed) → (id p ≡ i → ⊥) → own i (p ∷ ps) ≡ own i ps
  own_other i p ps d = cells.own_other id (λ (p : Placed). p.at) l i p ps d

  -- if an id's back word is one of its entries' offsets, and none of them is larger, it is the last one
  back_word_last : (i x a : ℕ) (ps : List Placed) → x < a → Rising a (offsets ps) → All (λ (p : Placed). p.at ≤ l (id p)) ps → x ≤ l i
      → own i ps ≡ bit (suc x) (l i) → after i x ps ≡ l i
  unfolding placed_of_id filter last_from
  back_word_last i x a [] h r s le e =
      elim (dec_le (suc x) (l i)) [
        | yes k ↦ absurd (omega (arith, bit_yes (suc x) (l i) k, cells.own_none id (λ (p : Placed). p.at) l i))
        | no k ↦ omega arith
      ]
  back_word_last i x a (q ∷ ps) h r s le e =
      let first = r.0 in
      elim (ℕ_discrete (id q) i) [
        | yes z ↦
            let ahead : q.at ≤ l i = rw z at s.0 in
            after_own i x q ps z ∙ back_word_last i q.at (suc q.at) ps (omega arith) r.1 s.1 ahead (rest ahead (own_here i q ps z))
        | no z ↦ after_other i x q ps z ∙ back_word_last i x (suc q.at) ps (omega arith) r.1 s.1 le (sym (own_other i q ps z) ∙ e)
      ]
    where
      rest : q.at ≤ l i → own i (q ∷ ps) ≡ cond (eqb (l i) q.at) 1 0 + own i ps → own i ps ≡ bit (suc q.at) (l i)
      rest ahead o =
          let first = r.0 in
          let some = bit_yes (suc x) (l i) (omega arith) in
          elim (ℕ_discrete (l i) q.at) [
            | yes z ↦ let f = rw (eq-eqb (l i) q.at z) at o in omega (arith, bit_no (suc q.at) (l i) (omega arith))
            | no z ↦ let f = rw (ne_eqb (l i) q.at z) at o in omega (arith, bit_yes (suc q.at) (l i) (omega arith))
          ]

  -- and the last one is no smaller than any
  last_owned : (i x a : ℕ) (ps : List Placed) → x < a → Rising a (offsets ps) → after i x ps ≡ l i
      → (x ≤ l i) × (own i ps ≡ bit (suc x) (l i)) × All (λ (p : Placed). id p ≡ i → p.at ≤ l i) ps
  unfolding placed_of_id filter last_from
  last_owned i x a [] h r e = (omega arith, cells.own_none id (λ (p : Placed). p.at) l i ∙ sym (bit_no (suc x) (l i) (omega arith)), tt)
  last_owned i x a (q ∷ ps) h r e =
      let first = r.0 in
      elim (ℕ_discrete (id q) i) [
        | yes z ↦
            let (le, o, s) = last_owned i q.at (suc q.at) ps (omega arith) r.1 (sym (after_own i x q ps z) ∙ e) in
            (omega arith, own_here i q ps z ∙ here le o, ((λ y. le), s))
        | no z ↦
            let (le, o, s) = last_owned i x (suc q.at) ps (omega arith) r.1 (sym (after_other i x q ps z) ∙ e) in
            (le, own_other i q ps z ∙ o, ((λ y. absurd (z y)), s))
      ]
    where
      here : q.at ≤ l i → own i ps ≡ bit (suc q.at) (l i) → cond (eqb (l i) q.at) 1 0 + own i ps ≡ bit (suc x) (l i)
      here le o =
          let first = r.0 in
          let some = bit_yes (suc x) (l i) (omega arith) in
          elim (ℕ_discrete (l i) q.at) [
            | yes z ↦ rw (eq-eqb (l i) q.at z) (omega (arith, bit_no (suc q.at) (l i) (omega arith)))
            | no z ↦ rw (ne_eqb (l i) q.at z) (omega (arith, bit_yes (suc q.at) (l i) (omega arith)))
          ]

  module _ (n : ℕ) (ps : List Placed) (r : Rising 1 (offsets ps)) (ids : All (λ (p : Placed). id p < n) ps) where
    pub matching_back_word : BackArrayMatches n l ps → (i : ℕ) → i < n → back_word ps i ≡ l i
    unfolding back_word
    matching_back_word k i h =
        back_word_last i 0 1 ps (omega arith) r k.ahead (omega arith) (cells.owned id (λ (p : Placed). p.at) l n ps r ids k.used i h)

    pub back_words_match : ((i : ℕ) → i < n → back_word ps i ≡ l i) → BackArrayMatches n l ps
    unfolding back_word
    back_words_match is = record {
      ahead =
          all_map (λ p s. s refl) ps (all_own (λ (i : ℕ) (p : Placed). id p ≡ i → p.at ≤ l i) id n ps ids (λ i h. (owned i h).2));
      used =
          sym (sum_same (λ (i : ℕ). own i ps) (λ (i : ℕ). bit 1 (l i)) n (λ i h. (owned i h).1))
          ∙ cells.own_sum id (λ (p : Placed). p.at) l n ps ids;
    }
      where
        owned : (i : ℕ) → i < n → (0 ≤ l i) × (own i ps ≡ bit 1 (l i)) × All (λ (p : Placed). id p ≡ i → p.at ≤ l i) ps
        owned i h = last_owned i 0 1 ps (omega arith) r (is i h)

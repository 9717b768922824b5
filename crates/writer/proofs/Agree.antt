-- The counts that a walk tallies are those of the entries. Assumes nothing.
use Prim.Native.Nat.{ℕ, ◌+◌, ◌<◌}
use native.Mathlib.Omega.{arith}
use native.Mathlib.Decide.{dec_lt, ℕ_discrete}
use mathlib.Core.Path.{◌≡◌, refl, sym, ap, ◌∙◌}
use mathlib.Core.Bool.{Bool, true, false, cond, not}
use mathlib.Core.List.{List, [], ◌∷◌}
use lib.ListN.{length, get_or, set, replicate, length-set, length-replicate, get_or-replicate, get_or-eq_default}
use lib.Seq.{get_or-set_same, get_or-set_other}
use Rattle.std.proofs.lemmas.List.{ext_get_or}
use lib.Dec.{eqb}
use borrow.Author.Tests.{eq-eqb, ne_eqb, eqb-true, not-true, not-false}
use Rattle.std.specs.Cmp.Lexicographic.{pointwise, bytes_decides}
use Rattle.image.proofs.Bools.{false_not_true}
use Rattle.jhash.specs.NameHash.{hash_of}
use Rattle.image.specs.Tables.{table_of}
use Rattle.image.specs.Image.{Entry, Placed, head_size, entry_size, placed, count}
use Rattle.image.proofs.EntryWalk.{tallied_cons}
use Rattle.image.proofs.Sizes.{count_nil, count_cons}
use Rattle.image.proofs.AllOfRange.{all_each, all_true}
use Rattle.writer.specs.State.{counts_agree}
use Rattle.image.specs.Tally.{tallied, raised_counts}

-- no entries, no counts
pub zeros : (n t : ℕ) → get_or {A = ℕ} (replicate n 0) t 0 ≡ 0
zeros n t =
    elim (dec_lt t n) [
      | yes h ↦ get_or-replicate n t 0 0 h
      | no h ↦ get_or-eq_default (replicate n 0) 0 {n = t} (omega (arith, length-replicate {A = ℕ} n 0))
    ]

length_raised : (counts : List ℕ) (h : ℕ) → length (raised_counts counts h) ≡ length counts
unfolding raised_counts
length_raised counts h = length-set counts (table_of h) (get_or counts (table_of h) 0 + 1)

get_or_raised : (counts : List ℕ) (h t : ℕ) → t < length counts → get_or (raised_counts counts h) t 0 ≡ get_or counts t 0 + cond (eqb (table_of h) t) 1 0
unfolding raised_counts
get_or_raised counts h t l =
    elim (ℕ_discrete (table_of h) t) [
      | yes e ↦
          ap (λ (u : ℕ). get_or (set counts u (get_or counts u 0 + 1)) t 0) e
          ∙ get_or-set_same counts t (get_or counts t 0 + 1) 0 l
          ∙ ap (λ (b : Bool). get_or counts t 0 + cond b 1 0) (sym (eq-eqb (table_of h) t e))
      | no n ↦
          get_or-set_other counts (table_of h) t (get_or counts (table_of h) 0 + 1) 0 (λ e. n (sym e))
          ∙ plus_none (get_or counts t 0)
          ∙ ap (λ (b : Bool). get_or counts t 0 + cond b 1 0) (sym (ne_eqb (table_of h) t n))
    ]
  where
    plus_none : (x : ℕ) → x ≡ x + 0
    plus_none x = omega arith

pub length_tallied : (es : List Entry) (counts : List ℕ) → length (tallied counts es) ≡ length counts
unfolding tallied
length_tallied [] counts = refl
length_tallied (e ∷ es) counts =
    ap length (tallied_cons counts e es) ∙ length_tallied es (raised_counts counts (hash_of e.name)) ∙ length_raised counts (hash_of e.name)

pub tallied_count : (es : List Entry) (counts : List ℕ) (o t : ℕ) → t < length counts
    → get_or (tallied counts es) t 0 ≡ get_or counts t 0 + count t (placed o es)
unfolding tallied placed
tallied_count [] counts o t l = omega (arith, count_nil t)
tallied_count (e ∷ es) counts o t l =
    let p : Placed = record { entry = e; at = o } in
    let h = hash_of e.name in
    ap (λ (c : List ℕ). get_or c t 0) (tallied_cons counts e es)
    ∙ tallied_count es (raised_counts counts h) (o + entry_size e) t (omega (arith, length_raised counts h))
    ∙ sum (get_or (raised_counts counts h) t 0) (get_or counts t 0) (cond (eqb (table_of h) t) 1 0) (count t (placed (o + entry_size e) es))
    (count t (p ∷ placed (o + entry_size e) es))
    (get_or_raised counts h t l) (count_cons t p (placed (o + entry_size e) es))
  where
    sum : (x y b z w : ℕ) → x ≡ y + b → w ≡ b + z → x + z ≡ y + w
    sum x y b z w p q = omega arith

-- so comparing with the tally is comparing with the entries
module _ (counts : List ℕ) (es : List Entry) where
  none : (x y : ℕ) → x ≡ 0 → x + y ≡ y
  none x y z = omega arith

  tally_count : (t : ℕ) → t < 256 → get_or (tallied (replicate 256 0) es) t 0 ≡ count t (placed head_size es)
  tally_count t h =
      tallied_count es (replicate 256 0) head_size t (omega (arith, length-replicate {A = ℕ} 256 0))
      ∙ none (get_or (replicate 256 0) t 0) (count t (placed head_size es)) (zeros 256 t)

  pub same_agree : counts ≡ tallied (replicate 256 0) es → counts_agree counts es ≡ true
  same_agree e =
      all_true (λ (t : ℕ). eqb (get_or counts t 0) (count t (placed head_size es))) 0 256
      (λ i h. eq-eqb (get_or counts (0 + i) 0) (count (0 + i) (placed head_size es))
      (ap (λ (l : List ℕ). get_or l (0 + i) 0) e ∙ tally_count (0 + i) (omega arith)))

  pub other_differ : (tally : List ℕ) → tally ≡ tallied (replicate 256 0) es → length counts ≡ 256 → (counts ≡ tally → ⊥)
      → counts_agree counts es ≡ false
  other_differ tally e table differ = by_test (counts_agree counts es) refl
    where
      long : length (tallied (replicate 256 0) es) ≡ 256
      long = length_tallied es (replicate 256 0) ∙ length-replicate {A = ℕ} 256 0

      at_table : counts_agree counts es ≡ true → (t : ℕ) → t < 256 → get_or counts t 0 ≡ count t (placed head_size es)
      at_table every t h =
          let z : 0 + t ≡ t = omega arith in
          rw z at (eqb-true (get_or counts (0 + t) 0) (count (0 + t) (placed head_size es))
          (all_each (λ (t : ℕ). eqb (get_or counts t 0) (count t (placed head_size es))) 0 256 t every h))

      agreed : counts_agree counts es ≡ true → counts ≡ tally
      agreed every = ext_get_or 0 counts tally (omega (arith, long, ap length e)) (λ i h.
          at_table every i (omega arith) ∙ sym (tally_count i (omega arith)) ∙ ap (λ (l : List ℕ). get_or l i 0) (sym e))

      by_test : (b : Bool) → counts_agree counts es ≡ b → b ≡ false
      by_test false p = refl
      by_test true p = absurd (differ (agreed p))

-- what the test of two lists of counts says
pub same_test : (xs ys : List ℕ) → not (pointwise eqb xs ys) ≡ false → xs ≡ ys
same_test xs ys h = (bytes_decides xs ys).0 (not-false _ h)

pub other_test : (xs ys : List ℕ) → not (pointwise eqb xs ys) ≡ true → xs ≡ ys → ⊥
other_test xs ys h e = false_not_true (sym (not-true _ h) ∙ (bytes_decides xs ys).1 e)

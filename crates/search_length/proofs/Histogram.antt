-- Laws of the histogram: one more entry, the sum of the counts, and what each count is. Assumes nothing.
use Prim.Native.Nat.{ℕ, zero, suc, ◌+◌, ◌*◌, ◌-◌, ◌≤◌, ◌<◌}
use native.Mathlib.Omega.{arith}
use native.Mathlib.Decide.{ℕ_discrete}
use mathlib.Core.Path.{◌≡◌, refl, sym, ap, ◌∙◌}
use mathlib.Core.Bool.{Bool, cond}
use mathlib.Core.List.{List, [], ◌∷◌}
use lib.ListN.{length, get_or, replicate, length-set}
use lib.Seq.{get_or-set_same, get_or-set_other}
use lib.Dec.{eqb}
use borrow.Author.Tests.{eq-eqb, ne_eqb}
use Rattle.std.specs.Prelude.{Option, Some, None}
use Rattle.image.specs.Image.{Entry}
use Rattle.reader.specs.Cases.{reads, found_or_nothing, lookup_of}
use Rattle.reader.specs.declared.Hit.{Hit}
use Rattle.reader.specs.declared.ToId.{ToId}
use Rattle.canonical.specs.Canonical.{puts_in}
use Rattle.search_length.specs.SearchLengths.{search_length, total_of, bin_of, lengths_from, in_bin}
use Rattle.search_length.specs.Average.{total, lengths_of}
use Rattle.search_length.specs.Steps.Contracts.{Counted}
use Rattle.image.specs.Tally.{one_more}
use Rattle.search_length.specs.Theorems.AverageSearch.{sum}

-- ---- one more at a place

more_same : (l : List ℕ) (k : ℕ) → k < length l → get_or (one_more l k) k 0 ≡ get_or l k 0 + 1
more_same l k h = get_or-set_same l k (get_or l k 0 + 1) 0 h

more_other : (l : List ℕ) (k t : ℕ) → (t ≡ k → ⊥) → get_or (one_more l k) t 0 ≡ get_or l t 0
more_other l k t d = get_or-set_other l k t (get_or l k 0 + 1) 0 d

more_most : (l : List ℕ) (k t : ℕ) → k < length l → get_or (one_more l k) t 0 ≤ get_or l t 0 + 1
more_most l k t h =
    elim (ℕ_discrete t k) [
      | yes e ↦ rw e (omega (arith, more_same l k h))
      | no n ↦ omega (arith, more_other l k t n)
    ]

more_length : (l : List ℕ) (k : ℕ) → length (one_more l k) ≡ length l
more_length l k = length-set l k (get_or l k 0 + 1)

more_sum : (l : List ℕ) (k : ℕ) → k < length l → sum (one_more l k) ≡ sum l + 1
unfolding sum
more_sum [] k h = absurd (omega arith)
more_sum (x ∷ l) zero h = omega arith
more_sum (x ∷ l) (suc k) h = omega (arith, more_sum l k (omega arith))

place_small : (n : ℕ) → bin_of n < 16
place_small n = omega arith

-- ---- the walk

-- the buckets read stand beside what a lookup finds
pub buckets_read : (t : ToId) → t.buckets ≡ reads (lookup_of t)
buckets_read t = by_hit t.buckets t.hit
  where
    by_hit : (n : ℕ) (hit : Option Hit) → n ≡ reads (found_or_nothing n hit)
    by_hit n (Some h) = refl
    by_hit n None = refl

-- what the entries ahead, `left` of n, add to the counts and the sum is the whole
pub record Counting (img : List ℕ) (n : ℕ) (counts : List ℕ) (left sum : ℕ) (es : List Entry) : Type 0 where
  pub same : lengths_from img counts es ≡ lengths_of img
  pub small : (t : ℕ) → get_or counts t 0 + left ≤ n
  pub sixteen : length counts ≡ 16
  pub whole : sum + total_of img es ≡ total img
  pub sum_small : sum + left * 4294967295 ≤ n * 4294967295

pub zeros : (n t : ℕ) → ◌≡◌ {A = ℕ} (get_or (replicate n 0) t 0) 0
zeros zero t = refl
zeros (suc n) zero = refl
zeros (suc n) (suc t) = zeros n t

pub long : ◌≡◌ {A = ℕ} (length (replicate {A = ℕ} 16 0)) 16
long = refl

pub counting_starts : (img counts : List ℕ) (n : ℕ) → counts ≡ replicate 16 0 → Counting img n counts n 0 (puts_in img)
unfolding lengths_of total
counting_starts img counts n z = record {
  same = ap (λ (c : List ℕ). lengths_from img c (puts_in img)) z;
  small = λ t. omega (arith, ap (λ (c : List ℕ). get_or c t 0) z, zeros 16 t);
  sixteen = ap length z ∙ long;
  whole = omega arith;
  sum_small = omega arith;
}

module _ {img : List ℕ} {n : ℕ} {counts : List ℕ} {left sum : ℕ} where
  pub counting_next : {e : Entry} {es : List Entry} → Counting img n counts left sum (e ∷ es) → 0 < left → (r : ℕ) (counted : List ℕ) → r < 4294967296
      → r ≡ search_length img e → counted ≡ one_more counts (bin_of r) → Counting img n counted (left - 1) (sum + r) es
  unfolding lengths_from total_of
  counting_next {e} {es} c h r counted small a m =
      let d : counted ≡ one_more counts (bin_of (search_length img e)) = m ∙ ap (λ (k : ℕ). one_more counts (bin_of k)) a in
      record {
        same = ap (λ (x : List ℕ). lengths_from img x es) d ∙ c.same;
        small = λ t. omega (arith, ap (λ (x : List ℕ). get_or x t 0) m, more_most counts (bin_of r) t (omega (arith, c.sixteen, place_small r)), c.small t);
        sixteen = ap length m ∙ more_length counts (bin_of r) ∙ c.sixteen;
        whole = omega (arith, c.whole, a);
        sum_small = omega (arith, c.sum_small);
      }

  pub counting_ends : Counting img n counts left sum [] → Counted img counts sum
  unfolding lengths_from total_of
  counting_ends c = record { lengths = c.same; total = omega (arith, c.whole) }

-- ---- what the counts are

module _ (img : List ℕ) where
  pub lengths_sixteen : (es : List Entry) (counts : List ℕ) → length counts ≡ 16 → length (lengths_from img counts es) ≡ 16
  unfolding lengths_from
  lengths_sixteen [] counts s = s
  lengths_sixteen (e ∷ es) counts s =
      let k = bin_of (search_length img e) in
      lengths_sixteen es (one_more counts k) (more_length counts k ∙ s)

  pub lengths_sum : (es : List Entry) (counts : List ℕ) → length counts ≡ 16 → sum (lengths_from img counts es) ≡ sum counts + length es
  unfolding lengths_from
  lengths_sum [] counts s = omega arith
  lengths_sum (e ∷ es) counts s =
      let k = bin_of (search_length img e) in
      let small : k < length counts = omega (arith, place_small (search_length img e)) in
      omega (arith, lengths_sum es (one_more counts k) (more_length counts k ∙ s), more_sum counts k small)

  pub lengths_are : (es : List Entry) (counts : List ℕ) (k : ℕ) → length counts ≡ 16 → k < 16
      → get_or (lengths_from img counts es) k 0 ≡ get_or counts k 0 + in_bin img k es
  unfolding lengths_from in_bin
  lengths_are [] counts k s h = omega arith
  lengths_are (e ∷ es) counts k s h =
      let p = bin_of (search_length img e) in
      let rest = lengths_are es (one_more counts p) k (more_length counts p ∙ s) h in
      elim (ℕ_discrete k p) [
        | yes q ↦
            let one : ◌≡◌ {A = ℕ} (cond (eqb p k) 1 0) 1 = ap (λ (t : Bool). cond {A = ℕ} t 1 0) (eq-eqb p k (sym q)) in
            let same : get_or (one_more counts p) k 0 ≡ get_or counts k 0
            + 1 = rw q (more_same counts p (omega (arith, place_small (search_length img e)))) in
            omega (arith, rest, one, same)
        | no d ↦
            let none : ◌≡◌ {A = ℕ} (cond (eqb p k) 1 0) 0 = ap (λ (t : Bool). cond {A = ℕ} t 1 0) (ne_eqb p k (λ z. d (sym z))) in
            omega (arith, rest, none, more_other counts p k d)
      ]

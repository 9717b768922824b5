-- One step, an early return and the end of each loop over tables. Assumes nothing.
use Prim.Native.Nat.{ℕ, suc, ◌+◌, ◌*◌, ◌-◌, ◌≤◌, ◌<◌}
use native.Mathlib.Omega.{arith}
use native.Mathlib.Decide.{ℕ_discrete}
use mathlib.Core.Path.{◌≡◌, refl, sym, ap, ap₂, ◌∙◌}
use mathlib.Core.Bool.{Bool, true, false, cond, ◌&&◌}
use mathlib.Core.List.{List}
use lib.ListN.{length}
use lib.Dec.{eqb, leb}
use borrow.Author.Tests.{eq-eqb, ne_eqb}
use Rattle.image.specs.Bytes.{all}
use Rattle.image.specs.Head.{table_at, bucket_number}
use Rattle.image.specs.Steps.Contracts.{offset_at}
use Rattle.image.proofs.AllOfRange.{all_step, all_more, all_end}
use Rattle.canonical.specs.Steps.HiddenBuckets.{sum_to, bit, used_to}
use Rattle.canonical.specs.Steps.Checks.{clean, table_ok, row_count, table_place, row_ok, rows_ok}
use Rattle.canonical.specs.Steps.Contracts.{CheckRowsPre}
use Rattle.canonical.proofs.Sums.{one_at_most}

-- ---- how many of f 0 up to f (k - 1) are not 0

pub record Used (f : ℕ → ℕ) (k used : ℕ) : Type 0 where
  pub is : used ≡ used_to f k
  pub few : used ≤ k

pub used_start : (f : ℕ → ℕ) → Used f 0 0
unfolding sum_to
used_start f = record { is = refl; few = omega arith }

pub used_next : {f : ℕ → ℕ} {k used : ℕ} → Used f k used → (b : ℕ) → b ≡ bit 1 (f k) → Used f (k + 1) (used + b)
unfolding sum_to
used_next {f} {k} {used} u b e =
    let next : k + 1 ≡ suc k = omega arith in
    record { is = rw next (ap₂ ◌+◌ u.is e); few = omega (arith, u.few, e, one_at_most (leb 1 (f k))) }

pub used_end : {f : ℕ → ℕ} {k used n : ℕ} → Used f k used → k ≡ n → used ≡ used_to f n
used_end {f} u e = u.is ∙ ap (used_to f) e

-- ---- a test of the numbers below n: those from t on are left

module _ (f : ℕ → Bool) where
  pub all_pass : {n : ℕ} (t : ℕ) {x : Bool} → t < n → f t ≡ true → all f t (n - t) ≡ x → all f (t + 1) (n - (t + 1)) ≡ x
  all_pass {n} t h y e = sym (all_step f t n h ∙ ap (λ (b : Bool). b && all f (t + 1) (n - (t + 1))) y) ∙ e

  pub all_fail : {n : ℕ} (t : ℕ) {x : Bool} → t < n → f t ≡ false → all f t (n - t) ≡ x → false ≡ x
  all_fail {n} t h y e = sym (all_step f t n h ∙ ap (λ (b : Bool). b && all f (t + 1) (n - (t + 1))) y) ∙ e

  pub all_passed : {n : ℕ} (t : ℕ) {x : Bool} → n ≤ t → all f t (n - t) ≡ x → true ≡ x
  unfolding all
  all_passed {n} t h e = let z : n - t ≡ 0 = omega arith in sym (ap (all f t) z) ∙ e

-- ---- the buckets of a table

-- of the first k of n buckets at o, `used` are used, and the empty ones are zero if `ok`
pub record Buckets (img : List ℕ) (o n k : ℕ) (ok : Bool) (used : ℕ) : Type 0 where
  pub inside : k ≤ n
  pub cleans : (ok && all (clean img o) k (n - k)) ≡ all (clean img o) 0 n
  pub counts : Used (offset_at img o) k used

pub buckets_start : (img : List ℕ) (o n : ℕ) → Buckets img o n 0 true 0
buckets_start img o n =
    let z : n - 0 ≡ n = omega arith in
    record { inside = omega arith; cleans = ap (all (clean img o) 0) z; counts = used_start (offset_at img o) }

module _ {img : List ℕ} {o n k : ℕ} {ok : Bool} {used : ℕ} (b : Buckets img o n k ok used) where
  pub buckets_next : k < n → (r : Bool) (u : ℕ) → r ≡ clean img o k → u ≡ bit 1 (offset_at img o k) → Buckets img o n (k + 1) (ok && r) (used + u)
  buckets_next more r u e v = record {
    inside = omega arith;
    cleans =
        ap (λ (x : Bool). ok && x && all (clean img o) (k + 1) (n - (k + 1))) e
        ∙ all_more (clean img o) k n ok (all (clean img o) 0 n) more b.cleans;
    counts = used_next b.counts u v;
  }

  pub buckets_end : (c : ℕ) → n ≤ k → n ≡ 2 * c → (ok && eqb used c) ≡ table_ok img o c
  unfolding table_ok
  buckets_end c m s =
      let e : k ≡ 2 * c = omega (arith, b.inside) in
      let z : n - k ≡ 0 = omega arith in
      let d = all_end (clean img o) k ok (all (clean img o) 0 n) (sym (ap (λ (m : ℕ). ok && all (clean img o) k m) z) ∙ b.cleans) in
      ap₂ (λ (t : Bool) (x : ℕ). t && eqb x c) (d ∙ ap (all (clean img o) 0) s) (b.counts.is ∙ ap (used_to (offset_at img o)) e)

-- ---- the rows

-- what is to be found of the rows from t on, the next table being at o
pub record Rows (img : List ℕ) (end o t : ℕ) : Type 0 where
  pub few : t ≤ 256
  pub place : o ≡ table_place img end t
  pub inside : o ≤ length img
  pub same : all (row_ok img end) t (256 - t) ≡ rows_ok img end

pub rows_start : {img : List ℕ} {end : ℕ} → CheckRowsPre img end → Rows img end end 0
unfolding sum_to
rows_start p = record { few = omega arith; place = omega arith; inside = p.inside; same = refl }

module _ {img : List ℕ} {end o t : ℕ} (p : CheckRowsPre img end) (r : Rows img end o t) (more : t < 256) where
  -- the row that it must be
  abbrev Number : Type 0
  Number = bucket_number img t ≡ 2 * row_count img t

  abbrev Offset : Type 0
  Offset = table_at img t ≡ cond (eqb (row_count img t) 0) 0 o

  -- a table whose row has the place that it must have lies in the image
  pub row_room : Number → Offset → o + 16 * row_count img t ≤ length img
  row_room even there =
      elim (ℕ_discrete (row_count img t) 0) [
        | yes z ↦ omega (arith, r.inside)
        | no d ↦
            let e = there ∙ ap (λ (b : Bool). cond b 0 o) (ne_eqb (row_count img t) 0 d) in
            omega (arith, even, p.tables t more (omega (arith, e, r.place, p.some)))
      ]

  row_is : row_ok img end t ≡ (eqb (bucket_number img t) (2 * row_count img t) && eqb (table_at img t) (cond (eqb (row_count img t) 0) 0 o)
      && table_ok img o (row_count img t))
  unfolding row_ok
  row_is =
      ap (λ (o : ℕ). eqb (bucket_number img t) (2 * row_count img t) && eqb (table_at img t) (cond (eqb (row_count img t) 0) 0 o)
      && table_ok img o (row_count img t))
      (sym r.place)

  pub table_buckets : (Number → ⊥) → false ≡ rows_ok img end
  table_buckets d = all_fail (row_ok img end) t more (row_is ∙ rw (ne_eqb (bucket_number img t) (2 * row_count img t) d)) r.same

  module _ (even : Number) where
    number_yes : eqb (bucket_number img t) (2 * row_count img t) ≡ true
    number_yes = eq-eqb (bucket_number img t) (2 * row_count img t) even

    pub table_offset : (Offset → ⊥) → false ≡ rows_ok img end
    table_offset d =
        all_fail (row_ok img end) t more (row_is ∙ rw (number_yes, ne_eqb (table_at img t) (cond (eqb (row_count img t) 0) 0 o) d)) r.same

    module _ (there : Offset) (ok : Bool) (table : ok ≡ table_ok img o (row_count img t)) where
      row_answer : row_ok img end t ≡ ok
      row_answer = row_is ∙ rw (number_yes, eq-eqb (table_at img t) (cond (eqb (row_count img t) 0) 0 o) there) (sym table)

      pub row_table : ok ≡ false → false ≡ rows_ok img end
      row_table f = all_fail (row_ok img end) t more (row_answer ∙ f) r.same

      pub row_next : ok ≡ true → Rows img end (o + 16 * row_count img t) (t + 1)
      unfolding sum_to
      row_next y =
          let next : t + 1 ≡ suc t = omega arith in
          record {
            few = omega arith;
            place = rw next (omega (arith, r.place));
            inside = row_room even there;
            same = all_pass (row_ok img end) t more (row_answer ∙ y) r.same;
          }

-- What each check of rows and tables says. Assumes nothing.
use Prim.Native.Nat.{ℕ, zero, suc, ◌+◌, ◌*◌, ◌/◌, ◌≤◌, ◌<◌}
use native.Mathlib.Omega.{arith}
use native.Mathlib.Decide.{ℕ_discrete}
use mathlib.Core.Path.{◌≡◌, refl, ap, ap₂, ◌∙◌}
use mathlib.Core.Bool.{Bool, true, false, cond, not, ◌&&◌, ◌||◌}
use mathlib.Core.List.{List}
use lib.ListN.{length, get_or}
use lib.Dec.{eqb, ltb}
use borrow.Author.Tests.{lt-ltb, ltb-false, eqb-true, eq-eqb, ne_eqb, not-false}
use Rattle.jhash.specs.Outcome.{value, refusal}
use Rattle.image.specs.Bytes.{word, all}
use Rattle.image.specs.Head.{table_at, bucket_number, table_past_end}
use Rattle.image.specs.Image.{Placed, count, entries_before}
use Rattle.image.specs.Tables.{Bucket, empty}
use Rattle.image.specs.Steps.Contracts.{offset_at}
use Rattle.image.proofs.AllOfRange.{all_each, all_true}
use Rattle.image.proofs.Bools.{false_not_true, and_first, and_second, and_both, or_false_first, or_false_second, chose_second}
use Rattle.reader.specs.Open.{opening, has_letters, some_past_end}
use Rattle.canonical.specs.Steps.HiddenBuckets.{sum_to, used_to}
use Rattle.canonical.specs.Steps.InPlace.{bucket_at}
use Rattle.canonical.specs.Steps.Checks.{clean, table_ok, row_count, table_place, row_ok, rows_ok, counts_match, TablesInside, TablesHeld}

-- three tests hold
pub and3_facts : (a b c : Bool) → (a && b && c) ≡ true → (a ≡ true) × (b ≡ true) × (c ≡ true)
and3_facts true true c h = (refl, refl, h)
and3_facts true false c h = absurd (false_not_true h)
and3_facts false b c h = absurd (false_not_true h)

-- ---- opening

pub record Opens (img : List ℕ) : Type 0 where
  pub letters : has_letters img ≡ true
  pub order : word img 12 ≡ 0x62445371
  pub tables : some_past_end img 0 256 ≡ false

pub never_value : (k n : ℕ) → refusal k ≡ value n → ⊥
never_value k n e = let z : ◌≡◌ {A = ℕ} 0 1 = cc in omega arith

pub opens : (img : List ℕ) (n : ℕ) → opening img ≡ value n → Opens img
unfolding opening
opens img n e =
    let (a, e1) = chose_second (ltb (length img) 2072) (refusal 1) _ (value n) (never_value 1 n) e in
    let (b, e2) = chose_second (not (has_letters img)) (refusal 5) _ (value n) (never_value 5 n) e1 in
    let (c, e3) = chose_second (not (eqb (word img 12) 0x62445371)) (refusal 6) _ (value n) (never_value 6 n) e2 in
    let (d, e4) = chose_second (some_past_end img 0 256) (refusal 7) _ (value n) (never_value 7 n) e3 in
    record { letters = not-false _ b; order = eqb-true (word img 12) 0x62445371 (not-false _ c); tables = d }

none_past_end : (img : List ℕ) (t m k : ℕ) → some_past_end img t m ≡ false → t ≤ k → k < t + m → 0 < table_at img k
    → table_at img k + 8 * bucket_number img k ≤ length img
unfolding some_past_end
none_past_end img t zero k e l h some = absurd (omega arith)
none_past_end img t (suc m) k e l h some = elim (ℕ_discrete t k) [
  | yes y ↦ inside_here (rw y at e)
  | no d ↦ none_past_end img (suc t) m k (or_false_second (ltb 0 (table_at img t) && table_past_end img t) _ e) (omega arith) (omega arith) some
]
  where
    inside_here : ((ltb 0 (table_at img k) && table_past_end img k) || some_past_end img (suc k) m) ≡ false → table_at img k
        + 8 * bucket_number img k ≤ length img
    inside_here f =
        let x = or_false_first (ltb 0 (table_at img k) && table_past_end img k) (some_past_end img (suc k) m) f in
        ltb-false (length img) (table_at img k + 8 * bucket_number img k) (rw (lt-ltb 0 (table_at img k) some) at x)

pub opened_inside : (img : List ℕ) (n : ℕ) → opening img ≡ value n → TablesInside img
opened_inside img n e t h some = none_past_end img 0 256 t (opens img n e).tables (omega arith) (omega arith) some

-- ---- one table

-- a test of each number below n
below_each : (f : ℕ → Bool) (n k : ℕ) → all f 0 n ≡ true → k < n → f k ≡ true
below_each f n k h l = let z : 0 + k ≡ k = omega arith in rw z at (all_each f 0 n k h l)

below_all : (f : ℕ → Bool) (n : ℕ) → ((k : ℕ) → k < n → f k ≡ true) → all f 0 n ≡ true
below_all f n each = all_true f 0 n (λ k l. let z : 0 + k ≡ k = omega arith in rw z (each k l))

module _ (img : List ℕ) (o c : ℕ) where
  abbrev Zeros : Type 0
  Zeros = (k : ℕ) → k < 2 * c → offset_at img o k ≡ 0 → bucket_at img o k ≡ empty

  pub table_facts : table_ok img o c ≡ true → Zeros × (used_to (offset_at img o) (2 * c) ≡ c)
  unfolding table_ok
  table_facts h =
      let cleans = all (clean img o) 0 (2 * c) in
      ((λ k l z. zero k z (below_each (clean img o) (2 * c) k (and_first cleans _ h) l)), eqb-true _ c (and_second cleans _ h))
    where
      zero : (k : ℕ) → offset_at img o k ≡ 0 → clean img o k ≡ true → bucket_at img o k ≡ empty
      zero k z t =
          let e : word img (o + 8 * k) ≡ 0 = eqb-true (word img (o + 8 * k)) 0 (rw (eq-eqb (offset_at img o k) 0 z) at t) in
          λ i. record { hash = e i; at = z i }

  pub table_checked : Zeros → used_to (offset_at img o) (2 * c) ≡ c → table_ok img o c ≡ true
  unfolding table_ok
  table_checked z u = and_both (all (clean img o) 0 (2 * c)) _ (below_all (clean img o) (2 * c) each) (eq-eqb (used_to (offset_at img o) (2 * c)) c u)
    where
      each : (k : ℕ) → k < 2 * c → clean img o k ≡ true
      each k l =
          elim (ℕ_discrete (offset_at img o k) 0) [
            | yes a ↦
                let b : word img (o + 8 * k) ≡ 0 = ap (λ (b : Bucket). b.hash) (z k l a) in
                rw (eq-eqb (offset_at img o k) 0 a) (eq-eqb (word img (o + 8 * k)) 0 b)
            | no d ↦ rw (ne_eqb (offset_at img o k) 0 d)
          ]

-- ---- all rows

-- what row t and its table are
pub record Row (img : List ℕ) (end t : ℕ) : Type 0 where
  pub number : bucket_number img t ≡ 2 * row_count img t
  pub offset : table_at img t ≡ cond (eqb (row_count img t) 0) 0 (table_place img end t)
  pub table : table_ok img (table_place img end t) (row_count img t) ≡ true

module _ (img : List ℕ) (end : ℕ) where
  pub row_facts : rows_ok img end ≡ true → (t : ℕ) → t < 256 → Row img end t
  unfolding row_ok
  row_facts h t l =
      let wanted : ℕ = cond (eqb (row_count img t) 0) 0 (table_place img end t) in
      let (number, offset, table) = and3_facts (eqb (bucket_number img t) (2 * row_count img t)) (eqb (table_at img t) wanted) _
      (below_each (row_ok img end) 256 t h l) in
      record { number = eqb-true (bucket_number img t) (2 * row_count img t) number; offset = eqb-true (table_at img t) wanted offset; table = table }

  pub row_checked : ((t : ℕ) → t < 256 → Row img end t) → rows_ok img end ≡ true
  unfolding row_ok
  row_checked rows = below_all (row_ok img end) 256 one
    where
      one : (t : ℕ) → t < 256 → row_ok img end t ≡ true
      one t l =
          let r = rows t l in
          let wanted : ℕ = cond (eqb (row_count img t) 0) 0 (table_place img end t) in
          rw (eq-eqb (bucket_number img t) (2 * row_count img t) r.number, eq-eqb (table_at img t) wanted r.offset) r.table

  -- a table with buckets is where its row must say
  pub row_place : {t : ℕ} → Row img end t → 0 < bucket_number img t → table_at img t ≡ table_place img end t
  row_place {t} r some = r.offset ∙ ap (λ (b : Bool). cond b 0 (table_place img end t)) (ne_eqb (row_count img t) 0 (λ z. omega (arith, r.number)))

  -- and so it lies in the image
  pub rows_held : TablesInside img → 0 < end → rows_ok img end ≡ true → TablesHeld img
  rows_held inside pos h t l some = inside t l (omega (arith, row_place (row_facts h t l) some))

-- ---- the numbers of entries

module _ (img counts : List ℕ) where
  abbrev matches : ℕ → Bool
  matches t = eqb (bucket_number img t) (2 * get_or counts t 0)

  pub counts_facts : counts_match img counts ≡ true → (t : ℕ) → t < 256 → bucket_number img t ≡ 2 * get_or counts t 0
  counts_facts h t l = eqb-true (bucket_number img t) (2 * get_or counts t 0) (below_each matches 256 t h l)

  pub counts_checked : ((t : ℕ) → t < 256 → bucket_number img t ≡ 2 * get_or counts t 0) → counts_match img counts ≡ true
  counts_checked h = below_all matches 256 (λ t l. eq-eqb (bucket_number img t) (2 * get_or counts t 0) (h t l))

-- where the rows have the entries' numbers
module _ (img : List ℕ) (ps : List Placed) (numbers : (t : ℕ) → t < 256 → bucket_number img t ≡ 2 * count t ps) where
  pub row_count_lem : (t : ℕ) → t < 256 → row_count img t ≡ count t ps
  row_count_lem t h = half (bucket_number img t) (count t ps) (numbers t h)
    where
      half : (x y : ℕ) → x ≡ 2 * y → x / 2 ≡ y
      half x y e = omega arith

  pub rows_before : (t : ℕ) → t ≤ 256 → sum_to (row_count img) t ≡ entries_before t ps
  unfolding sum_to entries_before
  rows_before zero h = refl
  rows_before (suc t) h = ap₂ ◌+◌ (rows_before t (omega arith)) (row_count_lem t (omega arith))

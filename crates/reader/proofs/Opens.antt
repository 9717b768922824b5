-- The pass over the tables' rows, a step at a time, and the cases of opening. Assumes nothing.
use Rattle.std.proofs.Common.{◌≡◌, ℕ, zero, suc, ◌+◌, ◌-◌, ◌*◌, ◌/◌, ◌%◌, ◌^◌, ◌<◌, ◌≤◌, Bool, false, cond, not, ◌&&◌, ◌||◌, eqb, ltb, List, length}
use Rattle.std.proofs.Common.{sym, refl, ap, ◌∙◌, add-one, arith, le-ltb}
use mathlib.Core.Bool.{and-false}
use Rattle.std.specs.List.{list_any, range_with_len}
use Rattle.jhash.specs.Outcome.{value, refusal}
use Rattle.image.specs.Bytes.{word}
use Rattle.image.specs.Head.{table_at, bucket_number, back_offset_at, table_past_end, back_past_end}
use Rattle.reader.specs.declared.opening.TableSums.{TableSums}
use Rattle.reader.specs.Open.{some_past_end, num_from, has_letters, opening}

-- ---- the loops over the rows

-- the sum so far and the halves that are left are the sum of all; while no slack is too large, a table that reaches past the end is still to
-- come exactly where there is one
pub record TablesInv (image : List ℕ) (all : TableSums) (t : ℕ) : Type 0 where
  pub rows : t ≤ 256
  pub num_small : all.num < 2 ^ 32
  pub sum : (all.num + num_from image t (256 - t)) % 2 ^ 32 ≡ num_from image 0 256 % 2 ^ 32
  pub past_end : all.slacks < 2 ^ 63 → some_past_end image t (256 - t) ≡ some_past_end image 0 256

-- one table more of m that are left
left_one : (t m : ℕ) → t < m → m - t ≡ suc (m - (t + 1))
left_one t m h = omega arith

num_from_more : (image : List ℕ) (t k : ℕ) → num_from image t (suc k) ≡ bucket_number image t / 2 + num_from image (suc t) k
unfolding num_from
num_from_more image t k = refl

past_end_more : (image : List ℕ) (t k : ℕ) → some_past_end image t (suc k) ≡ (ltb 0 (table_at image t) && table_past_end image t)
    || some_past_end image (suc t) k
unfolding some_past_end
past_end_more image t k = refl

pub num_from_step : (image : List ℕ) (t m : ℕ) → t < m → num_from image t (m - t) ≡ bucket_number image t / 2 + num_from image (t + 1) (m - (t + 1))
num_from_step image t m h =
    ap (num_from image t) (left_one t m h) ∙ num_from_more image t (m - (t + 1))
    ∙ ap (λ (k : ℕ). bucket_number image t / 2 + num_from image k (m - (t + 1))) (sym (add-one t))

pub past_end_step : (image : List ℕ) (t m : ℕ) → t < m
    → some_past_end image t (m - t) ≡ (ltb 0 (table_at image t) && table_past_end image t) || some_past_end image (t + 1) (m - (t + 1))
past_end_step image t m h =
    ap (some_past_end image t) (left_one t m h) ∙ past_end_more image t (m - (t + 1))
    ∙ ap (λ (k : ℕ). (ltb 0 (table_at image t) && table_past_end image t) || some_past_end image k (m - (t + 1))) (sym (add-one t))

-- a table that ends in the image changes nothing
pub past_end_pass : (image : List ℕ) (t m a n : ℕ) → t < m → a ≡ table_at image t → n ≡ bucket_number image t → a + 8 * n ≤ length image
    → some_past_end image (t + 1) (m - (t + 1)) ≡ some_past_end image t (m - t)
past_end_pass image t m a n h ea en l =
    sym
    (past_end_step image t m h
    ∙ ap (λ (c : Bool). (ltb 0 (table_at image t) && c) || some_past_end image (t + 1) (m - (t + 1)))
    ((λ i. ltb (length image) (sym ea i + 8 * sym en i)) ∙ le-ltb (length image) (a + 8 * n) l)
    ∙ ap (λ (c : Bool). c || some_past_end image (t + 1) (m - (t + 1))) (and-false (ltb 0 (table_at image t))))

-- no table is left
pub num_from_none : (image : List ℕ) (t : ℕ) → num_from image t 0 ≡ 0
unfolding num_from
num_from_none image t = refl

pub past_end_none : (image : List ℕ) (t : ℕ) → some_past_end image t 0 ≡ false
unfolding some_past_end
past_end_none image t = refl

-- a chain's test of the tables from t on
pub some_of_range : (image : List ℕ) (m t : ℕ)
    → list_any (λ (k : ℕ). ltb 0 (table_at image k) && table_past_end image k) (range_with_len t m) ≡ some_past_end image t m
unfolding some_past_end
some_of_range image zero t = refl
some_of_range image (suc m) t =
    ap (λ (b : Bool). (ltb 0 (table_at image t) && table_past_end image t) || b)
    (some_of_range image m (t + 1) ∙ ap (λ (k : ℕ). some_past_end image k m) (add-one t))

-- a sum modulo 2^32 takes one more, and at its end is the whole
pub sum_step : (k half r rest now all : ℕ) → (k + now) % 2 ^ 32 ≡ all % 2 ^ 32 → now ≡ half + rest → r ≡ (k + half) % 2 ^ 32
    → (r + rest) % 2 ^ 32 ≡ all % 2 ^ 32
sum_step k half r rest now all e f g = omega arith

pub sum_end : (k now all : ℕ) → k < 2 ^ 32 → (k + now) % 2 ^ 32 ≡ all % 2 ^ 32 → now ≡ 0 → k ≡ all % 2 ^ 32
sum_end k now all l e f = omega arith

-- opening by its five tests
pub opening_by : (image : List ℕ) (s l w t b : Bool)
    → ltb (length image) 2072 ≡ s → has_letters image ≡ l → eqb (word image 12) 0x62445371 ≡ w → some_past_end image 0 256 ≡ t
    → (ltb 0 (back_offset_at image) && back_past_end image) ≡ b
    → cond s (refusal 1)
    (cond (not l) (refusal 5)
    (cond (not w) (refusal 6) (cond t (refusal 7) (cond b (refusal 8) (value (num_from image 0 256 % 2 ^ 32))))))
    ≡ opening image
unfolding opening
opening_by image s l w t b es el ew et eb =
    sym
    (λ i. cond (es i) (refusal 1)
    (cond (not (el i)) (refusal 5)
    (cond (not (ew i)) (refusal 6) (cond (et i) (refusal 7) (cond (eb i) (refusal 8) (value (num_from image 0 256 % 2 ^ 32)))))))

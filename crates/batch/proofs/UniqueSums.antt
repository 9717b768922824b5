-- The buckets of the unique names, added up: the sum over the different names. Assumes nothing.
use Prim.Native.Nat.{ℕ, suc, ◌+◌, ◌*◌, ◌≤◌, ◌<◌}
use native.Mathlib.Omega.{arith}
use native.Mathlib.Decide.{ℕ_discrete}
use native.Mathlib.Numerals.{add-one}
use mathlib.Core.Path.{◌≡◌, refl, sym, ap, ◌∙◌}
use mathlib.Core.Bool.{Bool, true, false}
use mathlib.Core.List.{List, [], ◌∷◌, ◌++◌}
use lib.ListN.{length, get_or, take, drop, drop_of_length-le}
use lib.Seq.{drop-cons, take-suc}
use Rattle.reader.specs.Lookup.{Lookup, found, nothing, lookup}
use Rattle.reader.specs.Cases.{reads}
use Rattle.batch.specs.RoundNames.{among, new_only, different_from, different, nth}
use Rattle.batch.specs.Round.{answer_words, buckets_read, round_buckets}
use Rattle.batch.specs.Steps.Answers.{UniqueAnswered}
use Rattle.batch.proofs.Different.{seen_before, not_seen_before}

-- the buckets of the different names from the i-th on
abbrev pub buckets_from : List ℕ → List (List ℕ) → ℕ → ℕ
buckets_from image xs i = buckets_read image (different_from (take i xs) (drop i xs))

pub sum_start : (image : List ℕ) (xs : List (List ℕ)) → 0 + buckets_from image xs 0 ≡ round_buckets image xs
unfolding different
sum_start image xs = omega arith

-- the buckets read are an answer's third word
third_word : (x : Lookup) → get_or (answer_words x) 2 0 ≡ reads x
third_word (found f) = refl
third_word (nothing n) = refl

module _ {image : List ℕ} {xs : List (List ℕ)} {equals answers : List ℕ} {n : ℕ} (u : UniqueAnswered image xs equals answers n) where
  -- one name more
  more : (i : ℕ) → i < n → (t : Bool) → among (nth xs i) (take i xs) ≡ t
      → buckets_from image xs i ≡ buckets_read image (new_only t (nth xs i) (different_from (take (i + 1) xs) (drop (i + 1) xs)))
  unfolding different_from
  more i h t e =
      let inside : i < length xs = omega (arith, u.size) in
      let s : suc i ≡ i + 1 = sym (add-one i) in
      ap (λ (l : List (List ℕ)). buckets_read image (different_from (take i xs) l)) (drop-cons xs i [] inside)
      ∙ ap (λ (b : Bool). buckets_read image (new_only b (nth xs i) (different_from (take i xs ++ nth xs i ∷ []) (drop (suc i) xs)))) e
      ∙ ap (λ (seen : List (List ℕ)). buckets_read image (new_only t (nth xs i) (different_from seen (drop (suc i) xs)))) (sym (take-suc xs i [] inside))
      ∙ ap (λ (k : ℕ). buckets_read image (new_only t (nth xs i) (different_from (take k xs) (drop k xs)))) s

  pub sum_step : (i s b : ℕ) → i < n → (get_or equals i 0 ≡ 0 → b ≡ get_or answers (4 * i + 2) 0) → (0 < get_or equals i 0 → b ≡ 0)
      → s + buckets_from image xs i ≡ round_buckets image xs → s + b + buckets_from image xs (i + 1) ≡ round_buckets image xs
  unfolding buckets_read
  sum_step i s b h own none all =
      elim (ℕ_discrete (get_or equals i 0) 0) [
        | yes z ↦
            (let read : b ≡ reads (lookup image (nth xs i)) = own z ∙ u.have_answers i h z 2 (omega arith) ∙ third_word (lookup image (nth xs i)) in
            omega (arith, more i h false (not_seen_before (u.equal i h) z)))
        | no z ↦ omega (arith, none (omega arith), more i h true (seen_before (u.equal i h) (omega (arith, u.size)) (omega arith)))
      ]

  pub sum_end : (i s : ℕ) → n ≤ i → s + buckets_from image xs i ≡ round_buckets image xs → s ≡ round_buckets image xs
  unfolding buckets_read different_from
  sum_end i s h all =
      let none : buckets_from image xs i ≡ 0 =
      ap (λ (l : List (List ℕ)). buckets_read image (different_from (take i xs) l)) (drop_of_length-le xs {i = i} (omega (arith, u.size))) in
      omega arith

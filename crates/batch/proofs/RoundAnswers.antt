-- A round as a whole: what it gives by its tests, and the answer list afterwards. Assumes nothing.
use Prim.Native.Nat.{ℕ, ◌*◌, ◌/◌, ◌<◌}
use native.Mathlib.Omega.{arith}
use mathlib.Core.Path.{◌≡◌, sym, ap}
use mathlib.Core.Bool.{Bool, cond, ◌||◌}
use mathlib.Core.List.{List, []}
use lib.Dec.{ltb}
use lib.ListN.{length}
use Rattle.jhash.specs.Outcome.{Outcome, value, refusal}
use Rattle.reader.specs.Lookup.{lookup}
use Rattle.batch.specs.RoundNames.{names, invalid_ends}
use Rattle.batch.specs.Round.{answer_words, round_words, round_buckets, round_outcome, left_by, after_round}
use Rattle.batch.specs.Steps.Duplicates.{Deduplicated}
use Rattle.batch.specs.Steps.Answers.{HasAnswer, ListedHaveAnswers, UniqueAnswered}
use Rattle.batch.proofs.IndexLists.{listed_has}
use Rattle.batch.proofs.AnswerPlaces.{placed_words, length_words}

-- ---- the answer

pub outcome_by : (image bytes ends : List ℕ) (places : ℕ) (a b d : Bool)
    → ltb 512 (length ends) ≡ a → invalid_ends (length bytes) 0 ends ≡ b → ltb places (length ends) ≡ d
    → cond (a || b) (refusal 14) (cond d (refusal 15) (value (round_buckets image (names bytes ends)))) ≡ round_outcome image bytes ends places
unfolding round_outcome
outcome_by image bytes ends places a b d ea eb ed =
    sym (λ i. cond (ea i || eb i) (refusal 14) (cond (ed i) (refusal 15) (value (round_buckets image (names bytes ends)))))

pub left : (image bytes ends answers : List ℕ) (o : Outcome ℕ) → o ≡ round_outcome image bytes ends (length answers / 4)
    → left_by image (names bytes ends) answers o ≡ after_round image bytes ends answers
unfolding after_round
left image bytes ends answers o e = ap (left_by image (names bytes ends) answers) e

-- ---- the answer list

pub all_words : (image : List ℕ) (xs : List (List ℕ)) (l : List ℕ) {n : ℕ} → length xs ≡ n → length l ≡ 4 * n
    → ((i : ℕ) → i < n → HasAnswer image xs l i) → l ≡ round_words image xs
unfolding round_words
all_words image xs l size places right =
    placed_words [] (λ (x : List ℕ). answer_words (lookup image x)) (λ x. length_words (lookup image x)) xs l (omega arith) (λ i h. right i (omega arith))

-- the listed names have their answers, and they are the unique ones
pub unique_answered : {image : List ℕ} {xs : List (List ℕ)} {equals list answers : List ℕ} {n m : ℕ} → length xs ≡ n
    → Deduplicated xs equals list n m → ListedHaveAnswers image xs list answers m → UniqueAnswered image xs equals answers n
unique_answered {image} {xs} {answers = answers} size names stored =
    record { size = size; equal = names.equal; have_answers = λ i h u. listed_has (HasAnswer image xs answers) stored (names.listed i h u) }

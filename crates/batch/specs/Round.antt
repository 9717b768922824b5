-- A whole round in one call, names in and ids out: 02 (vii).
use Rattle.std.specs.Prelude.{ℕ, ◌+◌, ◌*◌, ◌/◌, cond, ◌||◌, List, [], ◌∷◌, ◌++◌, length, drop, ltb}
use Rattle.jhash.specs.Outcome.{Outcome, value, refusal}
use Rattle.image.specs.Bytes.{cat}
use Rattle.reader.specs.Lookup.{Lookup, found, nothing, lookup}
use Rattle.reader.specs.Cases.{reads}
use Rattle.batch.specs.RoundNames.{most_names, names, invalid_ends, different}
use Rattle.jhash.specs.Refusals as refused

-- "The answers are those of single lookups in the same order": an answer in its place, four words. 1, the id, the
-- buckets read and the offset; or 0 and the buckets read, with 0 for id and offset
abbrev pub answer_words : Lookup → List ℕ
answer_words (found f) = 1 ∷ f.id ∷ f.buckets ∷ f.offset ∷ []
answer_words (nothing n) = 0 ∷ 0 ∷ n ∷ 0 ∷ []

unfoldable pub round_words : List ℕ → List (List ℕ) → List ℕ
round_words image xs = cat (λ (x : List ℕ). answer_words (lookup image x)) xs

-- the buckets that single lookups of some names read
unfoldable pub buckets_read : List ℕ → List (List ℕ) → ℕ
buckets_read image [] = 0
buckets_read image (x ∷ xs) = reads (lookup image x) + buckets_read image xs

-- "The call's bucket count is the sum over the different names"
abbrev pub round_buckets : List ℕ → List (List ℕ) → ℕ
round_buckets image xs = buckets_read image (different xs)

-- "Over 512 names, or ends that fall or pass the bytes, give 14"; "then an answer list shorter than the names gives 15"
unfoldable pub round_outcome : List ℕ → List ℕ → List ℕ → ℕ → Outcome ℕ
round_outcome image bytes ends places =
    cond (ltb most_names (length ends) || invalid_ends (length bytes) 0 ends) (refusal refused.round_unfit)
    (cond (ltb places (length ends)) (refusal refused.answers_too_few) (value (round_buckets image (names bytes ends))))

-- the answer list afterwards: "answer places past the last name keep their content"; all as it was where the call is
-- refused
abbrev pub left_by : List ℕ → List (List ℕ) → List ℕ → Outcome ℕ → List ℕ
left_by image xs answers (value n) = round_words image xs ++ drop (4 * length xs) answers
left_by image xs answers (refusal k) = answers

-- a place is four words
unfoldable pub after_round : List ℕ → List ℕ → List ℕ → List ℕ → List ℕ
after_round image bytes ends answers =
    left_by image (names bytes ends) answers (round_outcome image bytes ends (length answers / 4))

-- What is proved of a round (`round_holds` in proofs/Theorem): the sentences of 02 (vii), over the definitions that the
-- calls' promises cite.
use Rattle.std.specs.Prelude.{ℕ, ◌*◌, ◌/◌, ◌≤◌, ◌<◌, ◌≡◌, false, List, length, get_or, take, drop}
use Rattle.jhash.specs.Outcome.{value, refusal}
use Rattle.reader.specs.Lookup.{lookup}
use Rattle.reader.specs.Naming.{naming}
use Rattle.batch.specs.RoundNames.{names, invalid_ends, among, different, packed_bytes, ends_from, nth}
use Rattle.batch.specs.Round.{answer_words, buckets_read, round_buckets, round_outcome, after_round}
use Rattle.batch.specs.NameRound.{place_words, name_refusal, after_names}

-- no two of the names are equal
abbrev pub Distinct : List (List ℕ) → Type 0
Distinct xs = (i j : ℕ) → i < j → j < length xs → nth xs i ≡ nth xs j → ⊥

-- the words of the i-th place of an answer list
abbrev pub place_at : List ℕ → ℕ → List ℕ
place_at answers i = take 4 (drop (4 * i) answers)

-- a round that is accepted, with its bucket count
pub record RoundAccepted (image bytes ends answers : List ℕ) : Type 0 where
  pub count : ℕ
  pub given : round_outcome image bytes ends (length answers / 4) ≡ value count

-- "the different names": no name twice among them, and the same names as before
pub record OnceEach (xs : List (List ℕ)) : Type 0 where
  pub no_two : Distinct (different xs)
  pub same_names : (x : List ℕ) → among x (different xs) ≡ among x xs

pub record RoundHolds : Type 0 where
  -- "names lie joined in a buffer, with a list of their ends": every list of names can be handed over so, and is read
  -- back
  pub reads_back : (xs : List (List ℕ)) → names (packed_bytes xs) (ends_from 0 xs) ≡ xs
  pub ends_valid : (xs : List (List ℕ)) → invalid_ends (length (packed_bytes xs)) 0 (ends_from 0 xs) ≡ false
  -- "The answers are those of single lookups in the same order"
  pub single : (image bytes ends answers : List ℕ) → RoundAccepted image bytes ends answers → (i : ℕ)
      → i < length ends
      → place_at (after_round image bytes ends answers) i ≡ answer_words (lookup image (nth (names bytes ends) i))
  -- so the order of the names does not change an answer: a name has one answer at every place of every round on the
  -- image
  pub order_free : (image bytes ends answers bytes' ends' answers' : List ℕ)
      → RoundAccepted image bytes ends answers → RoundAccepted image bytes' ends' answers'
      → (i j : ℕ) → i < length ends → j < length ends'
      → nth (names bytes ends) i ≡ nth (names bytes' ends') j
      → place_at (after_round image bytes ends answers) i ≡ place_at (after_round image bytes' ends' answers') j
  -- "The call's bucket count is the sum over the different names"
  pub counted : (image bytes ends answers : List ℕ) (a : RoundAccepted image bytes ends answers)
      → a.count ≡ buckets_read image (different (names bytes ends))
  pub once_each : (xs : List (List ℕ)) → OnceEach xs
  -- "so never above that of single calls"; with all names different it is that sum
  pub not_above : (image : List ℕ) (xs : List (List ℕ)) → round_buckets image xs ≤ buckets_read image xs
  pub all_different : (image : List ℕ) (xs : List (List ℕ)) → Distinct xs
      → round_buckets image xs ≡ buckets_read image xs
  -- "answer places past the last name keep their content"; a refusal writes nothing
  pub past_kept : (image bytes ends answers : List ℕ) → RoundAccepted image bytes ends answers
      → drop (4 * length ends) (after_round image bytes ends answers) ≡ drop (4 * length ends) answers
  pub refused_kept : (image bytes ends answers : List ℕ) (k : ℕ)
      → round_outcome image bytes ends (length answers / 4) ≡ refusal k
      → after_round image bytes ends answers ≡ answers
  -- ids in and names out: each place holds the single naming of its id; places past the last keep their content; a
  -- refusal writes nothing
  pub named : (image ids answers : List ℕ) → name_refusal ids (length answers / 4) ≡ 0 → (i : ℕ)
      → i < length ids
      → place_at (after_names image ids answers) i ≡ place_words (naming image (get_or ids i 0))
  pub names_past_kept : (image ids answers : List ℕ) → name_refusal ids (length answers / 4) ≡ 0
      → drop (4 * length ids) (after_names image ids answers) ≡ drop (4 * length ids) answers
  pub names_refused_kept : (image ids answers : List ℕ) → 0 < name_refusal ids (length answers / 4)
      → after_names image ids answers ≡ answers

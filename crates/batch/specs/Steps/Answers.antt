-- What the steps that store a round's answers ask and promise. An answer is four words in its name's place.
use Rattle.std.specs.Prelude.{ℕ, ◌+◌, ◌*◌, ◌≤◌, ◌<◌, ◌≡◌, List, [], ◌∷◌, length, get_or, set}
use Rattle.image.specs.Image.{head_size}
use Rattle.reader.specs.Lookup.{lookup}
use Rattle.batch.specs.RoundNames.{most_names, nth}
use Rattle.batch.specs.Round.{answer_words, round_words, round_buckets}
use Rattle.batch.specs.declared.names.Round.{Round}
use Rattle.batch.specs.Steps.Duplicates.{round_names, Listed, RisingTo, EqualBefore, IsFirst, IsUnique}
use Rattle.batch.specs.Steps.Probing.{SearchOpen, SearchDecided}

-- four words stored in the i-th place, and the words in it
abbrev pub put_words : List ℕ → ℕ → List ℕ → List ℕ
put_words l i ws =
    set (set (set (set l (4 * i) (get_or ws 0 0)) (4 * i + 1) (get_or ws 1 0)) (4 * i + 2) (get_or ws 2 0)) (4 * i + 3)
    (get_or ws 3 0)

abbrev pub words_in : List ℕ → ℕ → List ℕ
words_in l i = get_or l (4 * i) 0 ∷ get_or l (4 * i + 1) 0 ∷ get_or l (4 * i + 2) 0 ∷ get_or l (4 * i + 3) 0 ∷ []

-- there is an i-th place
abbrev pub HasPlace : List ℕ → ℕ → Type 0
HasPlace l i = 4 * i + 4 ≤ length l

pub record CopyAnswerPre (answers : List ℕ) (from to : ℕ) : Type 0 where
  pub source : HasPlace answers from
  pub target : HasPlace answers to

-- a place holds these words
abbrev pub Has : List ℕ → ℕ → List ℕ → Type 0
Has answers i words = (w : ℕ) → w < 4 → get_or answers (4 * i + w) 0 ≡ get_or words w 0

-- the place of the i-th name holds its answer
abbrev pub HasAnswer : List ℕ → List (List ℕ) → List ℕ → ℕ → Type 0
HasAnswer image xs answers i = Has answers i (answer_words (lookup image (nth xs i)))

pub record AnswerAllPre (ends answers : List ℕ) : Type 0 where
  pub few : length ends ≤ most_names
  pub places : length answers ≡ 4 * length ends

-- all names have their answers, and r buckets were read over the different ones
pub record AnsweredAll (image : List ℕ) (xs : List (List ℕ)) (answers : List ℕ) (r : ℕ) : Type 0 where
  pub count : r ≡ round_buckets image xs
  pub stored : answers ≡ round_words image xs

-- ---- the searches

-- passes are made only over an image with a head, for names that are not too long
pub record PassCount (image bytes : List ℕ) (r : ℕ) : Type 0 where
  pub few : r ≤ 8
  pub head : 0 < r → head_size ≤ length image
  pub short : 0 < r → length bytes < 4294967295

pub record PutDecidedPre (image name answers : List ℕ) (h offset c i : ℕ) : Type 0 where
  pub short : length name < 4294967295
  pub inside : HasPlace answers i
  pub small : c ≤ 512
  pub decided : SearchDecided image h c offset

-- some of the names are listed, and there is a place for the answer of each. Their indexes rise, and no name before one
-- of them equals it: so no two of them are equal
pub record ListedNames (round : Round) (list answers : List ℕ) : Type 0 where
  pub first : (x : ℕ) → x < length list → IsFirst (round_names round) (get_or list x 0)
  pub rising : RisingTo list (length list)
  pub places : 4 * length round.names.ends.now ≤ length answers
  pub few : length list ≤ most_names
  pub below : (x : ℕ) → x < length list → get_or list x 0 < length round.names.ends.now

-- the c-th buckets of their searches have these offsets
pub record DecidedNames (round : Round) (list offsets answers : List ℕ) (c : ℕ) : Type 0 where
  pub listed : ListedNames round list answers
  pub short : length round.names.bytes.now < 4294967295
  pub small : c ≤ 512
  pub capacity : length list ≤ length offsets
  pub decided : (x : ℕ) → x < length list
      → SearchDecided round.image.now (get_or round.hashes.now (get_or list x 0) 0) c (get_or offsets x 0)

-- their searches are open after c buckets
pub record OpenNames (round : Round) (list answers : List ℕ) (c : ℕ) : Type 0 where
  pub listed : ListedNames round list answers
  pub small : c ≤ 512
  pub is_open : (x : ℕ) → x < length list
      → SearchOpen round.image.now (get_or round.hashes.now (get_or list x 0) 0) c

-- the first m listed names have their answers
abbrev pub ListedHaveAnswers : List ℕ → List (List ℕ) → List ℕ → List ℕ → ℕ → Type 0
ListedHaveAnswers image xs list answers m = (x : ℕ) → x < m → HasAnswer image xs answers (get_or list x 0)

-- and a name that has its answer keeps it; the places of names that are not listed keep their words
pub record Answered (round : Round) (list before after : List ℕ) (m : ℕ) : Type 0 where
  pub stays : (i : ℕ) → HasAnswer round.image.now (round_names round) before i
      → HasAnswer round.image.now (round_names round) after i
  pub stored : ListedHaveAnswers round.image.now (round_names round) list after m
  pub others : (i : ℕ) → (Listed list m i → ⊥) → Has after i (words_in before i)

-- ---- duplicates

-- the unique ones of n names have their answers
pub record UniqueAnswered (image : List ℕ) (xs : List (List ℕ)) (equals answers : List ℕ) (n : ℕ) : Type 0 where
  pub size : length xs ≡ n
  pub equal : (i : ℕ) → i < n → EqualBefore xs i (get_or equals i 0)
  pub have_answers : (i : ℕ) → i < n → IsUnique equals i → HasAnswer image xs answers i

-- for each name the number of an equal one before it, counted from 1, or 0; and the names' places
pub record EqualsPre (equals answers : List ℕ) : Type 0 where
  pub few : length equals ≤ most_names
  pub places : 4 * length equals ≤ length answers
  pub earlier : (i : ℕ) → i < length equals → get_or equals i 0 ≤ i

-- the sum of the buckets read, each name counted once
abbrev pub SumsUnique : List ℕ → List ℕ → ℕ → Type 0
SumsUnique equals answers r =
    (image : List ℕ) (xs : List (List ℕ)) → UniqueAnswered image xs equals answers (length equals)
    → r ≡ round_buckets image xs

-- with the answers of unique names in `before`, all names have theirs
abbrev pub AllAnswered : List ℕ → List ℕ → List ℕ → Type 0
AllAnswered equals before after =
    (image : List ℕ) (xs : List (List ℕ)) → UniqueAnswered image xs equals before (length equals) → (i : ℕ)
    → i < length equals → HasAnswer image xs after i

-- the place of an answer to copy: its own, or that of the equal name before, whose number, counted from 1, is q
pub record Source (i q r : ℕ) : Type 0 where
  pub own : q ≡ 0 → r ≡ i
  pub earlier : 0 < q → r + 1 ≡ q
  pub below : r ≤ i

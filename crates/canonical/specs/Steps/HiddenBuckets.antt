-- When the buckets of a table or the words of a back array are those of some entries, decided without building them
-- again: 02 (ix). Offsets rise in put order, and an insertion moves nothing. So the table before a put is the finished
-- one without the entries from that put on.
use Rattle.std.specs.Prelude.{ℕ, zero, suc, ◌+◌, ◌≤◌, ◌<◌, ◌≡◌, cond, List, [], ◌∷◌, length, eqb, leb}
use Rattle.image.specs.Bytes.{Each}
use Rattle.image.specs.Image.{Placed}
use Rattle.image.specs.Tables.{Bucket, empty, start, probe_sequence, first_empty}
use Rattle.image.specs.Steps.Contracts.{hidden}

-- the sum of f 0, f 1 up to f (n - 1)
unfoldable pub sum_to : (ℕ → ℕ) → ℕ → ℕ
sum_to f zero = 0
sum_to f (suc n) = sum_to f n + f n

-- 1 for a number that is a or more, else 0; and how many of f 0 up to f (n - 1) are not 0
abbrev pub bit : ℕ → ℕ → ℕ
bit a x = cond (leb a x) 1 0

abbrev pub used_to : (ℕ → ℕ) → ℕ → ℕ
used_to f n = sum_to (λ (k : ℕ). bit 1 (f k)) n

-- each number is larger than the one before, and the first is a or more
abbrev pub Rising : ℕ → List ℕ → Type 0
Rising a [] = Unit {0}
Rising a (x ∷ xs) = (a ≤ x) × Rising (suc x) xs

-- how many of a list have their value in their cell of f
unfoldable pub in_cells : {A : Type 0} → (A → ℕ) → (A → ℕ) → (ℕ → ℕ) → List A → ℕ
in_cells cell value f [] = 0
in_cells cell value f (x ∷ xs) = cond (eqb (f (cell x)) (value x)) 1 0 + in_cells cell value f xs

-- ---- tables

-- the bucket that the put of b took: the first of its probe sequence that no earlier entry has
abbrev pub put_bucket : ℕ → (ℕ → Bucket) → Bucket → ℕ
put_bucket n slots b = first_empty (λ (k : ℕ). hidden b.at (slots k).at) (probe_sequence n n (start b.hash n))

-- the bucket that the put of b took holds it
pub record Stands (n : ℕ) (slots : ℕ → Bucket) (b : Bucket) : Type 0 where
  pub inside : put_bucket n slots b < n
  pub holds : slots (put_bucket n slots b) ≡ b

-- n buckets in which each of these entries is in the bucket that its put took, and nothing else is
pub record TableMatches (n : ℕ) (slots : ℕ → Bucket) (bs : List Bucket) : Type 0 where
  -- both words of an empty bucket are 0
  pub zeros : (k : ℕ) → k < n → (slots k).at ≡ 0 → slots k ≡ empty
  -- there are as many used buckets as entries
  pub used : used_to (λ (k : ℕ). (slots k).at) n ≡ length bs
  pub stand : Each (Stands n slots) bs

-- ---- back arrays

-- how many entries have their own offset in their id's back word
abbrev pub own_back_words : (ℕ → ℕ) → List Placed → ℕ
own_back_words back_word_of ps = in_cells (λ (p : Placed). p.entry.id) (λ (p : Placed). p.at) back_word_of ps

-- n back words that are those of these entries
pub record BackArrayMatches (n : ℕ) (back_word_of : ℕ → ℕ) (ps : List Placed) : Type 0 where
  -- the back word of each entry's id is its offset or a later one
  pub ahead : Each (λ (p : Placed). p.at ≤ back_word_of p.entry.id) ps
  -- as many back words are above 0 as entries have their own offset in their id's back word
  pub used : used_to back_word_of n ≡ own_back_words back_word_of ps

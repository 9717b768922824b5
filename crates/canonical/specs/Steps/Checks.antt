-- The checks by which the code decides whether an image is canonical, in place and without a second buffer. All of them
-- hold exactly when it is.
use Rattle.std.specs.Prelude.{ℕ, ◌+◌, ◌*◌, ◌-◌, ◌/◌, ◌≤◌, ◌<◌, ◌≡◌, Bool, true, false, cond, not, ◌&&◌, ◌||◌, List, []}
use Rattle.std.specs.Prelude.{◌∷◌}
use Rattle.std.specs.Prelude.{length, get_or, take, drop, replicate, eqb, ltb}
use Rattle.jhash.specs.NameHash.{hash_of}
use Rattle.jhash.specs.Outcome.{value}
use Rattle.image.specs.Bytes.{word, all}
use Rattle.image.specs.Head.{table_at, bucket_number, back_size_at, back_offset_at}
use Rattle.image.specs.Image.{Entry, Placed, head_size, placed, back_size, back_in}
use Rattle.image.specs.Stored.{whole, entries_in, between}
use Rattle.image.specs.Tables.{table_of, start}
use Rattle.image.specs.Tally.{tallied}
use Rattle.image.specs.Zero.{has_zero}
use Rattle.image.specs.declared.Mode.{Mode}
use Rattle.image.specs.declared.Mode.TheVariants.{Twoway, Oneway}
use Rattle.image.specs.Steps.Contracts.{offset_at, first_empty_before}
use Rattle.reader.specs.Open.{opening}
use Rattle.canonical.specs.Steps.HiddenBuckets.{sum_to, used_to, own_back_words}
use Rattle.canonical.specs.Canonical.{mode_in}
use Rattle.canonical.specs.Steps.InPlace.{back_word_at}

-- ---- the entries

-- where the entries of an image end, if there are n: tables and back array follow them
abbrev pub end_in : List ℕ → ℕ → ℕ
end_in img n = length img - (16 * n + 4 * back_size_at img)

-- the n entries before `end`, and the m from `at` on with their offsets
abbrev pub entries_to : List ℕ → ℕ → ℕ → List Entry
entries_to img end n = entries_in n (between img head_size end)

abbrev pub placed_from : List ℕ → ℕ → ℕ → ℕ → List Placed
placed_from img end m at = placed at (entries_in m (between img at end))

-- the name of the entry at `at` whose length word is n
abbrev pub entry_name : List ℕ → ℕ → ℕ → List ℕ
entry_name img at n = take (n - 1) (drop (at + 8) img)

-- ---- the rows and the tables

-- no table with an offset above 0 reaches past the end of the image: opening has checked that
abbrev pub TablesInside : List ℕ → Type 0
TablesInside img = (t : ℕ) → t < 256 → 0 < table_at img t → table_at img t + 8 * bucket_number img t ≤ length img

-- so no table with buckets does: its row's check gives it an offset above 0
abbrev pub TablesHeld : List ℕ → Type 0
TablesHeld img =
    (t : ℕ) → t < 256 → 0 < bucket_number img t → table_at img t + 8 * bucket_number img t ≤ length img

-- bucket k of the table at o is used, or its hash is 0
abbrev pub clean : List ℕ → ℕ → ℕ → Bool
clean img o k = not (eqb (word img (o + 8 * k + 4)) 0) || eqb (word img (o + 8 * k)) 0

-- of the 2c buckets at o the empty ones are zero, and c are used
unfoldable pub table_ok : List ℕ → ℕ → ℕ → Bool
table_ok img o c = all (clean img o) 0 (2 * c) && eqb (used_to (offset_at img o) (2 * c)) c

-- the number of entries that row t stands for, and where its table begins, if the first is at `end`
abbrev pub row_count : List ℕ → ℕ → ℕ
row_count img t = bucket_number img t / 2

abbrev pub table_place : List ℕ → ℕ → ℕ → ℕ
table_place img end t = end + 16 * sum_to (row_count img) t

-- row t, and its table
unfoldable pub row_ok : List ℕ → ℕ → ℕ → Bool
row_ok img end t =
    eqb (bucket_number img t) (2 * row_count img t)
    && eqb (table_at img t) (cond (eqb (row_count img t) 0) 0 (table_place img end t))
    && table_ok img (table_place img end t) (row_count img t)

abbrev pub rows_ok : List ℕ → ℕ → Bool
rows_ok img end = all (row_ok img end) 0 256

-- have the tables these numbers of entries?
abbrev pub counts_match : List ℕ → List ℕ → Bool
counts_match img counts = all (λ (t : ℕ). eqb (bucket_number img t) (2 * get_or counts t 0)) 0 256

-- ---- each entry in its table

-- the bucket that the put at `at` took: the first of its probe sequence that is empty or has an offset at or after `at`
abbrev pub bucket_taken : List ℕ → ℕ → ℕ → ℕ
bucket_taken img h at =
    let o = table_at img (table_of h) in
    let n = bucket_number img (table_of h) in
    o + 8 * first_empty_before img o n (start h n) at

unfoldable pub in_its_bucket : List ℕ → ℕ → ℕ → Bool
in_its_bucket img h at =
    not (eqb (bucket_number img (table_of h)) 0)
    && eqb (word img (bucket_taken img h at)) h
    && eqb (word img (bucket_taken img h at + 4)) at

-- its name has no zero byte, and it is in its bucket
abbrev pub name_ok : List ℕ → ℕ → List ℕ → Bool
name_ok img at name = not (has_zero name) && in_its_bucket img (hash_of name) at

-- ---- the back array of a two-way image, at o

-- is an image two-way?
abbrev pub two_way : List ℕ → Bool
two_way img = eqb (word img 8) 0

-- is a mode two-way?
abbrev pub is_two : Mode → Bool
is_two Twoway = true
is_two Oneway = false

-- the back word w is not below the entry's offset `at`; a one-way image has no back words
abbrev pub not_before : Bool → ℕ → ℕ → Bool
not_before two at w = not (two && ltb w at)

-- ---- all entries

-- an entry's back word, name and bucket are right; the back array is at o
abbrev pub entry_ok : List ℕ → Bool → ℕ → Placed → Bool
entry_ok img two o p = not_before two p.at (back_word_at img o p.entry.id) && name_ok img p.at p.entry.name

unfoldable pub entries_ok : List ℕ → Bool → ℕ → List Placed → Bool
entries_ok img two o [] = true
entries_ok img two o (p ∷ ps) = entry_ok img two o p && entries_ok img two o ps

-- the n entries before `end` are whole and pass the checks
abbrev pub entries_valid : List ℕ → ℕ → ℕ → Bool → ℕ → Bool
entries_valid img end n two o =
    whole n (between img head_size end) && entries_ok img two o (placed_from img end n head_size)

-- as many of the n back words are above 0 as entries have their own offset in their id's back word
abbrev pub back_words_counted : List ℕ → ℕ → ℕ → List Placed → Bool
back_words_counted img o n ps = eqb (used_to (back_word_at img o) n) (own_back_words (back_word_at img o) ps)

-- ---- all of them

-- behind the head: n entries that end at `end`, and `back` back words
unfoldable pub body_ok : List ℕ → ℕ → ℕ → ℕ → Bool
body_ok img n end back =
    rows_ok img end
    && entries_valid img end n (two_way img) (end + 16 * n)
    && counts_match img (tallied (replicate 256 0) (entries_to img end n))
    && eqb back (back_in (mode_in img) (back_size (entries_to img end n)))
    && cond (two_way img) (back_words_counted img (end + 16 * n) back (placed_from img end n head_size)) true

-- and the head; n is the number that opening answers
pub record Checked (img : List ℕ) (n : ℕ) : Type 0 where
  pub opened : opening img ≡ value n
  pub size : word img 4 ≡ length img
  pub flag : word img 8 ≤ 1
  pub room : head_size + (16 * n + 4 * back_size_at img) ≤ length img
  pub back_start : back_offset_at img ≡ cond (eqb (back_size_at img) 0) 0 (end_in img n + 16 * n)
  pub body : body_ok img n (end_in img n) (back_size_at img) ≡ true

-- What is proved of the average search length (`average_search` in proofs/Theorem): 02 (x), on all bytes.
use Rattle.std.specs.Prelude.{ℕ, ◌+◌, ◌*◌, ◌<◌, ◌≤◌, ◌≡◌, Bool, true, false, List, [], ◌∷◌, ◌++◌, length, get_or, eqb}
use Rattle.jhash.specs.NameHash.{hash_of}
use Rattle.jhash.specs.Outcome.{value, refusal}
use Rattle.image.specs.Bytes.{filter}
use Rattle.image.specs.Image.{Entry}
use Rattle.image.specs.Tables.{table_of}
use Rattle.jhash.specs.Word.{AllBytes}
use Rattle.lookup_laws.specs.Answer.{table_puts}
use Rattle.canonical.specs.Canonical.{canonical, puts_in}
use Rattle.search_length.specs.SearchLengths.{search_length, total_of, in_bin}
use Rattle.search_length.specs.Average.{entry_count, total, average_refusal, averaging, lengths_of, after_lengths}
use Rattle.search_length.specs.declared.AverageLength.{AverageLength}

-- the entries of table t
abbrev pub name_in_table : ℕ → Entry → Bool
name_in_table t e = eqb (table_of (hash_of e.name)) t

unfoldable pub entries_of_table : ℕ → List Entry → List Entry
entries_of_table t es = filter (name_in_table t) es

-- demand 3's bound of a found name, for each of some entries: as many buckets as the name's table has puts
unfoldable pub bound_of : List Entry → List Entry → ℕ
bound_of all [] = 0
bound_of all (e ∷ es) = table_puts e.name all + bound_of all es

unfoldable pub sum : List ℕ → ℕ
sum [] = 0
sum (n ∷ ns) = n + sum ns

-- a canonical image
pub record Searched (img : List ℕ) : Type 0 where
  -- each entry's lookup reads at least one bucket
  pub at_least : entry_count img ≤ total img
  -- and at most as many as demand 3 says of a found name: in all, and table by table
  pub at_most : total img ≤ bound_of (puts_in img) (puts_in img)
  pub by_table : (t : ℕ)
      → total_of img (entries_of_table t (puts_in img))
      ≤ length (entries_of_table t (puts_in img)) * length (entries_of_table t (puts_in img))
  -- the histogram: its sum is the entries, and each count is the number of entries that have that length
  pub summed : sum (lengths_of img) ≡ entry_count img
  pub counted : (k : ℕ) → k < 16 → get_or (lengths_of img) k 0 ≡ in_bin img k (puts_in img)
  pub sixteen : length (lengths_of img) ≡ 16

pub record AverageSearch : Type 0 where
  -- "an image that (ix) says no to gives 17, then one without entries gives 18"; every other one is averaged
  pub not_canonical : (img : List ℕ) → canonical img ≡ false → averaging img ≡ refusal 17
  pub no_entries : (img : List ℕ) → canonical img ≡ true → entry_count img ≡ 0 → averaging img ≡ refusal 18
  pub accepted : (img : List ℕ) → canonical img ≡ true → 0 < entry_count img → average_refusal img ≡ 0
  -- "Quotient × entries + remainder is the total, and the remainder is below the entries"
  pub divided : (img : List ℕ) (m : AverageLength) → averaging img ≡ value m
      → (m.quotient * m.entries + m.remainder ≡ total img) × (m.remainder < m.entries)
  pub number : (img : List ℕ) (m : AverageLength) → averaging img ≡ value m → m.entries ≡ entry_count img
  -- each entry adds its own length, whatever stands before and behind it: a repeated name counts each time
  pub each_time : (img : List ℕ) (before : List Entry) (e : Entry) (behind : List Entry)
      → total_of img (before ++ e ∷ behind) ≡ search_length img e + total_of img (before ++ behind)
  pub searched : (img : List ℕ) → AllBytes img → canonical img ≡ true → Searched img
  -- the list of the histogram: where refused, as it was
  pub filled : (img counts : List ℕ) → average_refusal img ≡ 0 → after_lengths img counts ≡ lengths_of img
  pub kept : (img counts : List ℕ) → (average_refusal img ≡ 0 → ⊥) → after_lengths img counts ≡ counts

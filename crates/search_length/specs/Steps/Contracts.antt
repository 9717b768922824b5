-- What the functions ask of their callers and promise, by name.
use Rattle.std.specs.Prelude.{ℕ, ◌<◌, ◌≡◌, List, replicate}
use Rattle.jhash.specs.Refusals.{number_of}
use Rattle.jhash.specs.declared.refusals.Refusal.{Refusal}
use Rattle.canonical.specs.Steps.Contracts.{CanonicalWithEntries}
use Rattle.search_length.specs.SearchLengths.{bin_of}
use Rattle.search_length.specs.Average.{average_refusal, total, lengths_of}

-- the calls accept an image: it is canonical, and its n entries are some
pub record SomeEntries (img : List ℕ) (n : ℕ) : Type 0 where
  pub own : CanonicalWithEntries img n
  pub some : 0 < n

-- the calls refuse it
abbrev pub ImageRefused : List ℕ → Refusal → Type 0
ImageRefused img r = number_of r ≡ average_refusal img

-- the place of a length among the 16 counts
pub record Bin (n r : ℕ) : Type 0 where
  pub is : r ≡ bin_of n
  pub inside : r < 16

-- a canonical image of n entries, and 16 counts that are 0
pub record CountPre (img : List ℕ) (n : ℕ) (counts : List ℕ) : Type 0 where
  pub own : CanonicalWithEntries img n
  pub zeros : counts ≡ replicate 16 0

-- the counts and the total of its entries
pub record Counted (img counts : List ℕ) (r : ℕ) : Type 0 where
  pub lengths : counts ≡ lengths_of img
  pub total : r ≡ total img

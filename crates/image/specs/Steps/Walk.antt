-- What the walk over entries needs and promises.
use Rattle.std.specs.Prelude.{◌≡◌, ℕ, ◌≤◌, true, false, List, length, slice_index}
use Rattle.jhash.specs.NameHash.{hash_or_zero}
use Rattle.image.specs.Image.{Entry, head_size, back_size, contains_name}
use Rattle.image.specs.Stored.{whole, entries_in, between}
use Rattle.image.specs.Tally.{tallied}
use Rattle.image.specs.declared.entries.Walked.{Walked}

-- the hashes of an entry's name and of the name that is sought, 0 for a name too long to have one
pub record IsSoughtPre (name : List ℕ) (h : ℕ) (sought : List ℕ) (want : ℕ) : Type 0 where
  pub named : h ≡ hash_or_zero name
  pub wanted : want ≡ hash_or_zero sought

-- the entries end inside the buffer, and no count was raised yet
pub record WalkPre (buf : List ℕ) (end : ℕ) (counts : List ℕ) : Type 0 where
  pub head : head_size ≤ end
  pub inside : end ≤ length buf
  pub zero : (t : ℕ) → slice_index counts t ≡ 0

-- the n entries before `end`
abbrev pub entries_to : List ℕ → ℕ → ℕ → List Entry
entries_to buf end n = entries_in n (between buf head_size end)

-- they are not the bytes before `end`
abbrev pub NoneWalked : List ℕ → ℕ → ℕ → Type 0
NoneWalked buf end n = whole n (between buf head_size end) ≡ false

-- they are, with their back size, whether one has the sought name, and their counts
pub record WalkedEntries (buf : List ℕ) (end n : ℕ) (sought counts₀ counts : List ℕ) (r : Walked) : Type 0 where
  pub whole_is : whole n (between buf head_size end) ≡ true
  pub back_is : r.back ≡ back_size (entries_to buf end n)
  pub contains_is : r.contains ≡ contains_name sought (entries_to buf end n)
  pub counts_are : counts ≡ tallied counts₀ (entries_to buf end n)

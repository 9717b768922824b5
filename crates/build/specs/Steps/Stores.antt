-- What hashing a list and writing its image ask and give. No rule stands here: proofs/ joins it to the rules.
use Rattle.std.specs.Prelude.{ℕ, ◌≤◌, ◌<◌, ◌≡◌, Bool, true, false, List, ◌++◌, length, get_or, drop, replicate}
use Rattle.jhash.specs.NameHash.{hash_of}
use Rattle.image.specs.Zero.{has_zero}
use Rattle.image.specs.Image.{Entry, head_size, placed, count, image_size, image}
use Rattle.image.specs.declared.Mode.{Mode}
use Rattle.image.specs.PackedNames.{names, nth}
use Rattle.serialize.specs.Steps.Meeting.{Distinct}
use Rattle.build.specs.Steps.Capacity.{Capacity}
use Rattle.build.specs.Steps.Steps.{entries_listed, ListPre, KeptBehind}

-- the entries of all names
abbrev pub list_entries : List ℕ → List ℕ → List ℕ → List Entry
list_entries bytes ends ids = entries_listed (names bytes ends) ids

-- the names' hashes, of the first i
abbrev pub Hashes : List ℕ → List ℕ → List ℕ → ℕ → Type 0
Hashes bytes ends hashes i = (j : ℕ) → j < i → get_or hashes j 0 ≡ hash_of (nth (names bytes ends) j)

-- no name has a zero byte
abbrev pub NoZeros : List ℕ → List ℕ → Type 0
NoZeros bytes ends = (j : ℕ) → j < length ends → has_zero (nth (names bytes ends) j) ≡ false

-- the counts of tables that entries fall into
abbrev pub Tallied : List ℕ → List Entry → Type 0
Tallied counts es = (t : ℕ) → t < 256 → get_or counts t 0 ≡ count t (placed head_size es)

-- no count is raised yet; all bytes have a size below 2^32, and so has each name
pub record HashListPre (bytes ends hashes counts : List ℕ) : Type 0 where
  pub hashes_long : length ends ≤ length hashes
  pub number_word : length ends ≤ 4294967295
  pub short : (j : ℕ) → j < length ends → length (nth (names bytes ends) j) < 4294967295
  pub none : counts ≡ replicate 256 0

-- the hashes of all names, and the counts of their tables, whatever the ids
pub record HashListPost (bytes ends hashes hashesThen counts : List ℕ) : Type 0 where
  pub hashed : Hashes bytes ends hashesThen (length ends)
  pub rest : drop (length ends) hashesThen ≡ drop (length ends) hashes
  pub tallies : (ids : List ℕ) → length ends ≤ length ids → Tallied counts (list_entries bytes ends ids)

-- a list with its hashes and counts, and a buffer that has room for the image of all names
pub record WriteListPre (mode : Mode) (counts hashes buffer bytes ends ids : List ℕ) : Type 0 where
  pub list : ListPre buffer ends ids hashes
  pub capacity : Capacity mode ends ids (length buffer)
  pub hashed : Hashes bytes ends hashes (length ends)
  pub tallies : Tallied counts (list_entries bytes ends ids)

-- the image of all names, of `size` bytes, with what is behind it as it was; with `stop` no two have equal names
pub record ListWritten (stop : Bool) (mode : Mode) (buffer bytes ends ids bufferThen : List ℕ) (size : ℕ) : Type 0
  where
    pub sized : size ≡ image_size mode (list_entries bytes ends ids)
    pub leaves : bufferThen
        ≡ image mode (list_entries bytes ends ids) ++ drop (image_size mode (list_entries bytes ends ids)) buffer
    pub behind : KeptBehind mode bytes ends ids buffer bufferThen
    pub distinct : stop ≡ true → Distinct (list_entries bytes ends ids)

-- The names of a round with their hashes.
use Rattle.std.specs.Prelude.{ℕ, ◌≤◌, ◌<◌, ◌≡◌, List, length, get_or}
unfoldable pub use Rattle.jhash.specs.NameHash.{hash_or_zero}
use Rattle.batch.specs.RoundNames.{most_names, names, nth}

-- a list that begins with the names' hashes, 0 for a name too long to have one
abbrev pub Hashes : List (List ℕ) → List ℕ → Type 0
Hashes xs hashes = (i : ℕ) → i < length xs → get_or hashes i 0 ≡ hash_or_zero (nth xs i)

-- the packed names of a round, with their hashes
pub record HashedNames (bytes ends hashes : List ℕ) : Type 0 where
  pub few : length ends ≤ most_names
  pub capacity : length ends ≤ length hashes
  pub hashed : Hashes (names bytes ends) hashes

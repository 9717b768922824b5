-- The names of a round: 02 (vii), "Up to 512 names lie joined in a buffer, with a list of their ends, each at least the
-- one before."
use Rattle.std.specs.Prelude.{ℕ, Bool, true, false, ◌||◌, List, [], ◌∷◌, ◌++◌}
use Rattle.image.specs.Bytes.{same}
unfoldable pub use Rattle.image.specs.PackedNames.{names_from, names, invalid_ends, packed_bytes, ends_from}
pub use Rattle.image.specs.PackedNames.{nth}

-- "Up to 512 names"
abbrev pub most_names : ℕ
most_names = 512

-- is a name among some names?
unfoldable pub among : List ℕ → List (List ℕ) → Bool
among x [] = false
among x (y ∷ ys) = same y x || among x ys

-- one more where it is new
abbrev pub new_only : Bool → List ℕ → List (List ℕ) → List (List ℕ)
new_only true x xs = xs
new_only false x xs = x ∷ xs

-- "the different names": each where it stands first, those before being `seen`
unfoldable pub different_from : List (List ℕ) → List (List ℕ) → List (List ℕ)
different_from seen [] = []
different_from seen (x ∷ xs) = new_only (among x seen) x (different_from (seen ++ x ∷ []) xs)

unfoldable pub different : List (List ℕ) → List (List ℕ)
different xs = different_from [] xs

-- Packed names: 02 (vii), "names lie joined in a buffer, with a list of their ends, each at least the one before."
use Rattle.std.specs.Prelude.{ℕ, ◌+◌, ◌-◌, Bool, false, cond, ◌||◌, List, [], ◌∷◌, ◌++◌, length, ◌==◌, nat_lt}
use Rattle.std.specs.Prelude.{slice_index, slice_index_or}
use Rattle.image.specs.Stored.{between}

-- the names from byte s on
unfoldable pub names_from : List ℕ → ℕ → List ℕ → List (List ℕ)
names_from bytes s [] = []
names_from bytes s (e ∷ es) = between bytes s e ∷ names_from bytes e es

-- "The first name begins at byte 0"
unfoldable pub names : List ℕ → List ℕ → List (List ℕ)
names bytes ends = names_from bytes 0 ends

-- "ends that fall or pass the bytes", of which there are `size`, where the name before ends at s
unfoldable pub invalid_ends : ℕ → ℕ → List ℕ → Bool
invalid_ends size s [] = false
invalid_ends size s (e ∷ es) = nat_lt e s || nat_lt size e || invalid_ends size e es

-- the bytes of packed names; and their ends, the first name beginning at s
unfoldable pub packed_bytes : List (List ℕ) → List ℕ
packed_bytes [] = []
packed_bytes (x ∷ xs) = x ++ packed_bytes xs

unfoldable pub ends_from : ℕ → List (List ℕ) → List ℕ
ends_from s [] = []
ends_from s (x ∷ xs) = (s + length x) ∷ ends_from (s + length x) xs

-- where the i-th name begins
abbrev pub begin_of : List ℕ → ℕ → ℕ
begin_of ends i = cond (i == 0) 0 (slice_index ends (i - 1))

-- the i-th name, counted from 0
abbrev pub nth : List (List ℕ) → ℕ → List ℕ
nth xs i = slice_index_or xs i []

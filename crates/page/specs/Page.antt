-- A printed catalogue: 02 (iii). "The page is a function of the naming rule and the back size": `name` gives an id's
-- name, or none. Bytes: 10 is a line feed, 32 a space, 43 a plus sign, 45 a hyphen, 46 a full stop, and 48 to 57 are
-- the digits.
use Rattle.std.specs.Prelude.{ℕ, zero, suc, ◌+◌, ◌-◌, ◌/◌, ◌%◌, cond, ◌&&◌, List, [], ◌∷◌, ◌++◌, map, length, take}
use Rattle.std.specs.Prelude.{replicate, eqb, ltb, leb}
use Rattle.std.proofs.Math.Option.{Option, none, some}
use Rattle.image.specs.Bytes.{cat, range}

-- the last k places of a number in decimal: the lowest digit stands last, and a space stands where no digit is left
unfoldable pub places : ℕ → ℕ → List ℕ
places zero n = []
places (suc k) n = places k (n / 10) ++ (cond (eqb n 0) 32 (48 + n % 10) ∷ [])

-- "id right-aligned in 10": the last place shows a digit also of 0
unfoldable pub id_field : ℕ → List ℕ
id_field id = places 9 (id / 10) ++ ((48 + id % 10) ∷ [])

-- "bytes outside 32 to 126 are printed as full stops"
abbrev pub shown : ℕ → ℕ
shown b = cond (leb 32 b && leb b 126) b 46

-- "32 bytes of name, a plus sign if the name was longer, else a space": "shorter names are padded with spaces,
-- unnamed ids have 32 hyphens"
unfoldable pub name_field : Option (List ℕ) → List ℕ
name_field (some name) =
    map shown (take 32 name) ++ replicate (32 - length name) 32 ++ (cond (ltb 32 (length name)) 43 32 ∷ [])
name_field none = replicate 32 45 ++ (32 ∷ [])

-- a "line of 45 bytes: id right-aligned in 10, a space, 32 bytes of name, a plus sign .. else a space, and a line feed"
unfoldable pub line : (ℕ → Option (List ℕ)) → ℕ → List ℕ
line name id = id_field id ++ (32 ∷ []) ++ name_field (name id) ++ (10 ∷ [])

-- the lines of `count` ids from `first` on, in rising order, "gaps included"
unfoldable pub lines : (ℕ → Option (List ℕ)) → ℕ → ℕ → List ℕ
lines name first count = cat (line name) (range first count)

-- "every id below back size"
unfoldable pub page : (ℕ → Option (List ℕ)) → ℕ → List ℕ
unfolding lines
page name size = lines name 0 size

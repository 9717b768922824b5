-- What a lookup and a naming give, and what the entries of an image say they should: 01, "Whole lists (demand 3)".
use Rattle.std.specs.Prelude.{ℕ, ◌+◌, Bool, true, false, cond, List, [], ◌∷◌, take, drop}
use Rattle.std.proofs.Math.Option.{Option, none, some}
use Rattle.jhash.specs.NameHash.{hash_of}
use Rattle.image.specs.Bytes.{filter}
use Rattle.image.specs.Tables.{table_of}
use Rattle.image.specs.Image.{Entry, head_size, entry_size, placed, count, has_id}
use Rattle.reader.specs.Lookup.{Lookup, found, nothing}
use Rattle.reader.specs.IdWalk.{Step, item, done}
-- an id gives a name when naming it answers a place with exactly that name's bytes
pub use Rattle.reader.specs.Naming.{bytes_at, name_given}
pub use Rattle.image.specs.Image.{has_name}

-- a name gives an id when its lookup finds the id
abbrev pub found_id : Lookup → Option ℕ
found_id (found f) = some f.id
found_id (nothing reads) = none

-- 02 (ii): the offset at which its lookup finds the entry
abbrev pub found_offset : Lookup → Option ℕ
found_offset (found f) = some f.offset
found_offset (nothing reads) = none

-- a step of a walk gives id and name, or the end
abbrev pub step_given : List ℕ → Step → Option Entry
step_given image (item id s n next) = some (record { name = take n (drop s image); id = id })
step_given image done = none

-- the entries of a name and of an id, in put order
unfoldable pub of_name : List ℕ → List Entry → List Entry
of_name name es = filter (has_name name) es

unfoldable pub of_id : ℕ → List Entry → List Entry
of_id id es = filter (has_id id) es

-- a name's table has those entries whose name hash modulo 256 is that of the name
unfoldable pub table_puts : List ℕ → List Entry → ℕ
table_puts name es = count (table_of (hash_of name)) (placed head_size es)

-- the id of the first, and the name of the last of a list of entries; none of an empty one
abbrev pub first_id : List Entry → Option ℕ
first_id [] = none
first_id (e ∷ es) = some e.id

abbrev pub last_name : List Entry → Option (List ℕ)
last_name [] = none
last_name (e ∷ []) = some e.name
last_name (e ∷ f ∷ es) = last_name (f ∷ es)

-- 02 (ii): the place of a name's first entry, where the entries follow each other from o on: o plus the sizes of the
-- entries before it
unfoldable pub first_at : List ℕ → ℕ → List Entry → Option ℕ
first_at name o [] = none
first_at name o (e ∷ es) = cond (has_name name e) (some o) (first_at name (o + entry_size e) es)

-- is there a name?
abbrev pub is_named : Option (List ℕ) → Bool
is_named (some name) = true
is_named none = false

-- 02 (vi), in the image of a list of calls: there an id is home (01's term) exactly when it has a name, since that
-- name's search matches every entry of it, the id's last one too. Other bytes may name an id that isn't home
abbrev pub home_in : List Entry → ℕ → Bool
home_in es id = is_named (last_name (of_id id es))

-- The image record: 01, "The image record", from top to bottom.
use Rattle.std.specs.Prelude.{ℕ, zero, suc, ◌+◌, ◌*◌, max, Bool, false, cond, ◌||◌, List, [], ◌∷◌, ◌++◌, map, length}
use Rattle.std.specs.Prelude.{◌==◌}
use Rattle.jhash.specs.NameHash.{hash_of}
use Rattle.image.specs.Bytes.{le32, cat, filter, range, same}
use Rattle.image.specs.Tables.{Bucket, table_of, filled}
use Rattle.image.specs.declared.Mode.{Mode}
use Rattle.image.specs.declared.Mode.TheVariants.{Twoway, Oneway}

-- what a put stores: a name of any bytes, and its id
pub record Entry : Type 0 where
  pub name : List ℕ
  pub id : ℕ

-- the head is 2,072 bytes
abbrev pub head_size : ℕ
head_size = 2072

-- entries: id, name length plus 1, the name, one zero byte
unfoldable pub entry_bytes : Entry → List ℕ
entry_bytes e = le32 e.id ++ le32 (length e.name + 1) ++ e.name ++ (0 ∷ [])

abbrev pub entry_size : Entry → ℕ
entry_size e = length e.name + 9

unfoldable pub entries_size : List Entry → ℕ
entries_size [] = 0
entries_size (e ∷ es) = entry_size e + entries_size es

-- an entry and its offset
pub record Placed : Type 0 where
  pub entry : Entry
  pub at : ℕ

-- the entries one after the other from an offset on
unfoldable pub placed : ℕ → List Entry → List Placed
placed o [] = []
placed o (e ∷ es) = record { entry = e; at = o } ∷ placed (o + entry_size e) es

-- is an entry in table t?
abbrev pub in_table : ℕ → Placed → Bool
in_table t p = table_of (hash_of p.entry.name) == t

-- the entries of table t, in put order
unfoldable pub of_table : ℕ → List Placed → List Placed
unfolding filter
of_table t ps = filter (in_table t) ps

abbrev pub count : ℕ → List Placed → ℕ
count t ps = length (of_table t ps)

-- the bucket of an entry
abbrev pub bucket_of : Placed → Bucket
bucket_of p = record { hash = hash_of p.entry.name; at = p.at }

unfoldable pub bucket_bytes : Bucket → List ℕ
bucket_bytes b = le32 b.hash ++ le32 b.at

-- a table: twice as many buckets as entries
unfoldable pub table : ℕ → List Placed → List Bucket
table t ps = filled (2 * count t ps) (map bucket_of (of_table t ps))

unfoldable pub table_bytes : List Placed → ℕ → List ℕ
table_bytes ps t = cat bucket_bytes (table t ps)

-- how many entries the tables before t have
unfoldable pub entries_before : ℕ → List Placed → ℕ
entries_before zero ps = 0
entries_before (suc t) ps = entries_before t ps + count t ps

-- table t's offset, then its bucket number; both 0 without entries. `end` is the end of the entries
unfoldable pub table_offset : ℕ → List Placed → ℕ → ℕ
table_offset end ps t = cond (count t ps == 0) 0 (end + 16 * entries_before t ps)

unfoldable pub table_row : ℕ → List Placed → ℕ → List ℕ
table_row end ps t = le32 (table_offset end ps t) ++ le32 (2 * count t ps)

-- back size is the largest id plus 1
unfoldable pub back_size : List Entry → ℕ
back_size [] = 0
back_size (e ∷ es) = max (e.id + 1) (back_size es)

-- does an entry have this id?
abbrev pub has_id : ℕ → Entry → Bool
has_id i e = e.id == i

-- does an entry have this name?
abbrev pub has_name : List ℕ → Entry → Bool
has_name name e = same e.name name

-- does some entry of a list have it?
unfoldable pub contains_name : List ℕ → List Entry → Bool
contains_name name [] = false
contains_name name (e ∷ es) = has_name name e || contains_name name es

-- the entries of an id, in put order, with their offsets
unfoldable pub placed_of_id : ℕ → List Placed → List Placed
placed_of_id i ps = filter (λ (p : Placed). has_id i p.entry) ps

-- the offset of the last entry of a list, or o without one
unfoldable pub last_from : ℕ → List Placed → ℕ
last_from o [] = o
last_from o (p ∷ ps) = last_from p.at ps

-- the id's word in the back array: the offset of its last entry, 0 if it has none
unfoldable pub back_word : List Placed → ℕ → ℕ
back_word ps i = last_from 0 (placed_of_id i ps)

-- what depends on the mode: the flag word, and the back size, which is 0 in a one-way image
abbrev pub flag_word : Mode → ℕ
flag_word Twoway = 0
flag_word Oneway = 1

abbrev pub back_in : Mode → ℕ → ℕ
back_in Twoway n = n
back_in Oneway n = 0

-- where the entries end
abbrev pub entries_end : List Entry → ℕ
entries_end es = head_size + entries_size es

-- the back size in an image
abbrev pub back_size_of : Mode → List Entry → ℕ
back_size_of mode es = back_in mode (back_size es)

-- the size of the whole image
abbrev pub image_size : Mode → List Entry → ℕ
image_size mode es = entries_end es + 16 * length es + 4 * back_size_of mode es

-- the back array follows the tables; its offset is 0 in a one-way image and in an empty one
unfoldable pub back_offset : Mode → List Entry → ℕ
back_offset mode es = cond (back_size_of mode es == 0) 0 (entries_end es + 16 * length es)

-- 0: the letters CQDB. 4: size of the whole image. 8: flag word. 12: 62445371 hexadecimal. 16: back size.
-- 20: back offset
unfoldable pub head_bytes : ℕ → ℕ → ℕ → ℕ → List ℕ
head_bytes size flag n o =
    67 ∷ 81 ∷ 68 ∷ 66 ∷ [] ++ le32 size ++ le32 flag ++ le32 0x62445371 ++ le32 n ++ le32 o

unfoldable pub head_words : Mode → List Entry → List ℕ
unfolding head_bytes
head_words mode es = head_bytes (image_size mode es) (flag_word mode) (back_size_of mode es) (back_offset mode es)

-- 24 + 8t, for t = 0 to 255: table t's offset, then its bucket number
unfoldable pub table_rows : ℕ → List Placed → List ℕ
table_rows end ps = cat (table_row end ps) (range 0 256)

-- tables in rising t, only those with entries (one without has no bucket)
unfoldable pub tables : List Placed → List ℕ
tables ps = cat (table_bytes ps) (range 0 256)

-- the back array: for each id below back size the offset of its last entry
unfoldable pub back_words : List Placed → ℕ → List ℕ
back_words ps n = cat (λ (i : ℕ). le32 (back_word ps i)) (range 0 n)

-- the image that entries close to
unfoldable pub image : Mode → List Entry → List ℕ
image mode es =
    let ps = placed head_size es in
    head_words mode es
    ++ table_rows (entries_end es) ps
    ++ cat entry_bytes es
    ++ tables ps
    ++ back_words ps (back_size_of mode es)

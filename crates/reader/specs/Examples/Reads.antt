-- The examples C8, C9, C10 and C12 of 01, "Examples from the quay", as rows: bytes that are read, and what they give.
use Rattle.std.specs.Prelude.{◌≡◌, ℕ, ◌+◌, ◌-◌, ◌*◌, ◌<◌, ◌≤◌, List, [], ◌∷◌, ◌++◌, length, take, replicate}
use Rattle.jhash.specs.Outcome.{Outcome, value, refusal}
use Rattle.jhash.specs.NameHash.{hash_of}
use Rattle.image.specs.Bytes.{word, le32, Each}
use Rattle.image.specs.Tables.{table_of}
use Rattle.image.specs.Image.{head_bytes}
use Rattle.image.specs.Head.{table_at, bucket_number}
use Rattle.reader.specs.Open.{opening}
use Rattle.reader.specs.Lookup.{Lookup, found, nothing, lookup}

-- ---- opening

-- what opening gives of every image of `size` bytes that begins with these
pub record OpenRow : Type 0 where
  pub size : ℕ
  pub begins : List ℕ
  pub gives : Outcome ℕ

abbrev pub Opens : OpenRow → Type 0
Opens r =
    (image : List ℕ) → length image ≡ r.size → take (length r.begins) image ≡ r.begins
    → opening image ≡ r.gives

-- a row of the head with offset o and bucket number n
unfoldable pub row_of : ℕ → ℕ → List ℕ
row_of o n = le32 o ++ le32 n

-- a valid head of 2,072 bytes, without a back array: its rows begin with these, and the other rows are zeros
unfoldable pub head_of : List ℕ → List ℕ
head_of rows = head_bytes 2072 0 0 0 ++ rows ++ replicate (2048 - length rows) 0

-- C8: opening 2,071 bytes
abbrev pub c8 : OpenRow
c8 = record { size = 2071; begins = []; gives = refusal 1 }

-- C9: valid 2,072-byte head, table 0 with offset 0 and bucket number 7
abbrev pub c9 : OpenRow
c9 = record { size = 2072; begins = head_of (row_of 0 7); gives = value 3 }

-- C10: three such with 4294967295
abbrev pub c10 : OpenRow
c10 =
    record {
      size = 2072;
      begins = head_of (row_of 0 4294967295 ++ row_of 0 4294967295 ++ row_of 0 4294967295);
      gives = value 2147483645;
    }

-- ---- looking up a name

-- what a lookup of a name gives in an image
pub record LookupRow : Type 0 where
  pub image : List ℕ
  pub name : List ℕ
  pub gives : Lookup

abbrev pub Finds : LookupRow → Type 0
Finds r = lookup r.image r.name ≡ r.gives

-- C12: table with one bucket, taken by another hash. Here the empty name's, whose hash is 8ba9414b hexadecimal:
-- table 75
unfoldable pub taken_image : List ℕ
taken_image = head_of (replicate (8 * 75) 0 ++ row_of 2072 1) ++ le32 0x8ba9414a ++ le32 2072

abbrev pub c12 : LookupRow
c12 = record { image = taken_image; name = []; gives = nothing 1 }

-- and so in every image with such a table
pub record OneTaken (image name : List ℕ) : Type 0 where
  pub at : ℕ
  pub head : 2072 ≤ length image
  pub short : length name < 4294967295
  pub offset : at ≡ table_at image (table_of (hash_of name))
  pub above : 0 < at
  pub one : 1 ≡ bucket_number image (table_of (hash_of name))
  pub inside : at + 8 ≤ length image
  pub entry : 0 < word image (at + 4)
  pub other : word image at ≡ hash_of name → ⊥

-- besides: table with one bucket, taken by the name's own entry. Here A's, whose hash is 89284101 hexadecimal, with
-- id 5: table 1
unfoldable pub own_image : List ℕ
own_image = head_of (row_of 0 0 ++ row_of 2082 1) ++ (le32 5 ++ le32 2 ++ 65 ∷ 0 ∷ []) ++ le32 0x89284101 ++ le32 2072

abbrev pub own_found : LookupRow
own_found = record { image = own_image; name = 65 ∷ []; gives = found (record { id = 5; buckets = 1; offset = 2072 }) }

-- ---- all of them

pub record ReadsHold : Type 0 where
  pub opened : Each Opens (c8 ∷ c9 ∷ c10 ∷ [])
  pub looked_up : Each Finds (c12 ∷ own_found ∷ [])
  pub one_taken : (image name : List ℕ) → OneTaken image name → lookup image name ≡ nothing 1

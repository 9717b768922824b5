-- What the steps of partitioning and of filling the tables leave, as the code goes: the pairs of hash and offset by
-- table, each table's in put order where the table will stand, and then each table filled from its pairs. No rule of 01
-- stands here: proofs/ shows that they leave the image.
use Rattle.std.specs.Prelude.{◌≡◌, ℕ, zero, suc, ◌+◌, ◌*◌, ◌%◌, ◌<◌, ◌≤◌, cond, List, [], ◌∷◌, ◌++◌, length, ◌==◌}
use Rattle.std.specs.Prelude.{nat_le, slice_index, slice_set}
use Rattle.std.proofs.lemmas.List.Edits.{sets}
use Rattle.image.specs.Bytes.{word, le32, cat}
use Rattle.image.specs.Tables.{Bucket, table_of, filled}
use Rattle.image.specs.Image.{bucket_bytes}
use Rattle.image.specs.Stored.{between}
use Rattle.image.specs.Steps.EntryLength.{whole_length}
use Rattle.image.specs.declared.Mode.{Mode}
use Rattle.serialize.specs.Steps.Insertion.{entry_hash, back_stored}

-- ---- the entries partitioned

-- where the m tables from t on begin, in 32 bits; the first begins at o, and a table of c entries has 2c buckets
unfoldable pub table_offsets_from : List ℕ → ℕ → ℕ → ℕ → List ℕ
table_offsets_from counts o t zero = []
table_offsets_from counts o t (suc m) = o % 4294967296 ∷ table_offsets_from counts
    (o + 16 * slice_index counts t) (suc t) m

-- a pair stored where the buffer has room for it
abbrev pub pair_put : List ℕ → ℕ → ℕ → ℕ → List ℕ
pair_put buf p h at = cond (nat_le (p + 8) (length buf)) (sets buf p (le32 h ++ le32 at)) buf

-- the place of the next pair of each table, after a pair of hash h
unfoldable pub advanced : List ℕ → ℕ → List ℕ
advanced places h = slice_set places (table_of h) ((slice_index places (table_of h) + 8) % 4294967296)

-- the pair of an entry of hash h at `at`, stored in the next place of its table
pub record PairAppended (places buf : List ℕ) (h at : ℕ) (places' buf' : List ℕ) : Type 0 where
  pub stored : buf' ≡ pair_put buf (slice_index places (table_of h)) h at
  pub moved : places' ≡ advanced places h

-- an entry of this id and hash at `at`: its pair stored, and its offset in the back array
unfoldable pub partitioned : Mode → ℕ → List ℕ → List ℕ → ℕ → ℕ → ℕ → List ℕ
partitioned mode back_start places buf at id h =
    back_stored mode (pair_put buf (slice_index places (table_of h)) h at) back_start id at

pub record EntryPartitioned (mode : Mode) (back_start at id h : ℕ) (places buf places' buf' : List ℕ) : Type 0
  where
    pub stored : buf' ≡ partitioned mode back_start places buf at id h
    pub moved : places' ≡ advanced places h

-- and so m entries that stand from `at` on, one after the other
unfoldable pub partitioned_from : Mode → ℕ → ℕ → ℕ → ℕ → List ℕ → List ℕ → List ℕ
partitioned_from mode back_start end zero at places buf = buf
partitioned_from mode back_start end (suc m) at places buf =
    let n = whole_length (between buf at end) in
    let h = entry_hash buf at n in
    cond (n == 0) buf
    (partitioned_from mode back_start end m (at + (8 + n)) (advanced places h)
    (partitioned mode back_start places buf at (word buf at) h))

-- ---- the tables filled

-- the c pairs that stand at o
unfoldable pub pairs_stored : List ℕ → ℕ → ℕ → List Bucket
pairs_stored buf o zero = []
pairs_stored buf o (suc c) =
    pairs_stored buf o c ++ (record { hash = word buf (o + 8 * c); at = word buf (o + 8 * c + 4) } ∷ [])

-- the table of c entries stored at o, filled with pairs
abbrev pub table_stored : List ℕ → ℕ → ℕ → List Bucket → List ℕ
table_stored buf o c pairs = sets buf o (cat bucket_bytes (filled (2 * c) pairs))

-- the first c pairs of a copy
unfoldable pub pairs_in : List ℕ → ℕ → List Bucket
pairs_in copy zero = []
pairs_in copy (suc c) = pairs_in copy c ++ (record {
  hash = slice_index copy (2 * c);
  at = slice_index copy
      (2 * c + 1);
} ∷ [])

-- the copy has room for c pairs, which stand at o
pub record CopyPairsPre (copy buf : List ℕ) (o c : ℕ) : Type 0 where
  pub copy_long : 2 * c ≤ length copy
  pub inside : o + 8 * c ≤ length buf

pub record PairsCopied (copy buf : List ℕ) (o c : ℕ) : Type 0 where
  pub first : (i : ℕ) → i < c → slice_index copy (2 * i) ≡ word buf (o + 8 * i)
  pub second : (i : ℕ) → i < c → slice_index copy (2 * i + 1) ≡ word buf (o + 8 * i + 4)

-- there are c pairs, and the table of c entries at o lies in the buffer
pub record InsertPairsPre (end o c : ℕ) (pairs buf : List ℕ) : Type 0 where
  pub behind : end ≤ o
  pub pairs_inside : 2 * c ≤ length pairs
  pub inside : o + 16 * c ≤ length buf

-- the table of c entries begins at o, which is far below 2^64, and the copy has room for its pairs
pub record FillTablePre (end o c : ℕ) (copy : List ℕ) : Type 0 where
  pub behind : end ≤ o
  pub low : o < 281474976710656
  pub count_word : c < 4294967296
  pub copy_long : 2 * c ≤ length copy

-- the table filled from the pairs that stand there, if it lies in the buffer
unfoldable pub table_filled : List ℕ → ℕ → ℕ → List ℕ
table_filled buf o c = cond (nat_le (o + 16 * c) (length buf)) (table_stored buf o c (pairs_stored buf o c)) buf

-- the copy has room for the pairs of each table
abbrev pub EachCopied : List ℕ → List ℕ → Type 0
EachCopied counts copy = (t : ℕ) → t < 256 → 2 * slice_index counts t ≤ length copy

pub record FillTablesPre (counts : List ℕ) (end : ℕ) (copy : List ℕ) : Type 0 where
  pub end_word : end < 4294967296
  pub copies : EachCopied counts copy

-- and so the m tables from t on, the first at o
unfoldable pub tables_from : List ℕ → ℕ → ℕ → ℕ → List ℕ → List ℕ
tables_from counts o t zero buf = buf
tables_from counts o t (suc m) buf =
    tables_from counts (o + 16 * slice_index counts t) (suc t) m (table_filled buf o (slice_index counts t))

-- What inserting entries one by one into tables and back array leaves, as the code goes. No rule of 01 stands here:
-- proofs/ shows that all steps together leave the image.
use Rattle.std.specs.Prelude.{ℕ, zero, suc, ◌+◌, ◌-◌, ◌*◌, ◌<◌, ◌≤◌, Bool, cond, ◌&&◌, List, ◌++◌, length, take, drop}
use Rattle.std.specs.Prelude.{◌==◌, nat_le}
use Rattle.std.proofs.lemmas.List.Edits.{sets}
use Rattle.jhash.specs.NameHash.{hash_of}
use Rattle.image.specs.Bytes.{word, le32}
use Rattle.image.specs.Head.{table_at, bucket_number}
use Rattle.image.specs.Tables.{table_of, start, probe_sequence, first_empty}
use Rattle.image.specs.declared.Mode.{Mode}
use Rattle.image.specs.declared.Mode.TheVariants.{Twoway, Oneway}
use Rattle.image.specs.Stored.{between}
use Rattle.image.specs.Steps.EntryLength.{whole_length}
use Rattle.image.specs.Steps.Contracts.{offset_at}

-- ---- a pair of hash and offset

-- both words of a table's row
pub record HoldsTablePre (o n : ℕ) : Type 0 where
  pub offset_word : o < 4294967296
  pub number_word : n < 4294967296

abbrev pub holds_table : List ℕ → ℕ → ℕ → Bool
holds_table buf o n = nat_le 1 n && nat_le (o + 8 * n) (length buf)

-- a pair stored in the first empty bucket of its search among the n buckets at o
unfoldable pub inserted : List ℕ → ℕ → ℕ → ℕ → ℕ → List ℕ
inserted buf o n h at =
    sets buf (o + 8 * first_empty (offset_at buf o) (probe_sequence n n (start h n))) (le32 h ++ le32 at)

-- a pair inserted into the table of its hash, which the row in the head gives
unfoldable pub inserted_by_row : List ℕ → ℕ → ℕ → List ℕ
inserted_by_row buf h at =
    let o = table_at buf (table_of h) in
    let n = bucket_number buf (table_of h) in
    cond (holds_table buf o n) (inserted buf o n h at) buf

-- ---- an entry

-- the entry at `at` with length word n lies in the buffer
pub record EntryPre (at n : ℕ) (buf : List ℕ) : Type 0 where
  pub inside : at + (8 + n) ≤ length buf
  pub some : 1 ≤ n
  pub length_word : n < 4294967296
  pub offset_word : at < 4294967296

-- and there is a back array at back-offset, and the entries end at `end`
pub record InsertEntryPre (back_start end at n : ℕ) (buf : List ℕ) : Type 0 where
  pub entry : EntryPre at n buf
  pub front : end ≤ length buf
  pub back_word : back_start < 4294967296

-- the hash of its name
unfoldable pub entry_hash : List ℕ → ℕ → ℕ → ℕ
entry_hash buf at n = hash_of (take (n - 1) (drop (at + 8) buf))

-- its offset stored under its id in the back array, which begins at back-offset
abbrev pub back_stored : Mode → List ℕ → ℕ → ℕ → ℕ → List ℕ
back_stored Twoway buf back_start id at = sets buf (back_start + 4 * id) (le32 at)
back_stored Oneway buf back_start id at = buf

-- the entry inserted into its table and the back array
unfoldable pub entry_inserted : Mode → ℕ → List ℕ → ℕ → ℕ → List ℕ
entry_inserted mode back_start buf at n =
    back_stored mode (inserted_by_row buf (entry_hash buf at n) at) back_start (word buf at) at

-- ---- all entries

-- the entries end in the buffer
pub record InsertEntriesPre (back_start end : ℕ) (buf : List ℕ) : Type 0 where
  pub low : 2072 ≤ end
  pub inside : end ≤ length buf
  pub end_word : end < 4294967296
  pub back_word : back_start < 4294967296

-- m entries inserted, one after the other
unfoldable pub inserted_from : Mode → ℕ → ℕ → ℕ → ℕ → List ℕ → List ℕ
inserted_from mode back_start end zero at buf = buf
inserted_from mode back_start end (suc m) at buf =
    let n = whole_length (between buf at end) in
    cond (n == 0) buf (inserted_from mode back_start end m (at + (8 + n))
    (entry_inserted mode back_start buf at n))

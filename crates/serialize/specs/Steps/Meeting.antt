-- Whether two entries of equal name meet while the tables are filled: what each step leaves, as the code goes, and what
-- holds if it has met none. With `stop` a step ends where an entry meets one of equal name, and then nothing is said of
-- what it leaves. No rule of 01 stands here.
use Rattle.std.specs.Prelude.{◌≡◌, ℕ, zero, suc, ◌+◌, ◌-◌, ◌*◌, ◌<◌, ◌≤◌, Bool, false, ◌&&◌, ◌⊎◌, List, [], ◌∷◌}
use Rattle.std.specs.Prelude.{length, take, drop, ◌≢◌, slice_index}
use Rattle.image.specs.Bytes.{word, same, Each}
use Rattle.image.specs.Head.{table_at, bucket_number}
use Rattle.image.specs.Tables.{Bucket, table_of, start, probe_sequence, first_empty}
use Rattle.image.specs.Image.{Entry, head_size}
use Rattle.image.specs.Stored.{between}
use Rattle.image.specs.declared.Mode.{Mode}
use Rattle.image.specs.Steps.EntryLength.{whole_length}
use Rattle.image.specs.Steps.Contracts.{BucketIs, offset_at}
use Rattle.lookup_laws.specs.Steps.HasMatch.{has_match}
use Rattle.serialize.specs.Serialize.{stored_entries, serialized}
use Rattle.serialize.specs.Steps.Insertion.{inserted, inserted_by_row, entry_hash, entry_inserted, inserted_from}
use Rattle.serialize.specs.Steps.Partition.{pairs_stored, pairs_in, table_stored, table_filled, tables_from}
use Rattle.serialize.specs.Steps.Written.{zeroed}

-- ---- names, in the bytes up to the end of the entries

-- the name of the entry at an offset
unfoldable pub name_in : List ℕ → ℕ → List ℕ
name_in front at = take (whole_length (between front at (length front)) - 1) (drop (at + 8) front)

-- have the entries at offsets a and b equal names?
abbrev pub same_names : List ℕ → ℕ → ℕ → Bool
same_names front b a = same (name_in front a) (name_in front b)

-- each of a list is so to all behind it
abbrev pub Pairwise : {A : Type 0} → (A → A → Type 0) → List A → Type 0
Pairwise R [] = Unit {0}
Pairwise {A} R (x ∷ xs) = Each (λ (y : A). R x y) xs × Pairwise R xs

-- two pairs of equal hash have names that are not equal
abbrev pub OtherNames : List ℕ → Bucket → Bucket → Type 0
OtherNames front x y = x.hash ≡ y.hash → same_names front y.at x.at ≡ false

-- and so all pairs, if none of them is empty
abbrev pub Apart : List ℕ → List Bucket → Type 0
Apart front bs = Each (λ (b : Bucket). b.at ≢ 0) bs → Pairwise (OtherNames front) bs

-- no two entries have equal names
abbrev pub Distinct : List Entry → Type 0
Distinct es = Pairwise (λ (x y : Entry). same x.name y.name ≡ false) es

-- ---- a pair

-- bucket k of the table at o
abbrev pub bucket_at : List ℕ → ℕ → ℕ → Bucket
bucket_at buf o k = record { hash = word buf (o + 8 * k); at = word buf (o + 8 * k + 4) }

-- the search for its bucket meets no entry of equal name
abbrev pub Unmet : List ℕ → ℕ → ℕ → ℕ → ℕ → ℕ → Type 0
Unmet buf end o n h at =
    has_match (bucket_at buf o) h (same_names (take end buf) at) (probe_sequence n n (start h n)) ≡ false

-- there are buckets, the n of them at o lie in the buffer, and so do the entries
pub record ProbePre (buf : List ℕ) (end o n : ℕ) : Type 0 where
  pub some : 0 < n
  pub inside : o + 8 * n ≤ length buf
  pub front : end ≤ length buf

pub record Probed (buf : List ℕ) (end o n h at bucket : ℕ) (met : Bool) : Type 0 where
  pub first : BucketIs (first_empty (offset_at buf o) (probe_sequence n n (start h n))) n bucket
  pub unmet : met ≡ false → Unmet buf end o n h at

pub record PairInserted (buf : List ℕ) (end o n h at : ℕ) (after : List ℕ) (met : Bool) : Type 0 where
  pub stored : after ≡ inserted buf o n h at
  pub hash_word : h < 4294967296
  pub offset_word : at < 4294967296
  pub unmet : met ≡ false → Unmet buf end o n h at

-- ---- entries, one by one

-- by the row in the head
abbrev pub RowUnmet : List ℕ → ℕ → ℕ → ℕ → Type 0
RowUnmet buf end h at = Unmet buf end (table_at buf (table_of h)) (bucket_number buf (table_of h)) h at

pub record RowInserted (buf : List ℕ) (end h at : ℕ) (after : List ℕ) (met : Bool) : Type 0 where
  pub leaves : after ≡ inserted_by_row buf h at
  pub unmet : met ≡ false → RowUnmet buf end h at

pub record EntryInserted (mode : Mode) (back_start : ℕ) (buf : List ℕ) (end at n : ℕ) (after : List ℕ) (met : Bool)
    : Type 0 where
  pub leaves : after ≡ entry_inserted mode back_start buf at n
  pub unmet : met ≡ false → RowUnmet buf end (entry_hash buf at n) at

-- m entries from `at` on meet none
abbrev pub UnmetFrom : Mode → ℕ → ℕ → ℕ → ℕ → List ℕ → Type 0
UnmetFrom mode back_start end zero at buf = Unit {0}
UnmetFrom mode back_start end (suc m) at buf =
    let n = whole_length (between buf at end) in
    RowUnmet buf end (entry_hash buf at n) at
    × UnmetFrom mode back_start end m (at + (8 + n)) (entry_inserted mode back_start buf at n)

pub record EntriesInserted (stop : Bool) (mode : Mode) (back_start end entries : ℕ) (buf after : List ℕ)
    (met : Bool)
    : Type 0 where
  pub leaves : (stop && met) ≡ false → after ≡ inserted_from mode back_start end entries head_size buf
  pub unmet : met ≡ false → UnmetFrom mode back_start end entries head_size buf

-- ---- by tables

pub record PairsInserted (stop : Bool) (buf : List ℕ) (end o c : ℕ) (pairs after : List ℕ) (met : Bool) : Type 0 where
  pub leaves : (stop && met) ≡ false → after ≡ table_stored buf o c (pairs_in pairs c)
  pub apart : met ≡ false → Apart (take end buf) (pairs_in pairs c)

pub record TableDone (stop : Bool) (buf : List ℕ) (end o c : ℕ) (after : List ℕ) (met : Bool) : Type 0 where
  pub leaves : (stop && met) ≡ false → after ≡ table_filled buf o c
  pub apart : met ≡ false → Apart (take end buf) (pairs_stored buf o c)

-- the pairs of the m tables from t on
abbrev pub TablesApart : List ℕ → List ℕ → ℕ → ℕ → ℕ → List ℕ → Type 0
TablesApart front counts o t zero buf = Unit {0}
TablesApart front counts o t (suc m) buf =
    Apart front (pairs_stored buf o (slice_index counts t))
    × TablesApart front counts (o + 16 * slice_index counts t) (suc t) m (table_filled buf o (slice_index counts t))

pub record TablesDone (stop : Bool) (counts : List ℕ) (end : ℕ) (buf after : List ℕ) (met : Bool) : Type 0 where
  pub leaves : (stop && met) ≡ false → after ≡ tables_from counts end 0 256 buf
  pub apart : met ≡ false → TablesApart (take end buf) counts end 0 256 buf

-- ---- all

-- one by one, into tables and a back array that were cleared
abbrev pub SinglyDone : Bool → Mode → ℕ → ℕ → ℕ → ℕ → List ℕ → List ℕ → Bool → Type 0
SinglyDone stop mode back_start end entries size buf after met =
    EntriesInserted stop mode back_start end entries (zeroed buf end size) after met

-- by either way
abbrev pub AllDone : Bool → Mode → ℕ → ℕ → ℕ → ℕ → List ℕ → List ℕ → List ℕ → Bool → Type 0
AllDone stop mode back_start end entries size counts buf after met =
    TablesDone stop counts end buf after met ⊎ SinglyDone stop mode back_start end entries size buf after met

pub record ImageWritten (mode : Mode) (end entries back : ℕ) (buf after : List ℕ) (met : Bool) : Type 0 where
  pub leaves : after ≡ serialized mode end entries back buf
  pub distinct : met ≡ false → Distinct (stored_entries buf end entries)

-- What the functions ask of their callers and promise, by name.
use Rattle.std.specs.Prelude.{ℕ, ◌+◌, ◌*◌, ◌^◌, ◌≤◌, ◌<◌, ◌≡◌, Bool, true, false, List, length, get_or}
use Rattle.jhash.specs.NameHash.{hash_of}
use Rattle.image.specs.Image.{head_size, back_size}
use Rattle.image.specs.Tally.{tallied}
use Rattle.image.specs.declared.Mode.{Mode}
use Rattle.image.specs.Steps.Contracts.{NameAtPre}
use Rattle.reader.specs.Open.{opening}
use Rattle.canonical.specs.Canonical.{mode_in, counted, canonical}
use Rattle.canonical.specs.declared.entries.EntriesChecked.{EntriesChecked}
use Rattle.canonical.specs.Steps.HiddenBuckets.{own_back_words}
use Rattle.canonical.specs.Steps.InPlace.{back_word_at}
use Rattle.canonical.specs.Steps.Checks.{entry_name, entries_to, placed_from, entries_valid, TablesInside, TablesHeld}

-- ---- words and tables

-- n words from o on
pub record WordsPre (o n : ℕ) : Type 0 where
  pub place : o < 2 ^ 48
  pub number : n < 4294967296

pub record CheckTablePre (img : List ℕ) (o c : ℕ) : Type 0 where
  pub inside : o + 16 * c ≤ length img
  pub number : c < 4294967296

pub record CheckRowsPre (img : List ℕ) (end : ℕ) : Type 0 where
  pub some : 1 ≤ end
  pub inside : end ≤ length img
  pub tables : TablesInside img

-- ---- entries

-- the entries are from the end of the head to `end`
pub record Area (img : List ℕ) (end : ℕ) : Type 0 where
  pub from : 2072 ≤ end
  pub inside : end ≤ length img
  pub small : end < 4294967296

pub record CheckEntryPre (img : List ℕ) (at n h : ℕ) : Type 0 where
  pub entry : NameAtPre img at n
  pub small : at < 4294967296
  pub hash : h ≡ hash_of (entry_name img at n)
  pub tables : TablesHeld img

pub record CheckEntriesPre (img : List ℕ) (end o : ℕ) (counts : List ℕ) : Type 0 where
  pub area : Area img end
  pub back_word_of : o < 2 ^ 48
  pub tables : TablesHeld img
  pub zeros : (t : ℕ) → get_or counts t 0 ≡ 0

-- the entries are not valid, or they are, and this was found of them
abbrev pub EntriesWrong : List ℕ → ℕ → ℕ → Bool → ℕ → Type 0
EntriesWrong img end entries two o = entries_valid img end entries two o ≡ false

pub record EntriesFound (img : List ℕ) (end entries : ℕ) (two : Bool) (o : ℕ) (counts₀ counts : List ℕ)
    (r : EntriesChecked) : Type 0 where
  pub valid : entries_valid img end entries two o ≡ true
  pub back : r.back ≡ back_size (entries_to img end entries)
  pub lasts : r.lasts ≡ own_back_words (back_word_at img o) (placed_from img end entries head_size)
  pub by_table : counts ≡ tallied counts₀ (entries_to img end entries)

pub record CheckBodyPre (img : List ℕ) (mode : Mode) (end back : ℕ) : Type 0 where
  pub mode_there : mode ≡ mode_in img
  pub area : Area img end
  pub back_small : back < 4294967296
  pub tables : TablesInside img

-- ---- for the crates above

-- a canonical image, which has n entries
pub record CanonicalWithEntries (img : List ℕ) (n : ℕ) : Type 0 where
  pub canonical : canonical img ≡ true
  pub number : n ≡ counted (opening img)

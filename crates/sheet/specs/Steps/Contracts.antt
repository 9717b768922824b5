-- The preconditions and postconditions of the crate's functions that have several facts, as records whose fields are
-- their parts.
use Rattle.std.specs.Prelude.{ℕ, ◌+◌, ◌*◌, ◌≤◌, ◌<◌, ◌≡◌, List, length}
use Rattle.std.proofs.lemmas.List.Edits.{sets}
use Rattle.sheet.specs.Format.{count_at, section_bytes}

-- a count that was read has 16 bits
pub record CountRead (file : List ℕ) (at r : ℕ) : Type 0 where
  pub count : r ≡ count_at file at
  pub bound : r < 65536

-- the buffer has room for a section, and its count fits 16 bits
pub record PutSectionPre (buf : List ℕ) (at : ℕ) (ids : List ℕ) : Type 0 where
  pub capacity : at + 2 + 4 * length ids ≤ length buf
  pub count_fits : length ids < 65536

-- a section is stored from `at` on, and ends at r
pub record SectionStored (buf₀ : List ℕ) (at : ℕ) (ids buf : List ℕ) (r : ℕ) : Type 0 where
  pub end : r ≡ at + 2 + 4 * length ids
  pub stored : buf ≡ sets buf₀ at (section_bytes ids)

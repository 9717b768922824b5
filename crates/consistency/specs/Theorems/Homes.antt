-- What holds of the matches of a search, and of home, on every byte string: 02 (vi).
use Rattle.std.specs.Prelude.{ℕ, ◌≤◌, ◌≡◌, Bool, true, false, List, take, drop, eqb}
use Rattle.jhash.specs.NameHash.{hash_of}
use Rattle.image.specs.Tables.{table_of}
use Rattle.image.specs.Head.{bucket_number}
use Rattle.reader.specs.Lookup.{Lookup, found, nothing, lookup}
use Rattle.reader.specs.Naming.{Naming, place, unnamed, naming}
use Rattle.consistency.specs.Matches.{first_match, match_reads, matches_of}
use Rattle.consistency.specs.Home.{home}

-- 01's rule before the request: an id is home exactly when it has a name and looking up that name finds this id
abbrev pub finds : ℕ → Lookup → Bool
finds id (found f) = eqb f.id id
finds id (nothing reads) = false

abbrev pub home_by_first : List ℕ → ℕ → Naming → Bool
home_by_first image id (place s n) = finds id (lookup image (take n (drop s image)))
home_by_first image id unnamed = false

pub record Homes : Type 0 where
  -- the lookup's rule is a reading of the search's matches: the first of them
  pub lookup_first : (image name : List ℕ) → lookup image name ≡ first_match (matches_of image name)
  -- who was home by 01's rule is home
  pub still_home : (image : List ℕ) (id : ℕ) → home_by_first image id (naming image id) ≡ true
      → home image id ≡ true
  -- the search of the home check, too, reads at most the buckets of the name's table: one pass over it
  pub one_pass : (image name : List ℕ)
      → match_reads (matches_of image name) ≤ bucket_number image (table_of (hash_of name))

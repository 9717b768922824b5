-- Search lengths: 02 (x), "the total of buckets read when the name of each entry is looked up", and how many entries
-- have each length.
use Rattle.std.specs.Prelude.{ℕ, ◌+◌, ◌-◌, min, cond, List, [], ◌∷◌, eqb}
use Rattle.image.specs.Image.{Entry}
use Rattle.image.specs.Tally.{one_more}
use Rattle.reader.specs.Cases.{reads}
use Rattle.reader.specs.Lookup.{lookup}

-- the search length of an entry: the buckets read when its name is looked up
-- (a lookup ends at the first entry of the name; the insertion of a repeated
-- name in close went on past it, and may have met more)
abbrev pub search_length : List ℕ → Entry → ℕ
search_length img e = reads (lookup img e.name)

-- the total of these entries: each entry counts, so a repeated name counts each time
unfoldable pub total_of : List ℕ → List Entry → ℕ
total_of img [] = 0
total_of img (e ∷ es) = search_length img e + total_of img es

-- the histogram has 16 counts: for the lengths 1, 2, .. 15, and for 16 and more. The place of a length among them:
abbrev pub bin_of : ℕ → ℕ
bin_of n = min (n - 1) 15

-- the counts after these entries
unfoldable pub lengths_from : List ℕ → List ℕ → List Entry → List ℕ
lengths_from img counts [] = counts
lengths_from img counts (e ∷ es) = lengths_from img (one_more counts (bin_of (search_length img e))) es

-- how many of these entries have their length at place k
unfoldable pub in_bin : List ℕ → ℕ → List Entry → ℕ
in_bin img k [] = 0
in_bin img k (e ∷ es) = cond (eqb (bin_of (search_length img e)) k) 1 0 + in_bin img k es

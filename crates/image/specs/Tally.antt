-- Entries counted by table: 01, "The writer record" and "Writing".
use Rattle.std.specs.Prelude.{ℕ, ◌+◌, List, [], ◌∷◌, slice_index, slice_set}
use Rattle.jhash.specs.NameHash.{hash_of}
use Rattle.image.specs.Tables.{table_of}
use Rattle.image.specs.Image.{Entry}

-- one more at a place of some counts
abbrev pub one_more : List ℕ → ℕ → List ℕ
one_more counts k = slice_set counts k (slice_index counts k + 1)

-- one more in the table of a hash
unfoldable pub raised_counts : List ℕ → ℕ → List ℕ
raised_counts counts h = one_more counts (table_of h)

-- the counts after this put
unfoldable pub counts_after : List ℕ → Entry → List ℕ
unfolding raised_counts
counts_after counts e = raised_counts counts (hash_of e.name)

-- the counts after entries
unfoldable pub tallied : List ℕ → List Entry → List ℕ
tallied counts [] = counts
tallied counts (e ∷ es) = tallied (counts_after counts e) es

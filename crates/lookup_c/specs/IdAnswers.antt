-- The exported lookup: the rule's answer as numbers. Assumes nothing.
use Rattle.std.specs.Prelude.{ℕ, List}
use Rattle.reader.specs.Lookup.{Lookup, found, nothing, lookup}
use Rattle.lookup_c.specs.declared.IdAnswer.{IdAnswer}

-- 1, the id and the entry's offset, or 0 in their places; both with the buckets read
abbrev pub id_answer_of : Lookup → IdAnswer
id_answer_of (found f) = record { found = 1; id = f.id; buckets = f.buckets; offset = f.offset }
id_answer_of (nothing n) = record { found = 0; id = 0; buckets = n; offset = 0 }

-- the rule of looking up a name, so answered
abbrev pub id_answer : List ℕ → List ℕ → IdAnswer
id_answer image name = id_answer_of (lookup image name)

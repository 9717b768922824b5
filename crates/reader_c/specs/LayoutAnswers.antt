-- The exported places of entries and tables: each rule's answer as numbers, zeros where there is nothing. Assumes
-- nothing.
use Rattle.std.specs.Prelude.{ℕ, cond, ◌||◌, List, length, ltb}
use Rattle.image.specs.Bytes.{word}
use Rattle.image.specs.Image.{head_size}
use Rattle.image.specs.Head.{table_at, bucket_number}
use Rattle.image.specs.Tables.{table_of}
use Rattle.reader.specs.Naming.{Naming, place, unnamed, naming_at}
use Rattle.reader.specs.Lookup.{unsearched}
use Rattle.reader_c.specs.declared.layout.EntryAnswer.{EntryAnswer}
use Rattle.reader_c.specs.declared.layout.TableAnswer.{TableAnswer}

-- 1, the id and the place of the name, or zeros
abbrev pub no_entry : EntryAnswer
no_entry = record { found = 0; id = 0; len = 0; start = 0 }

abbrev pub entry_answer_of : ℕ → Naming → EntryAnswer
entry_answer_of id (place s n) = record { found = 1; id = id; len = n; start = s }
entry_answer_of id unnamed = no_entry

-- the entry at an offset: its id word, and the place of its name as 01's "Naming an id" has it
abbrev pub entry_answer : List ℕ → ℕ → EntryAnswer
entry_answer image at = entry_answer_of (word image at) (naming_at image at)

-- the buckets from an offset on
abbrev pub buckets_from : ℕ → ℕ → TableAnswer
buckets_from o n = record { buckets = n; start = o }

-- the table of a hash: the one of the head's row; none where a lookup of such a name reads no bucket
unfoldable pub table_answer : List ℕ → ℕ → TableAnswer
table_answer image h =
    cond (ltb (length image) head_size || unsearched image (table_of h)) (buckets_from 0 0)
    (buckets_from (table_at image (table_of h)) (bucket_number image (table_of h)))

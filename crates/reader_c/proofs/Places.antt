-- The places of entries and tables by their tests. Assumes nothing.
use Prim.Native.Nat.{ℕ, ◌+◌, ◌-◌}
use mathlib.Core.Path.{◌≡◌, sym}
use mathlib.Core.Bool.{Bool, cond, ◌||◌}
use mathlib.Core.List.{List}
use lib.Dec.{eqb, ltb}
use lib.ListN.{length}
use Rattle.image.specs.Bytes.{word}
use Rattle.image.specs.Head.{table_at, bucket_number}
use Rattle.image.specs.Image.{head_size}
use Rattle.image.specs.Stored.{broken}
use Rattle.image.specs.Tables.{table_of}
use Rattle.reader.specs.Naming.{place, unnamed, naming_at}
use Rattle.reader.specs.Lookup.{unsearched}
use Rattle.reader_c.specs.LayoutAnswers.{entry_answer_of, entry_answer, buckets_from, table_answer}

-- an entry: is its offset 0, and is it broken?
pub entry_by : (image : List ℕ) (at : ℕ) (z x : Bool) → eqb at 0 ≡ z → broken image at ≡ x
    → entry_answer_of (word image at) (cond (z || x) unnamed (place (at + 8) (word image (at + 4) - 1))) ≡ entry_answer image at
unfolding naming_at
entry_by image at z x ez ex =
    sym (λ i. entry_answer_of (word image at) (cond (ez i || ex i) unnamed (place (at + 8) (word image (at + 4) - 1))))

-- a table: is the image under 2,072 bytes, and is no bucket read?
pub table_by : (image : List ℕ) (h : ℕ) (s u : Bool) → ltb (length image) head_size ≡ s → unsearched image (table_of h) ≡ u
    → cond (s || u) (buckets_from 0 0) (buckets_from (table_at image (table_of h)) (bucket_number image (table_of h))) ≡ table_answer image h
unfolding table_answer
table_by image h s u es eu =
    sym (λ i. cond (es i || eu i) (buckets_from 0 0) (buckets_from (table_at image (table_of h)) (bucket_number image (table_of h))))

-- Buckets and back words of an image, read in place.
use Rattle.std.specs.Prelude.{ℕ, ◌+◌, ◌*◌, List}
use Rattle.image.specs.Bytes.{word}
-- bucket k of the table at o
pub use Rattle.serialize.specs.Steps.Meeting.{bucket_at}

-- the back word of id i in the back array at o
abbrev pub back_word_at : List ℕ → ℕ → ℕ → ℕ
back_word_at img o i = word img (o + 4 * i)

-- What the walks over entries read first of each: proofs/ joins it to specs/Stored.
use Rattle.std.specs.Prelude.{ℕ, cond, List}
use Rattle.image.specs.Bytes.{word}
use Rattle.image.specs.Stored.{first_whole}

-- the length word of the entry at the front of some bytes, 0 where it is not whole
unfoldable pub whole_length : List ℕ → ℕ
whole_length bytes = cond (first_whole bytes) (word bytes 4) 0

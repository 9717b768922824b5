-- The length of a name is an entry's length word minus 1, which four bytes make, so that it is below 2^32. Assumes nothing.
use Rattle.std.proofs.Common.{◌≡◌, ℕ, ◌+◌, ◌-◌, ◌*◌, ◌<◌, cond, ◌||◌, eqb, leb, List, get_or, refl, arith}
use Rattle.jhash.proofs.WordRead.{word_below}
use Rattle.image.specs.Bytes.{word}
use Rattle.image.specs.Head.{back_size_at, back_offset_at}
use Rattle.image.specs.Stored.{broken}
use Rattle.image.proofs.Bools.{chose_second}
use Rattle.reader.specs.Naming.{Naming, place, unnamed, length_in, no_back, naming_at, naming}
use Rattle.reader.proofs.Namings.{never}

-- in an image of bytes
pub named_small : (image : List ℕ) (id s n : ℕ) → ((i : ℕ) → get_or image i 0 < 256) → naming image id ≡ place s n → n < 4294967296
unfolding naming naming_at
named_small image id s n bytes e =
    let at = word image (back_offset_at image + 4 * id) in
    let behind = leb (back_size_at image) id in
    let array = chose_second (no_back image) unnamed (cond behind unnamed (naming_at image at)) (place s n) (never s n) e in
    let below = chose_second behind unnamed (naming_at image at) (place s n) (never s n) array.1 in
    let entry = place (at + 8) (word image (at + 4) - 1) in
    let there = chose_second (eqb at 0 || broken image at) unnamed entry (place s n) (never s n) below.1 in
    let en : word image (at + 4) - 1 ≡ n = cc there.1 in
    omega (arith, word_below image (at + 4) bytes)

-- so is that in naming's answer, whatever it is
pub naming_small : (image : List ℕ) (id : ℕ) → ((i : ℕ) → get_or image i 0 < 256) → length_in (naming image id) < 4294967296
naming_small image id bytes = small_by_naming (naming image id) refl
  where
    small_by_naming : (x : Naming) → naming image id ≡ x → length_in x < 4294967296
    small_by_naming (place s n) e = named_small image id s n bytes e
    small_by_naming unnamed e = omega arith

-- The slots of two small lists, computed: what `Right` asks for of 3 slots.
use Rattle.std.specs.Prelude.{◌≡◌, refl, [], ◌∷◌, map}
use Rattle.image.specs.Tables.{empty, probe_sequence, first_empty, insert, insert_all, filled}
use Rattle.image.specs.Image.{head_size, placed, bucket_of}

-- no entry: every slot is empty
none : filled 3 (map bucket_of (placed head_size [])) ≡ empty ∷ empty ∷ empty ∷ []
unfolding filled insert_all placed
none = refl

-- two hashes whose probes start at slot 1 (0x400 / 256 % 3 = 0x100 / 256 % 3 = 1), and one that starts at slot 2 and
-- goes on at slot 0: the offsets of names of 2, 1 and 4 bytes
three : filled 3
    (record { hash = 0x400; at = 2072 } ∷ record { hash = 0x100; at = 2083 }
    ∷ record { hash = 0x2ff; at = 2093 } ∷ [])
    ≡ record { hash = 0x2ff; at = 2093 } ∷ record { hash = 0x400; at = 2072 }
    ∷ record { hash = 0x100; at = 2083 } ∷ []
unfolding filled insert_all insert first_empty probe_sequence
three = refl

-- Serializing: 01, "Writing". The entries stand in the buffer, and head, tables and back array are written around them.
use Rattle.std.specs.Prelude.{ℕ, List, ◌++◌, drop}
use Rattle.image.specs.Image.{Entry, head_size, image}
use Rattle.image.specs.Stored.{entries_in, between}
use Rattle.image.specs.declared.Mode.{Mode}
use Rattle.serialize.specs.Record.{finished_of}

-- the entries that the bytes from 2,072 to end are
abbrev pub stored_entries : List ℕ → ℕ → ℕ → List Entry
stored_entries buf end entries = entries_in entries (between buf head_size end)

-- what is written: the image of the entries. Bytes from the image's size on keep their content
abbrev pub serialized : Mode → ℕ → ℕ → ℕ → List ℕ → List ℕ
serialized mode end entries back buf =
    image mode (stored_entries buf end entries) ++ drop (finished_of mode end entries back) buf

-- The exported size after a put: 01's finished size of the record after it, as far as some image may have it. Every
-- mode but 0 is one-way. Assumes nothing.
use Rattle.std.specs.Prelude.{ℕ, ◌^◌, cond, ◌||◌, leb}
use Rattle.writer.specs.State.{finished_size}
use Rattle.writer.specs.Put.{writer_after_put}
use Rattle.writer.specs.CRecord.{writer_of}
use Rattle.writer.specs.declared.c_record.Record.{Record}

-- the largest number for entries that end at 2^63 or later, and for a name of 4,294,967,295 bytes or more
unfoldable pub size_with : Record → ℕ → ℕ → ℕ
size_with r n id =
    cond (leb (2 ^ 63) r.end || leb 4294967295 n) 18446744073709551615
    (finished_size (writer_after_put (writer_of r) n id))

-- The refusal of a put by whatever slots are lent: the checks of a put, in their order. By a right index it is
-- `indexed_refusal` (`PutIndexed`).
use Rattle.std.specs.Prelude.{ℕ, cond, not, List, length, get_or, take, eqb, ltb}
use Rattle.jhash.specs.NameHash.{hash_of}
use Rattle.image.specs.Tables.{table_of}
use Rattle.image.specs.Image.{Entry}
use Rattle.image.specs.Zero.{has_zero}
use Rattle.writer.specs.declared.CQDBWriter.{CQDBWriter}
use Rattle.writer.specs.State.{State, in_buffer, finished_size, too_large}
use Rattle.writer.specs.Put.{writer_after_put}
use Rattle.index.specs.Index.{slot_count, seeks}
use Rattle.index.specs.Probe.{has_name_at, probe_slots}
use Rattle.jhash.specs.Refusals as refused

-- before the search for the name: 2 for a record of another buffer (counts are not compared), 13 for a zero byte in the
-- name, 3 for a name that is too long to have a hash
unfoldable pub early_refusal : CQDBWriter → List ℕ → List ℕ → ℕ
early_refusal w buf name =
    cond (not (in_buffer w buf)) refused.unfit
    (cond (has_zero name) refused.zero_byte
    (cond (ltb 4294967294 (length name)) refused.no_room 0))

-- after it, of a name of n bytes with hash h: 3 when the image would be too large, 2 when the count of the name's table
-- has no room for one more
unfoldable pub late_refusal : CQDBWriter → List ℕ → ℕ → ℕ → ℕ → ℕ
late_refusal w counts n id h =
    cond (too_large w.length (finished_size (writer_after_put w n id))) refused.no_room
    (cond (ltb 4294967294 (get_or counts (table_of h) 0)) refused.unfit 0)

-- of an entry
abbrev pub early_of : State → Entry → ℕ
early_of s e = early_refusal s.writer s.buffer e.name

abbrev pub late_of : State → Entry → ℕ
late_of s e = late_refusal s.writer s.counts (length e.name) e.id (hash_of e.name)

-- the search: the name is compared with those entries before the record's end that slots of its hash lead to
abbrev pub probed_for : State → List ℕ → Entry → ℕ
probed_for s words e =
    probe_slots words (hash_of e.name) (has_name_at (take s.writer.end s.buffer) e.name)

-- by the result k of the search: 16 when it met an entry of this name; then the late refusals; then 24 when it met no
-- empty slot, and 0 otherwise
abbrev pub refusal_after : State → List ℕ → Entry → ℕ → ℕ
refusal_after s words e k =
    cond (ltb (slot_count words) k) refused.repeated
    (cond (eqb (late_of s e) 0) (cond (eqb k (slot_count words)) refused.index_full 0) (late_of s e))

-- the early refusals; then, with repeats off, those by the search, and with repeats on, where no name is sought, the
-- late ones
unfoldable pub refusal_by_slots : State → List ℕ → Entry → ℕ
refusal_by_slots s words e =
    cond (eqb (early_of s e) 0)
    (cond (seeks s) (refusal_after s words e (probed_for s words e)) (late_of s e))
    (early_of s e)

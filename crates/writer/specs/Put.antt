-- Put: 01, "Writing" and "When a call is refused". The decision is apart from the effect.
use Rattle.std.specs.Prelude.{ℕ, ◌+◌, max, Bool, cond, not, ◌&&◌, List, length, eqb}
use Rattle.std.proofs.lemmas.List.Edits.{sets}
use Rattle.image.specs.Image.{Entry, entry_bytes, contains_name}
use Rattle.image.specs.Tally.{counts_after}
use Rattle.image.specs.Zero.{has_zero}
use Rattle.image.specs.declared.Mode.{Mode}
use Rattle.image.specs.declared.Mode.TheVariants.{Twoway, Oneway}
use Rattle.writer.specs.declared.CQDBWriter.{CQDBWriter}
use Rattle.writer.specs.State.{State, refuses_repeats, fits, finished_size, too_large}
use Rattle.writer.specs.Close.{recorded, consistent}
use Rattle.jhash.specs.Refusals as refused

-- in two-way mode the back size becomes the larger of itself and id + 1
abbrev pub back_after : Mode → ℕ → ℕ → ℕ
back_after Twoway back id = max back (id + 1)
back_after Oneway back id = back

-- what a put of a name and an id stores
abbrev pub entry_of : List ℕ → ℕ → Entry
entry_of name id = record { name = name; id = id }

-- the record after a put of an id and a name of n bytes
unfoldable pub writer_after_put : CQDBWriter → ℕ → ℕ → CQDBWriter
writer_after_put w n id =
    record {
      mode = w.mode;
      repeats = w.repeats;
      length = w.length;
      end = w.end + (n + 9);
      entries = w.entries + 1;
      back = back_after w.mode w.back id;
    }

-- the record after this put
unfoldable pub writer_after_entry : CQDBWriter → Entry → CQDBWriter
unfolding writer_after_put
writer_after_entry w e = writer_after_put w (length e.name) e.id

-- 02 (viii): with repeats off, put walks the earlier entries. A walk that fails close's checks of entries, counts or
-- back size; otherwise an equal name
abbrev pub walk_fails : State → Bool
walk_fails s = not (consistent s) && refuses_repeats s.writer.repeats

abbrev pub repeated : State → List ℕ → Bool
repeated s name = contains_name name (recorded s) && refuses_repeats s.writer.repeats

-- 2 when the record doesn't fit the buffer; then 13 for a zero byte in the name (02 (v)); with repeats off, 4 when
-- the walk fails, otherwise 16 when it meets an equal name (02 (viii)); then 3 when the finished size, all after this
-- put, exceeds the buffer or 4,294,967,295. 0: no refusal
unfoldable pub put_refusal : State → Entry → ℕ
put_refusal s e =
    cond (not (fits s)) refused.unfit
    (cond (has_zero e.name) refused.zero_byte
    (cond (walk_fails s) refused.inconsistent
    (cond (repeated s e.name) refused.repeated
    (cond (too_large s.writer.length (finished_size (writer_after_entry s.writer e))) refused.no_room 0))))

-- put appends an entry and raises the counts; only that entry's bytes change
unfoldable pub appended : State → Entry → State
appended s e =
    record {
      writer = writer_after_entry s.writer e;
      counts = counts_after s.counts e;
      buffer = sets s.buffer s.writer.end (entry_bytes e);
    }

-- a refused put hands the record back unaltered, and no refusal changes a byte
unfoldable pub after_put : State → Entry → State
after_put s e = cond (eqb (put_refusal s e) 0) (appended s e) s

-- Close: 01, "Writing" and "When a call is refused".
use Rattle.std.specs.Prelude.{ℕ, Bool, cond, not, ◌&&◌, List, ◌++◌, take, drop, eqb}
use Rattle.jhash.specs.Outcome.{Outcome, value, refusal}
use Rattle.image.specs.Image.{Entry, head_size, back_size, back_in, image}
use Rattle.image.specs.Stored.{whole, entries_in, between}
use Rattle.writer.specs.State.{State, counts_agree, fits, finished_size, too_large}
use Rattle.jhash.specs.Refusals as refused

-- the bytes from 2,072 to end, and the entries there
abbrev pub entry_area : State → List ℕ
entry_area s = between s.buffer head_size s.writer.end

abbrev pub recorded : State → List Entry
recorded s = entries_in s.writer.entries (entry_area s)

-- the bytes from 2,072 to end are the recorded number of whole entries, with the table counts and the back size of
-- the record (back size 0 if one-way)
abbrev pub consistent : State → Bool
consistent s =
    whole s.writer.entries (entry_area s)
    && counts_agree s.counts (recorded s)
    && eqb s.writer.back (back_in s.writer.mode (back_size (recorded s)))

-- 2 when the record doesn't fit the buffer; then 4 when the bytes from 2,072 to end aren't the recorded number of
-- whole entries, when their table counts or back size differ from the record, or when the finished size exceeds
-- either limit. 0: no refusal
unfoldable pub close_refusal : State → ℕ
close_refusal s =
    cond (not (fits s)) refused.unfit
    (cond (consistent s && not (too_large s.writer.length (finished_size s.writer))) 0 refused.inconsistent)

-- the size that an accepted close gives
abbrev pub closed_size : State → ℕ
closed_size s = finished_size s.writer

-- close writes head, tables and back array; bytes from the image's size on keep their content
unfoldable pub closed : State → State
closed s =
    record {
      writer = s.writer;
      counts = s.counts;
      buffer = image s.writer.mode (recorded s) ++ drop (closed_size s) s.buffer;
    }

-- no refusal changes a byte
unfoldable pub after_close : State → State
after_close s = cond (eqb (close_refusal s) 0) (closed s) s

-- the image of a close: the buffer's first bytes after it, as many as the size it gives
abbrev pub closed_image : State → List ℕ
closed_image s = take (closed_size s) (after_close s).buffer

-- what close answers: the image's size, or the refusal's number
unfoldable pub closing : State → Outcome ℕ
closing s = cond (eqb (close_refusal s) 0) (value (closed_size s)) (refusal (close_refusal s))

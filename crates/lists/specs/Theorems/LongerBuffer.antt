-- A buffer that grows between calls: the entries stand in a longer buffer, and the record takes its length (`grown`).
-- Record, counts and buffer are then those of a writer that began with the longer buffer and was handed the accepted
-- puts.
use Rattle.std.specs.Prelude.{ℕ, ◌≤◌, ◌≡◌, List, ◌++◌, length}
use Rattle.image.specs.declared.Mode.{Mode}
use Rattle.image.specs.Image.{head_size}
use Rattle.image.specs.Stored.{between}
use Rattle.writer.specs.declared.Repeats.{Repeats}
use Rattle.writer.specs.State.{State, state_with}
use Rattle.writer.specs.Close.{entry_area}
use Rattle.writer.specs.Grown.{grown_refusal, grown_writer}
use Rattle.lists.specs.Calls.{Call, after, WordIds, put_all}
use Rattle.lists.specs.Demand3.{after_list, accepted_puts}

-- the record with the length of another buffer, and that buffer
abbrev pub moved_to : List ℕ → State → State
moved_to longer s = state_with (grown_writer s.writer (length longer)) s.counts longer

-- a buffer that is no shorter and has the same bytes from 2,072 to the end of the entries. Its other bytes are
-- what they are
pub record Longer (longer : List ℕ) (s : State) : Type 0 where
  pub long : s.writer.length ≤ length longer
  pub same_entries : between longer head_size s.writer.end ≡ entry_area s

pub record GrownList (mode : Mode) (repeats : Repeats) (buffer longer : List ℕ) (cs : List Call) : Type 0 where
  -- the longer buffer is not refused
  pub taken : grown_refusal (after_list mode repeats buffer cs).writer (length longer) ≡ 0
  -- the puts that were accepted are all accepted there
  pub same_puts : accepted_puts mode repeats longer (put_all (accepted_puts mode repeats buffer cs))
      ≡ accepted_puts mode repeats buffer cs
  -- and leave this record, these counts and these bytes
  pub same_state : moved_to longer (after_list mode repeats buffer cs)
      ≡ after_list mode repeats longer (put_all (accepted_puts mode repeats buffer cs))
  -- so the calls that follow are those of a list that began there
  pub goes_on : (more : List Call) → after (moved_to longer (after_list mode repeats buffer cs)) more
      ≡ after_list mode repeats longer (put_all (accepted_puts mode repeats buffer cs) ++ more)

-- for every list of puts and closes on a buffer of 2,072 bytes or more
pub record LongerBuffer : Type 0 where
  pub grows : (mode : Mode) (repeats : Repeats) (buffer longer : List ℕ) (cs : List Call)
      → head_size ≤ length buffer
      → WordIds mode cs → Longer longer (after_list mode repeats buffer cs)
      → GrownList mode repeats buffer longer cs

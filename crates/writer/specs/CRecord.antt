-- The writer record as C has it: 01, "The writer record". Assumes nothing.
use Rattle.std.specs.Prelude.{ℕ, Bool, cond, List, get_or, Result, Ok, Err}
use Rattle.jhash.specs.declared.refusals.Refusal.{Refusal}
use Rattle.jhash.specs.declared.refusals.Refusal.TheVariants.{Unfit}
use Rattle.image.specs.Image.{flag_word}
use Rattle.writer.specs.declared.CQDBWriter.{CQDBWriter}
use Rattle.writer.specs.State.{State, state_with}
use Rattle.writer.specs.Numbers.{valid_numbers, mode_of, repeats_of, repeats_word}
use Rattle.writer.specs.declared.c_record.Record.{Record}

-- the writer record that C's stands for, and the other way round
abbrev pub writer_of : Record → CQDBWriter
writer_of r =
    record {
      mode = mode_of r.mode;
      repeats = repeats_of r.repeats;
      length = r.length;
      end = r.end;
      entries = r.entries;
      back = r.back;
    }

-- C's record is none of 01 where its mode or choice of repeats is neither 0 nor 1
abbrev pub writer_read : Record → Result CQDBWriter Refusal
writer_read r = cond (valid_numbers r.mode r.repeats) (Ok (writer_of r)) (Err Unfit)

abbrev pub record_of : CQDBWriter → Record
record_of w =
    record {
      mode = flag_word w.mode;
      repeats = repeats_word w.repeats;
      entries = w.entries;
      back = w.back;
      length = w.length;
      end = w.end;
    }

-- C's writer is lent in place: the record's numbers (mode, repeats, entries, back size) and sizes (length, end)
abbrev pub record_in : List ℕ → List ℕ → Record
record_in numbers sizes =
    record {
      mode = get_or numbers 0 0;
      repeats = get_or numbers 1 0;
      entries = get_or numbers 2 0;
      back = get_or numbers 3 0;
      length = get_or sizes 0 0;
      end = get_or sizes 1 0;
    }

-- what a call is lent, as C has it: the record, its 256 table counts and the buffer
pub record CState : Type 0 where
  pub writer : Record
  pub counts : List ℕ
  pub buffer : List ℕ

abbrev pub c_state : Record → List ℕ → List ℕ → CState
c_state w counts buffer = record { writer = w; counts = counts; buffer = buffer }

abbrev pub lent_state : List ℕ → List ℕ → List ℕ → List ℕ → CState
lent_state numbers sizes counts buffer = c_state (record_in numbers sizes) counts buffer

-- the state of 01's rules that it stands for, and the other way round
abbrev pub state_in : CState → State
state_in h = state_with (writer_of h.writer) h.counts h.buffer

abbrev pub c_state_of : State → CState
c_state_of s = c_state (record_of s.writer) s.counts s.buffer

-- is a lent record one of 01's?
abbrev pub known_in : CState → Bool
known_in h = valid_numbers h.writer.mode h.writer.repeats

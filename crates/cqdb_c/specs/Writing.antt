-- The exported writing calls: each rule's answer as numbers, and what it leaves. A record with a mode or a repeats
-- mode that is neither 0 nor 1 fits no buffer: refusal 2, and nothing changes. Assumes nothing.
use Rattle.std.specs.Prelude.{ℕ, cond, List, [], ◌∷◌, replicate}
use Rattle.jhash.specs.Outcome.{Outcome, value, refusal}
use Rattle.image.specs.Image.{Entry}
use Rattle.writer.specs.declared.CQDBWriter.{CQDBWriter}
use Rattle.writer.specs.State.{beginning}
use Rattle.writer.specs.Put.{put_refusal, after_put}
use Rattle.writer.specs.Close.{closing, after_close}
use Rattle.writer.specs.declared.c_record.Record.{Record}
use Rattle.writer.specs.Numbers.{valid_numbers, mode_of, repeats_of}
use Rattle.writer.specs.CRecord.{record_of, CState, known_in, state_in, c_state_of}
use Rattle.cqdb_c.specs.declared.writing.CloseAnswer.{CloseAnswer}
use Rattle.jhash.specs.Refusals as refused

-- C's writer, lent in place: the record's numbers (mode, repeats, entries, back size) and sizes (length, end), and
-- the table counts
pub record LentWriter : Type 0 where
  pub numbers : List ℕ
  pub sizes : List ℕ
  pub counts : List ℕ

abbrev pub lent_writer : List ℕ → List ℕ → List ℕ → LentWriter
lent_writer numbers sizes counts = record { numbers = numbers; sizes = sizes; counts = counts }

-- the record's parts
abbrev pub numbers_of : Record → List ℕ
numbers_of r = r.mode ∷ r.repeats ∷ r.entries ∷ r.back ∷ []

abbrev pub sizes_of : Record → List ℕ
sizes_of r = r.length ∷ r.end ∷ []

-- the rule of begin for a buffer of n bytes: a fresh record, or a refusal
unfoldable pub beginning_of : ℕ → ℕ → ℕ → Outcome CQDBWriter
beginning_of mode repeats n =
    cond (valid_numbers mode repeats) (beginning (mode_of mode) (repeats_of repeats) n) (refusal refused.unfit)

abbrev pub number_in : Outcome CQDBWriter → ℕ
number_in (value w) = 0
number_in (refusal k) = k

-- what begin leaves: the fresh record with counts of 0, or where it is refused what was there
abbrev pub lent_in : Outcome CQDBWriter → LentWriter → LentWriter
lent_in (value w) l = lent_writer (numbers_of (record_of w)) (sizes_of (record_of w)) (replicate 256 0)
lent_in (refusal k) l = l

unfoldable pub left_by_begin : ℕ → ℕ → ℕ → LentWriter → LentWriter
left_by_begin mode repeats n l = lent_in (beginning_of mode repeats n) l

-- the rule of put: the refusal's number, 0 when accepted; and what put leaves
unfoldable pub put_number : CState → Entry → ℕ
put_number h e = cond (known_in h) (put_refusal (state_in h) e) refused.unfit

unfoldable pub left_by_put : CState → Entry → CState
left_by_put h e = cond (known_in h) (c_state_of (after_put (state_in h) e)) h

-- the rule of close: the image's size or the refusal's number, each 0 where it is the other; and what close leaves
unfoldable pub closing_of : CState → Outcome ℕ
closing_of h = cond (known_in h) (closing (state_in h)) (refusal refused.unfit)

abbrev pub refusal_in : Outcome ℕ → ℕ
refusal_in (value n) = 0
refusal_in (refusal k) = k

abbrev pub size_in : Outcome ℕ → ℕ
size_in (value n) = n
size_in (refusal k) = 0

-- both as C has them
abbrev pub close_answer_of : Outcome ℕ → CloseAnswer
close_answer_of d = record { refusal = refusal_in d; size = size_in d }

unfoldable pub left_by_close : CState → CState
left_by_close h = cond (known_in h) (c_state_of (after_close (state_in h))) h

-- The writer record, what it means that it fits, and begin: 01, "The writer record" and "When a call is refused".
use Rattle.std.specs.Prelude.{ℕ, Bool, true, false, cond, ◌&&◌, ◌||◌, List, length, replicate, eqb, ltb, leb}
use Rattle.jhash.specs.Outcome.{Outcome, value, refusal}
use Rattle.image.specs.Image.{head_size}
use Rattle.image.specs.declared.Mode.{Mode}
use Rattle.writer.specs.declared.Repeats.{Repeats}
use Rattle.writer.specs.declared.Repeats.TheVariants.{Off, On}
use Rattle.writer.specs.declared.CQDBWriter.{CQDBWriter}
use Rattle.jhash.specs.Refusals as refused
-- the rules of the record that serializing has too: the finished size; no table count exceeds a number; table counts
-- agree with entries
pub use Rattle.serialize.specs.Record.{finished_of, none_above, counts_agree}

-- what a call is lent: the writer record, whose 256 table counts are lent apart, and the buffer
pub record State : Type 0 where
  pub writer : CQDBWriter
  pub counts : List ℕ
  pub buffer : List ℕ

abbrev pub state_with : CQDBWriter → List ℕ → List ℕ → State
state_with w counts buffer = record { writer = w; counts = counts; buffer = buffer }

-- 02 (viii): a writer refuses a name that it already holds, unless begun in the repeats mode. The writer record
-- carries this choice, through every call
abbrev pub refuses_repeats : Repeats → Bool
refuses_repeats Off = true
refuses_repeats On = false

-- the lengths of record and buffer agree, and 2,072 ≤ end ≤ length
abbrev pub in_buffer : CQDBWriter → List ℕ → Bool
in_buffer w buffer = eqb w.length (length buffer) && leb head_size w.end && leb w.end w.length

-- the record fits (01's term) a buffer when that holds, and no table count exceeds the number of entries
unfoldable pub fits : State → Bool
fits s = in_buffer s.writer s.buffer && none_above s.counts s.writer.entries

-- the finished size (01's term): end + 16 × entries + 4 × back size, the back term 0 in one-way mode
abbrev pub finished_size : CQDBWriter → ℕ
finished_size w = finished_of w.mode w.end w.entries w.back

-- a size that exceeds the buffer or 4,294,967,295
abbrev pub too_large : ℕ → ℕ → Bool
too_large capacity size = ltb capacity size || ltb 4294967295 size

-- a fresh record: the chosen mode, the choice of repeats (02 (viii)), the buffer's length, end 2,072 and otherwise
-- zeros
abbrev pub fresh_writer : Mode → Repeats → ℕ → CQDBWriter
fresh_writer mode repeats n =
    record { mode = mode; repeats = repeats; length = n; end = head_size; entries = 0; back = 0 }

unfoldable pub fresh : Mode → Repeats → List ℕ → State
fresh mode repeats buffer =
    record { writer = fresh_writer mode repeats (length buffer); counts = replicate 256 0; buffer = buffer }

-- begin gives 1 when the buffer, of n bytes, is under 2,072 bytes; 0 stands for no refusal
abbrev pub begin_refusal : ℕ → ℕ
begin_refusal n = cond (ltb n head_size) refused.too_short 0

-- what begin answers: the fresh record, or only the refusal's number
unfoldable pub beginning : Mode → Repeats → ℕ → Outcome CQDBWriter
beginning mode repeats n = cond (eqb (begin_refusal n) 0) (value (fresh_writer mode repeats n))
    (refusal (begin_refusal n))

-- the table counts of a fresh record; a refused begin leaves what was lent for them as it was
unfoldable pub counts_begun : ℕ → List ℕ → List ℕ
counts_begun n counts = cond (eqb (begin_refusal n) 0) (replicate 256 0) counts

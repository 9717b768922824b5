-- A buffer that grows between calls: an added call. The entries stand where they stood, and the record takes the new
-- length.
use Rattle.std.specs.Prelude.{ℕ, cond, ltb}
use Rattle.writer.specs.declared.CQDBWriter.{CQDBWriter}
use Rattle.jhash.specs.Refusals as refused

-- the same record, with another length of its buffer
abbrev pub with_length : CQDBWriter → ℕ → CQDBWriter
with_length w n =
    record { mode = w.mode; repeats = w.repeats; length = n; end = w.end; entries = w.entries; back = w.back }

-- 2 when the buffer, now of n bytes, has become shorter. 0: no refusal
abbrev pub grown_refusal : CQDBWriter → ℕ → ℕ
grown_refusal w n = cond (ltb n w.length) refused.unfit 0

-- a refused call hands the record back unaltered
abbrev pub grown_writer : CQDBWriter → ℕ → CQDBWriter
grown_writer w n = cond (ltb n w.length) w (with_length w n)

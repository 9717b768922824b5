-- The exported call for a buffer that has grown: the rule's number, and the record that it leaves. A record with a
-- mode or a choice of repeats that is neither 0 nor 1 fits no buffer: refusal 2, and nothing changes. Assumes nothing.
use Rattle.std.specs.Prelude.{ℕ, cond}
use Rattle.writer.specs.Grown.{grown_refusal, grown_writer}
use Rattle.writer.specs.declared.c_record.Record.{Record}
use Rattle.writer.specs.Numbers.{valid_numbers}
use Rattle.writer.specs.CRecord.{writer_of, record_of}
use Rattle.jhash.specs.Refusals as refused

unfoldable pub grown_number : Record → ℕ → ℕ
grown_number r n = cond (valid_numbers r.mode r.repeats) (grown_refusal (writer_of r) n) refused.unfit

unfoldable pub record_grown : Record → ℕ → Record
record_grown r n = cond (valid_numbers r.mode r.repeats) (record_of (grown_writer (writer_of r) n)) r

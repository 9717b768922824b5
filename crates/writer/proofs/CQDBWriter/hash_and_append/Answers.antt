-- `CQDBWriter::hash_and_append` meets its contract. Assumes nothing.
use Prim.Native.Nat.{◌<◌}
use native.Mathlib.Omega.{arith}
use native.Mathlib.Decide.{dec_lt}
use mathlib.Core.Path.{sym, ◌∙◌}
use lib.ListN.{length}
use Rattle.image.proofs.Bools.{false_not_true}
use Rattle.jhash.proofs.Outcomes.{result_refused, result_name_hash}
use Rattle.writer.specs.State.{state_with}
use Rattle.writer.specs.Put.{entry_of, writer_after_entry}
use Rattle.writer.proofs.Puts.{Passed, passed, long_name, count_small, entry_fits, size_small}
use Rattle.writer.proofs.CQDBWriter.hash_and_append.Goals.{Start}
use Rattle.writer.proofs.CQDBWriter.hash_and_append.Goals as goal

-- what the put has passed
went : (s : Start) → Passed (state_with s.args.self.now s.args.counts.now s.args.buf.now) (entry_of s.args.name.now s.args.id)
went s = passed (state_with s.args.self.now s.args.counts.now s.args.buf.now) (entry_of s.args.name.now s.args.id) s.requires

short : (s : Start) → length s.args.name.now < 4294967295
short s =
    elim (dec_lt (length s.args.name.now) 4294967295) [
      | yes p ↦ p
      | no p ↦ absurd (false_not_true (sym (went s).has_capacity ∙ long_name s.args.self.now s.args.name.now s.args.id (omega arith)))
    ]

-- ---- the needs
pub returns-in_default : goal.returns-in_default
returns-in_default c =
    let hashed = c.name_hash in
    absurd (omega (arith, short (goal.at.returns-in_default c).Start, result_refused c.args.name.now 0 hashed.result _ hashed.ensures c.in_default.is))

pub append-requires : goal.append-requires
unfolding writer_after_entry
append-requires c =
    let hashed = c.name_hash in
    let a = c.args in
    let n = length a.name.now in
    record {
      hash = (result_name_hash a.name.now hashed.result c.in-Ok.h hashed.ensures c.in-Ok.is).1;
      count = count_small a.self.now a.counts.now a.buf.now n a.id (went (goal.at.append-requires c).Start).fitted
          (went (goal.at.append-requires c).Start).has_capacity c.in-Ok.h;
      entry = entry_fits a.self.now a.counts.now a.buf.now n a.id (went (goal.at.append-requires c).Start).fitted
          (went (goal.at.append-requires c).Start).has_capacity;
      short = short (goal.at.append-requires c).Start;
      size = size_small a.self.now a.counts.now a.buf.now n a.id (went (goal.at.append-requires c).Start).fitted
          (went (goal.at.append-requires c).Start).has_capacity;
    }

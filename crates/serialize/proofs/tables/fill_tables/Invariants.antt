-- `serialize::tables::fill_tables` meets its contract. Assumes nothing.
use Rattle.std.proofs.Common.{◌≡◌, ℕ, ◌+◌, ◌-◌, ◌*◌, ◌≤◌, Bool, false, List, length, take}
use Rattle.serialize.specs.Steps.Partition.{tables_from}
use Rattle.serialize.specs.Steps.Meeting.{TablesApart}
use Rattle.serialize.proofs.tables.fill_tables.Given as goal

-- the tables from t on, filled in this buffer, leave what all tables leave
pub record Filling (counts : List ℕ) (end : ℕ) (buf₀ copy₀ buf copy : List ℕ) (met : Bool) (o t : ℕ) : Type 0 where
  pub long : length buf ≡ length buf₀
  pub copy_long : length copy ≡ length copy₀
  pub leaves : tables_from counts o t (256 - t) buf ≡ tables_from counts end 0 256 buf₀
  pub near : o ≤ 4294967296 * (1 + 16 * t)
  pub behind : end ≤ o
  pub front : take end buf ≡ take end buf₀
  pub apart : met ≡ false → TablesApart (take end buf₀) counts o t (256 - t) buf → TablesApart (take end buf₀) counts end 0 256 buf₀

abbrev pub invariant-loop-count : goal.invariant-loop-count
invariant-loop-count l = Filling l.counts l.end l.initial.buf l.initial.copy l.buf l.copy l.met l.o l.count-index

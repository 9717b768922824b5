-- `serialize::head::write_rows` meets its contract. Assumes nothing.
use Rattle.std.proofs.Common.{◌≡◌, ℕ, ◌+◌, ◌-◌, ◌*◌, ◌≤◌, List, length}
use lib.Seq.{sets}
use Rattle.serialize.specs.Steps.Partition.{table_offsets_from}
use Rattle.serialize.specs.Steps.Written.{rows_from}
use Rattle.serialize.proofs.head.write_rows.Given as goal

-- the rows from table t on, stored in this buffer, leave what all rows leave, and so do the places
pub record Storing (counts : List ℕ) (end : ℕ) (buf₀ places₀ buf places : List ℕ) (o t : ℕ) : Type 0 where
  pub long : length buf ≡ length buf₀
  pub rows : sets buf (24 + 8 * t) (rows_from counts o t (256 - t)) ≡ sets buf₀ 24 (rows_from counts end 0 256)
  pub begins : sets places t (table_offsets_from counts o t (256 - t)) ≡ sets places₀ 0 (table_offsets_from counts end 0 256)
  pub near : o ≤ 4294967296 * (1 + 16 * t)

abbrev pub invariant-loop-t : goal.invariant-loop-t
invariant-loop-t l = Storing l.counts l.end l.initial.buf l.initial.places l.buf l.places l.o l.t

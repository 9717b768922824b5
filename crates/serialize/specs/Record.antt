-- The rules of the writer record that need its numbers and counts alone: 01, "The writer record" and "When a call is
-- refused". What it means that the record fits a buffer is said with them in specs/State of the crate writer.
use Rattle.std.specs.Prelude.{ℕ, ◌+◌, ◌*◌, Bool, List, nat_eq, nat_le, slice_index}
use Rattle.image.specs.Bytes.{all}
use Rattle.image.specs.Image.{Entry, head_size, back_in, placed, count}
use Rattle.image.specs.declared.Mode.{Mode}

-- the finished size (01's term): end + 16 × entries + 4 × back size, the back term 0 in one-way mode
abbrev pub finished_of : Mode → ℕ → ℕ → ℕ → ℕ
finished_of mode end entries back = end + 16 * entries + 4 * back_in mode back

-- no table count exceeds a number: in a record that fits, the number of entries
abbrev pub none_above : List ℕ → ℕ → Bool
none_above counts n = all (λ (t : ℕ). nat_le (slice_index counts t) n) 0 256

-- do the table counts agree with the entries?
abbrev pub counts_agree : List ℕ → List Entry → Bool
counts_agree counts es = all (λ (t : ℕ). nat_eq (slice_index counts t) (count t (placed head_size es))) 0 256

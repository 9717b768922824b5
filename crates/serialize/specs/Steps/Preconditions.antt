-- What writing the image asks of its callers, as the code needs it. No rule of 01 stands here: close has checked as
-- much, by specs/Close of the crate writer.
use Rattle.std.specs.Prelude.{◌≡◌, ℕ, ◌≤◌, true, List, length}
use Rattle.image.specs.Image.{head_size, back_size, back_in}
use Rattle.image.specs.Stored.{whole, between}
use Rattle.image.specs.declared.Mode.{Mode}
use Rattle.serialize.specs.Record.{finished_of, counts_agree}
use Rattle.serialize.specs.Serialize.{stored_entries}

-- the bytes from 2,072 to end are this number of whole entries, with these table counts and this back size (0 if
-- one-way), and the finished size exceeds neither the buffer nor 4,294,967,295
pub record ClosePrecondition (mode : Mode) (end entries back : ℕ) (counts buf : List ℕ) : Type 0 where
  pub after_head : head_size ≤ end
  pub whole_entries : whole entries (between buf head_size end) ≡ true
  pub counts_agree_lem : counts_agree counts (stored_entries buf end entries) ≡ true
  pub back_agrees : back ≡ back_in mode (back_size (stored_entries buf end entries))
  pub fits_buffer : finished_of mode end entries back ≤ length buf
  pub fits_word : finished_of mode end entries back ≤ 4294967295

-- The entries of a buffer inserted into empty slots. No rule stands here: proofs/ joins it to the rules.
use Rattle.std.specs.Prelude.{ℕ, ◌*◌, ◌≤◌, ◌<◌, ◌≡◌, true, List, length, get_or}
use Rattle.image.specs.Image.{head_size}
use Rattle.image.specs.Stored.{whole, entries_in, between}
use Rattle.index.specs.Index.{slot_count, entry_buckets, FilledWith}

pub record FillPre (buf : List ℕ) (end entries : ℕ) (words : List ℕ) : Type 0 where
  pub low : head_size ≤ end
  pub inside : end ≤ length buf
  pub small : end ≤ 4294967295
  pub entire : whole entries (between buf head_size end) ≡ true
  pub capacity : entries ≤ slot_count words
  pub cleared : (i : ℕ) → i < 2 * slot_count words → get_or words i 0 ≡ 0

pub record SlotsFilled (buf : List ℕ) (end entries : ℕ) (words words' : List ℕ) : Type 0 where
  pub slots : FilledWith words' (entry_buckets (entries_in entries (between buf head_size end)))
  pub long : length words' ≡ length words
  pub last : (i : ℕ) → 2 * slot_count words ≤ i → get_or words' i 0 ≡ get_or words i 0

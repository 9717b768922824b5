-- What a list of calls leaves, after every one of its calls: 01, "The writer record", of a list whose accepted puts are es.
use Prim.Native.Nat.{ℕ, ◌^◌, ◌≤◌, ◌<◌}
use mathlib.Core.Path.{◌≡◌}
use mathlib.Core.List.{List}
use lib.ListN.{length, get_or, take, drop}
use Rattle.image.specs.declared.Mode.{Mode}
use Rattle.image.specs.Bytes.{cat}
use Rattle.image.specs.Image.{Entry, head_size, entry_bytes, entries_size, entries_end, placed, count, back_size_of, back_size, image_size}
use Rattle.writer.specs.declared.Repeats.{Repeats}
use Rattle.writer.specs.State.{State}

-- record and buffer hold these entries, in a buffer of n bytes, and their image has room
pub record Written (mode : Mode) (repeats : Repeats) (n : ℕ) (es : List Entry) (s : State) : Type 0 where
  pub mode_is : s.writer.mode ≡ mode
  pub repeats_is : s.writer.repeats ≡ repeats
  pub length_is : s.writer.length ≡ n
  pub length_kept : length s.buffer ≡ n
  pub end : s.writer.end ≡ entries_end es
  pub entries : s.writer.entries ≡ length es
  pub back_size_lem : s.writer.back ≡ back_size_of mode es
  pub tables : length s.counts ≡ 256
  pub counts : (t : ℕ) → t < 256 → get_or s.counts t 0 ≡ count t (placed head_size es)
  pub area : take (entries_size es) (drop head_size s.buffer) ≡ cat entry_bytes es
  pub within : image_size mode es ≤ n
  pub below : image_size mode es ≤ 4294967295
  -- each id is a word
  pub ids : back_size es ≤ 2 ^ 32

-- The words and entries of an image, read in place, are those of the image of some entries. Assumes nothing.
use Prim.Native.Nat.{ℕ, ◌+◌, ◌*◌, ◌<◌}
use mathlib.Core.Path.{◌≡◌}
use mathlib.Core.Bool.{true}
use mathlib.Core.List.{List, map}
use lib.ListN.{length}
use Rattle.image.specs.Bytes.{word, cat}
use Rattle.image.specs.Image.{Entry, head_size, entry_bytes, placed, of_table, count, bucket_of, entries_before, table_offset, flag_word, back_size_of}
use Rattle.image.specs.Image.{back_offset}
use Rattle.image.specs.Image.{entries_end, image_size, back_word}
use Rattle.image.specs.Head.{table_at, bucket_number}
use Rattle.image.specs.Tables.{Filled}
use Rattle.image.specs.declared.Mode.{Mode}
use Rattle.image.proofs.At.{At}
use Rattle.reader.specs.Open.{has_letters}
use Rattle.canonical.specs.Steps.InPlace.{bucket_at, back_word_at}

pub record InPlace (img : List ℕ) (mode : Mode) (es : List Entry) : Type 0 where
  pub letters : has_letters img ≡ true
  pub size : word img 4 ≡ length img
  pub flag : word img 8 ≡ flag_word mode
  pub order : word img 12 ≡ 0x62445371
  pub back_size_lem : word img 16 ≡ back_size_of mode es
  pub back_start : word img 20 ≡ back_offset mode es
  pub total : length img ≡ image_size mode es
  pub rows : (t : ℕ) → t < 256
      → (table_at img t ≡ table_offset (entries_end es) (placed head_size es) t) × (bucket_number img t ≡ 2 * count t (placed head_size es))
  pub entries : At img head_size (cat entry_bytes es)
  pub tables : (t : ℕ) → t < 256
      → Filled (2 * count t (placed head_size es)) (bucket_at img (entries_end es + 16 * entries_before t (placed head_size es)))
      (map bucket_of (of_table t (placed head_size es)))
  pub back_word_of : (i : ℕ) → i < back_size_of mode es → back_word (placed head_size es) i ≡ back_word_at img (entries_end es + 16 * length es) i

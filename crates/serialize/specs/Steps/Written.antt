-- All that is written around the entries. No rule of 01 stands here: proofs/ shows that it is the image that
-- specs/Serialize says.
use Rattle.std.specs.Prelude.{◌≡◌, ℕ, zero, suc, ◌+◌, ◌-◌, ◌*◌, ◌<◌, ◌≤◌, Bool, cond, ◌&&◌, List, [], ◌++◌, length}
use Rattle.std.specs.Prelude.{replicate, ◌==◌, nat_le, slice_index}
use Rattle.std.proofs.lemmas.List.Edits.{sets}
use Rattle.image.specs.Bytes.{le32}
use Rattle.image.specs.Image.{head_size, head_bytes, flag_word, back_in}
use Rattle.image.specs.declared.Mode.{Mode}
use Rattle.serialize.specs.Record.{finished_of, none_above}
use Rattle.serialize.specs.Steps.Partition.{table_offsets_from}

-- the rows of the m tables from t on, of which the first with entries begins at o
unfoldable pub rows_from : List ℕ → ℕ → ℕ → ℕ → List ℕ
rows_from counts o t zero = []
rows_from counts o t (suc m) =
    le32 (cond (slice_index counts t == 0) 0 o)
    ++ le32 (2 * slice_index counts t)
    ++ rows_from counts (o + 16 * slice_index counts t) (suc t) m

-- where the back array begins, 0 where there is none
unfoldable pub back_offset_of : Mode → ℕ → ℕ → ℕ → ℕ
back_offset_of mode end entries back = cond (back_in mode back == 0) 0 (end + 16 * entries)

-- head and rows
unfoldable pub headed : Mode → ℕ → ℕ → ℕ → List ℕ → List ℕ → List ℕ
headed mode end entries back counts buf =
    let size = finished_of mode end entries back in
    let head = head_bytes size (flag_word mode) (back_in mode back) (back_offset_of mode end entries back) in
    sets (sets buf 0 head) 24 (rows_from counts end 0 256)

-- zeros from one place to another
unfoldable pub zeroed : List ℕ → ℕ → ℕ → List ℕ
zeroed buf from to = sets buf from (replicate (to - from) 0)

-- rows, and where the tables begin
pub record RowsWritten (counts : List ℕ) (end : ℕ) (buf places buf' places' : List ℕ) : Type 0 where
  pub rows : buf' ≡ sets buf 24 (rows_from counts end 0 256)
  pub begins : places' ≡ sets places 0 (table_offsets_from counts end 0 256)

-- the image lies in the buffer
pub record BeginPre (mode : Mode) (end entries back : ℕ) (buf : List ℕ) : Type 0 where
  pub low : head_size ≤ end
  pub fits_buffer : finished_of mode end entries back ≤ length buf
  pub fits_word : finished_of mode end entries back ≤ 4294967295

pub record FrontWritten (mode : Mode) (end entries back : ℕ) (counts buf places buf' places' : List ℕ) : Type 0 where
  pub front : buf' ≡ headed mode end entries back counts buf
  pub begins : places' ≡ sets places 0 (table_offsets_from counts end 0 256)

-- head and rows, and the back array cleared
unfoldable pub begun_image : Mode → ℕ → ℕ → ℕ → List ℕ → List ℕ → List ℕ
begun_image mode end entries back counts buf =
    zeroed (headed mode end entries back counts buf) (end + 16 * entries) (finished_of mode end entries back)

pub record ImageBegun (mode : Mode) (end entries back : ℕ) (counts buf places buf' places' : List ℕ) : Type 0 where
  pub image : buf' ≡ begun_image mode end entries back counts buf
  pub begins : places' ≡ sets places 0 (table_offsets_from counts end 0 256)

-- does close fill tables from pairs? From 1,024 entries on, where no table has more than 4,608
abbrev pub by_tables : List ℕ → ℕ → Bool
by_tables counts entries = nat_le 1024 entries && none_above counts 4608

-- the entries end in the image, and the image in the buffer
pub record FillAllPre (back_start end size : ℕ) (buf : List ℕ) : Type 0 where
  pub low : 2072 ≤ end
  pub within : end ≤ size
  pub inside : size ≤ length buf
  pub size_word : size < 4294967296
  pub back_word : back_start < 4294967296

-- The worked examples hold, computed by the checker. Assumes nothing.
use mathlib.Core.Path.{refl}
use Rattle.image.specs.Bytes.{word, le32, cat}
use Rattle.sheet.specs.Format.{count_at, count_bytes, ids, id_bytes, section_bytes, sheet_bytes}
use Rattle.sheet.specs.SheetReading.{section_at, sections, read_sheet, read_lists}
use Rattle.sheet.specs.SheetWriting.{writing, after_writing}
use Rattle.sheet.specs.Examples.Rows.{SheetRowsHold}

-- every row holds
pub rows_hold : SheetRowsHold
unfolding read_lists read_sheet sections section_at count_at ids word after_writing writing sheet_bytes section_bytes count_bytes id_bytes cat le32
rows_hold = record { reads = refl; gives = refl; leaves = refl }

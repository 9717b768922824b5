-- `sheet::reading::count_at` meets its contract. Assumes nothing.
use Rattle.sheet.proofs.CountsAndIds.{count_of}
use Rattle.sheet.proofs.reading.count_at.Goals as goal

pub returns : goal.returns
returns c =
    let a = c.args in
    count_of a.file.now a.at c.byte_as_word-low.result c.byte_as_word-high.result c.byte_as_word-low.ensures
    c.byte_as_word-high.ensures

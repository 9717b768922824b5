-- `reader::Image::to_id_hashed` meets its contract. Assumes nothing.
use Rattle.std.proofs.Common.{◌<◌, ◌∙◌, arith}
use Rattle.reader.proofs.Searches.{lookup_unread, lookup_read}
use Rattle.reader.proofs.Image.to_id_hashed.Goals as goal

pub returns-then-table-eq0 : goal.returns-then-table-eq0
returns-then-table-eq0 c =
    let a = c.args in
    c.nothing.ensures ∙ lookup_unread a.self.bytes.now a.name.now a.h (c.table-table.ensures.unread c.if-table-eq0.true)

pub returns : goal.returns
returns c =
    let a = c.args in
    let t = c.table-table.result in
    let some : 0 < t.n = omega (arith, c.if-table-eq0.false) in
    let found = c.table-table.ensures.table some in
    c.search.ensures ∙ lookup_read a.self.bytes.now a.name.now a.h t.at t.n found.searched found.offset found.number

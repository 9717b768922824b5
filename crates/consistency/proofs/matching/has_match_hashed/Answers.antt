-- `consistency::matching::has_match_hashed` meets its contract. Assumes nothing.
use Prim.Native.Nat.{◌<◌}
use native.Mathlib.Omega.{arith}
use mathlib.Core.Path.{◌∙◌}
use Rattle.consistency.proofs.MatchSearch.{matches_unread, matches_read}
use Rattle.consistency.proofs.matching.has_match_hashed.Goals as goal

pub returns-then-table-eq0 : goal.returns-then-table-eq0
returns-then-table-eq0 c =
    let a = c.args in
    matches_unread a.image.bytes.now a.name.now a.h a.id (c.table-table.ensures.unread c.if-table-eq0.true)

pub returns : goal.returns
returns c =
    let a = c.args in
    let t = c.table-table.result in
    let some : 0 < t.n = omega (arith, c.if-table-eq0.false) in
    let found = c.table-table.ensures.table some in
    c.has_match_in.ensures ∙ matches_read a.image.bytes.now a.name.now a.h t.at t.n a.id found.searched found.offset found.number

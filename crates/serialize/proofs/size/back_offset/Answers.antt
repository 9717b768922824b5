-- `serialize::size::back_offset` meets its contract. Assumes nothing.
use Rattle.serialize.proofs.WriteSteps.{back_offset_none, back_offset_some}
use Rattle.serialize.proofs.size.back_offset.Goals as goal

pub returns-then-back_in-eq0 : goal.returns-then-back_in-eq0
returns-then-back_in-eq0 c =
    let a = c.args in
    back_offset_none a.mode a.end a.entries a.back c.back_in.result c.back_in.ensures c.if-back_in-eq0.true

pub returns : goal.returns
returns c =
    let a = c.args in
    back_offset_some a.mode a.end a.entries a.back c.back_in.result c.back_in.ensures c.if-back_in-eq0.false

-- `serialize::counts::none_above` meets its contract. Assumes nothing.
use Rattle.serialize.proofs.OrAll.{bounded}
use Rattle.serialize.proofs.counts.none_above.Goals as goal

pub returns-then-or_all-entries : goal.returns-then-or_all-entries
returns-then-or_all-entries c =
    let a = c.args in
    bounded a.counts.now c.or_all.result a.entries c.or_all.ensures c.if-or_all-entries.true

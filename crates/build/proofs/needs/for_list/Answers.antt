-- `build::needs::for_list` meets its contract: both numbers. Assumes nothing.
use Rattle.build.proofs.Needed.{needs_are}
use Rattle.build.proofs.needs.for_list.Goals as goal

pub returns : goal.returns
returns c =
    let a = c.args in
    needs_are a.mode a.size a.ids.now c.bytes_for.result c.saturating_mul.result c.bytes_for.ensures c.saturating_mul.ensures

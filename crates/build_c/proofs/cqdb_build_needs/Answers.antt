-- `build_c::cqdb_build_needs` meets its contract: what `for_list` promises, put into the struct. Assumes nothing.
use Rattle.std.proofs.Common.{◌∙◌}
use Rattle.build_c.proofs.Needed.{needs_told}
use Rattle.build_c.proofs.cqdb_build_needs.Goals as goal

pub returns : goal.returns
returns c =
    let a = c.args in
    c.from.ensures ∙ needs_told a.mode a.size a.ids.now c.mode_of.result c.for_list.result c.mode_of.ensures c.for_list.ensures

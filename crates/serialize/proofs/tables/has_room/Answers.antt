-- `serialize::tables::has_room` meets its contract. Assumes nothing.
use Rattle.std.proofs.Common.{sym, ◌∙◌, arith}
use Rattle.serialize.proofs.OrAll.{each_within}
use Rattle.serialize.proofs.tables.has_room.Goals as goal

pub returns : goal.returns
returns c = λ yes t h. omega (arith, each_within c.args.counts.now _ (sym c.none_above.ensures ∙ yes) t h, c.min-pairs.ensures)

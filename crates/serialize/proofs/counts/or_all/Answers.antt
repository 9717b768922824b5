-- `serialize::counts::or_all` meets its contract. Assumes nothing.
use Rattle.serialize.proofs.OrAll.{or_more}
use Rattle.serialize.proofs.counts.or_all.Goals as goal

pub loop-count-preserved : goal.loop-count-preserved
loop-count-preserved c = let s = c.loop-count in or_more c.args.counts.now s.count-index s.all s.invariant

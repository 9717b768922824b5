-- `changes::upper` meets its contract. Assumes nothing.
use Rattle.changes.specs.Changes.{upper}
use Rattle.changes.proofs.upper.Goals as goal

pub returns : goal.returns
unfolding upper
returns c = cc

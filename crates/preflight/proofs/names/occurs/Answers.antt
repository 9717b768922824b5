-- `preflight::names::occurs` meets its contract. Assumes nothing.
use Rattle.std.proofs.Common.{◌∙◌}
use Rattle.preflight.proofs.Places.{occurs_so}
use Rattle.preflight.proofs.names.occurs.Goals as goal

pub returns : goal.returns
returns c = c.contains.ensures.value ∙ occurs_so c.args.id c.args.ids.now

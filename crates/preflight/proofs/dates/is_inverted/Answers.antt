-- `preflight::dates::is_inverted` meets its contract. Assumes nothing.
use Rattle.preflight.proofs.Windows.{inverted_by}
use Rattle.preflight.proofs.dates.is_inverted.Goals as goal

pub returns : goal.returns
returns c = inverted_by c.args.w _ c.earlier.ensures

-- `preflight::dates::window_at` meets its contract: its three words lie in the slice. Assumes nothing.
use Rattle.preflight.proofs.Windows.{window_by}
use Rattle.preflight.proofs.dates.window_at.Goals as goal

pub returns : goal.returns
returns c =
    let a = c.args in
    window_by a.windows.now a.i _ _ c.date_of.ensures c.date_of-2.ensures

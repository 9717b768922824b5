-- `preflight::preflight_first` meets its contract. Assumes nothing.
use Rattle.std.proofs.Common.{sym}
use Rattle.preflight.proofs.Alone.{sheet_yes}
use Rattle.preflight.proofs.preflight_first.Goals as goal

pub unsighted-requires : goal.unsighted-requires
unsighted-requires c = let a = c.args in sheet_yes a.new.now a.sheet.now a.round.now (sym c.in_ok-ask_first.ensures)

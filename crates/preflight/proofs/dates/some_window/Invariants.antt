-- The windows from the one at hand on answer for all.
use Rattle.std.proofs.Common.{◌≡◌, ◌-◌, ◌/◌, Bool, length}
use Rattle.validity.specs.Rule.{some_window}
use Rattle.validity.specs.declared.Window.{Window}
use Rattle.preflight.specs.Dates.{windows_from, windows_in}
use Rattle.preflight.proofs.dates.some_window.Given as goal

abbrev pub invariant-loop-i : goal.invariant-loop-i
invariant-loop-i g l =
    (t : Window → Bool) → ((w : Window) (r : Bool) → goal.F-post g l.test w r → r ≡ t w)
    → some_window t (windows_from l.windows l.i (length l.windows / 3 - l.i)) ≡ some_window t (windows_in l.windows)

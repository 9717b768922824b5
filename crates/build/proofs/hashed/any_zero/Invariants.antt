-- `build::hashed::any_zero` meets its contract. The loop's invariant: what was found or is still to be found is the whole test. Assumes nothing.
use Rattle.std.proofs.Common.{◌≡◌, drop}
use mathlib.Core.Bool.{◌||◌}
use Rattle.image.specs.Zero.{has_zero}
use Rattle.build.proofs.hashed.any_zero.Given as goal

abbrev pub invariant-loop-b : goal.invariant-loop-b
invariant-loop-b l = (l.any || has_zero (drop l.b-index l.bytes)) ≡ has_zero l.bytes

-- What is still to be read makes of what was read the number of all.
use Rattle.std.proofs.Common.{◌≡◌, drop}
use Rattle.catalogue.specs.Lines.{number_from, decimal}
use Rattle.catalogue.proofs.parsing.number.Given as goal

abbrev pub invariant-loop-b : goal.invariant-loop-b
invariant-loop-b l = number_from l.v (drop l.b-index l.digits) ≡ decimal l.digits

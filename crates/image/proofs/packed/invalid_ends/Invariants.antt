-- `image::packed::invalid_ends` meets its contract. The loop's invariant: what was found or is still to be found is the whole test. Assumes nothing.
use Rattle.std.proofs.Common.{◌≡◌, ◌||◌, drop}
use Rattle.image.specs.PackedNames.{invalid_ends}
use Rattle.image.proofs.packed.invalid_ends.Given as goal

abbrev pub invariant-loop-end : goal.invariant-loop-end
invariant-loop-end l = (l.bad || invalid_ends l.size l.start (drop l.end-index l.ends)) ≡ invalid_ends l.size 0 l.ends

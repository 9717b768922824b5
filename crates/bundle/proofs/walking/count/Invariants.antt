-- `bundle::walking::count` meets its contract. Assumes nothing.
use Rattle.std.proofs.Common.{◌-◌, length}
use Rattle.bundle.specs.FileWalk.{counting}
use Rattle.bundle.proofs.FileWalks.{Counting}
use Rattle.bundle.proofs.walking.count.Given as goal

abbrev pub invariant-loop-at : goal.invariant-loop-at
invariant-loop-at l = Counting l.file l.at l.images (counting l.file)

abbrev pub decreases-loop-at : goal.decreases-loop-at
decreases-loop-at l = length l.file - l.at

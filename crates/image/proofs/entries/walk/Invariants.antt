-- `image::entries::walk` meets its contract. Assumes nothing.
use Rattle.std.proofs.Common.{◌-◌}
use Rattle.image.proofs.EntryWalk.{WalkInv}
use Rattle.image.proofs.entries.walk.Given as goal

abbrev pub invariant-loop : goal.invariant-loop
invariant-loop l =
    WalkInv l.buf l.end l.entries l.initial.counts l.sought l.counts l.at (l.entries - l.counter) l.back l.contains

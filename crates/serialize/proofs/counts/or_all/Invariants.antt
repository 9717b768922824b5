-- `serialize::counts::or_all` meets its contract. The loop's invariant: no count that was read exceeds the bits so far. Assumes nothing.
use Rattle.std.proofs.Common.{ℕ, ◌<◌, ◌≤◌, get_or}
use Rattle.serialize.proofs.counts.or_all.Given as goal

abbrev pub invariant-loop-count : goal.invariant-loop-count
invariant-loop-count l = (i : ℕ) → i < l.count-index → get_or l.counts i 0 ≤ l.all

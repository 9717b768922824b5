-- `serialize::counts::each_at_most` meets its contract. The loop's invariant: the answer so far, and the counts that are left, decide. Assumes nothing.
use Rattle.std.proofs.Common.{◌≡◌, ℕ, ◌-◌, ◌&&◌, leb, get_or}
use Rattle.serialize.specs.Record.{none_above}
use Rattle.image.specs.Bytes.{all}
use Rattle.serialize.proofs.counts.each_at_most.Given as goal

abbrev pub invariant-loop-count : goal.invariant-loop-count
invariant-loop-count l =
    (l.none && all (λ (i : ℕ). leb (get_or l.counts i 0) l.entries) l.count-index (256 - l.count-index)) ≡ none_above l.counts l.entries

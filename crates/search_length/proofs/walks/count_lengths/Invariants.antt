-- `search_length::walks::count_lengths` meets its contract. Assumes nothing.
use Rattle.std.proofs.Common.{ℕ, ◌-◌, List}
use Rattle.image.specs.Image.{Entry}
use Rattle.canonical.proofs.EntriesAhead.{Ahead}
use Rattle.search_length.proofs.Histogram.{Counting}
use Rattle.search_length.proofs.walks.count_lengths.Given as goal

-- what the entries ahead are to add
abbrev pub Adding : List ℕ → ℕ → List ℕ → ℕ → ℕ → ℕ → List Entry → Type 0
Adding image n counts left sum at es = Counting image n counts left sum es

abbrev pub invariant-loop : goal.invariant-loop
invariant-loop l = Ahead (Adding l.image l.n l.counts (l.n - l.counter) l.sum) l.image l.at (l.n - l.counter)

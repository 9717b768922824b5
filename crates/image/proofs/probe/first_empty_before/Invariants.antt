-- `image::probe::first_empty_before` meets its contract. Assumes nothing.
use Rattle.std.proofs.Common.{ℕ, ◌-◌}
use Rattle.image.specs.Steps.Contracts.{offset_at, hidden}
use Rattle.image.proofs.FirstEmpty.{Probing}
use Rattle.image.proofs.probe.first_empty_before.Given as goal

abbrev pub invariant-loop : goal.invariant-loop
invariant-loop l = Probing (λ (j : ℕ). hidden l.before (offset_at l.buf l.o j)) l.n l.k l.i (l.n - l.counter)

-- `index::slots::search` meets its contract. Assumes nothing.
use Rattle.std.proofs.Common.{ℕ, ◌≡◌, refl, sym, ap}
use Rattle.index.specs.Index.{slot_count}
use Rattle.index.specs.Probe.{has_name_at, probe_slots}
use Rattle.index.proofs.slots.search.Goals as goal

pub returns-then-not-sought : goal.returns-then-not-sought
returns-then-not-sought c = rw c.if-not-sought.true refl

pub returns : goal.returns
returns c = rw c.if-not-sought.false c.probe.ensures

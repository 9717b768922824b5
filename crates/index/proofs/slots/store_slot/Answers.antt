-- `index::slots::store_slot` meets its contract. Assumes nothing.
use native.Mathlib.Omega.{arith}
use lib.ListN.{length-set}
use Rattle.index.proofs.slots.store_slot.Goals as goal

pub bounds-slots-k-2 : goal.bounds-slots-k-2
bounds-slots-k-2 c = simp length-set (omega (arith, c.requires))

-- `image::store::store_bytes` meets its contract. Assumes nothing.
use Rattle.image.proofs.Stores.{StoreInv}
use Rattle.image.proofs.store.store_bytes.Given as goal

abbrev pub invariant-loop-j : goal.invariant-loop-j
invariant-loop-j l = StoreInv l.initial.buf l.at l.src l.buf l.j

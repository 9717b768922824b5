-- The lengths of the names of a change are below 2^32, since each is an entry's length word minus 1. Assumes nothing.
use Prim.Native.Nat.{ℕ, ◌<◌}
use native.Mathlib.Omega.{arith}
use mathlib.Core.Path.{◌≡◌}
use mathlib.Core.List.{List}
use mathlib.Core.Option.{Option, none, some}
use lib.ListN.{get_or}
use Rattle.reader.specs.Naming.{Naming, naming, length_in}
use Rattle.reader.proofs.Lengths.{naming_small}
use Rattle.changes.specs.Changes.{first_change, changed, change_at, next_change}

-- the lengths of an old and a new name fit 32 bits
pub record ShortNames (before after : Naming) : Type 0 where
  pub before_short : length_in before < 4294967296
  pub after_short : length_in after < 4294967296

module _ (old new : List ℕ) (old-bytes : (i : ℕ) → get_or old i 0 < 256) (new-bytes : (i : ℕ) → get_or new i 0 < 256) where
  both_short : (id : ℕ) (a b : Naming) (x : Option ℕ) → changed id a b ≡ change_at old new x → ShortNames a b
  both_short id a b (some k) e =
      let p : a ≡ naming old k = cc in
      let q : b ≡ naming new k = cc in
      record { before_short = rw p (naming_small old k old-bytes); after_short = rw q (naming_small new k new-bytes) }
  both_short id a b none e = let z : ◌≡◌ {A = ℕ} 0 1 = cc in absurd (omega arith)

  pub change_short : (from id : ℕ) (a b : Naming) → changed id a b ≡ next_change old new from → ShortNames a b
  change_short from id a b e = both_short id a b (first_change old new from) e

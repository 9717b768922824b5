-- The offsets of entries rise, also of those of one table. Assumes nothing.
use mathlib.Core.Bool.{Bool, true, false, cond}
use mathlib.Core.List.{List, [], ◌∷◌, map}
use Prim.Native.Nat.{ℕ, suc, ◌+◌}
use native.Mathlib.Omega.{arith}
use Rattle.image.specs.Bytes.{filter}
use Rattle.image.specs.Image.{Entry, Placed, head_size, entry_size, placed, in_table, of_table, bucket_of}
use Rattle.canonical.specs.Steps.HiddenBuckets.{Rising}
use Rattle.canonical.proofs.Sums.{rising_less}
use Rattle.canonical.proofs.BackArray.{offsets}
use Rattle.canonical.proofs.FilledTable.{bucket_offsets}

rises : (o : ℕ) (es : List Entry) → Rising o (offsets (placed o es))
unfolding placed
rises o [] = tt
rises o (e ∷ es) = (omega arith, rising_less (suc o) (o + entry_size e) (offsets (placed (o + entry_size e) es)) (omega arith) (rises (o + entry_size e) es))

rises_keep : (test : Placed → Bool) (a : ℕ) (ps : List Placed) → Rising a (offsets ps) → Rising a (bucket_offsets (map bucket_of (filter test ps)))
unfolding filter
rises_keep test a [] r = tt
rises_keep test a (p ∷ ps) r = either_rises (test p) (rises_keep test (suc p.at) ps r.1)
  where
    either_rises : (t : Bool) → Rising (suc p.at) (bucket_offsets (map bucket_of (filter test ps)))
        → Rising a (bucket_offsets (map bucket_of (cond t (p ∷ filter test ps) (filter test ps))))
    either_rises true rest = (r.0, rest)
    either_rises false rest = let h = r.0 in rising_less a (suc p.at) (bucket_offsets (map bucket_of (filter test ps))) (omega arith) rest

-- from the end of the head on
pub all_rise : (es : List Entry) → Rising 1 (offsets (placed head_size es))
all_rise es = rising_less 1 head_size (offsets (placed head_size es)) (omega arith) (rises head_size es)

pub table_rises : (es : List Entry) (t : ℕ) → Rising 1 (bucket_offsets (map bucket_of (of_table t (placed head_size es))))
unfolding of_table
table_rises es t = rises_keep (in_table t) 1 (placed head_size es) (all_rise es)

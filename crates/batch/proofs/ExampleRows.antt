-- The worked examples hold, computed by the checker; the lookup of A is 01's row. Assumes nothing.
use Prim.Native.Nat.{◌+◌}
use mathlib.Core.Path.{◌≡◌, refl, ap}
use mathlib.Core.List.{[], ◌∷◌, ◌++◌}
use Rattle.jhash.specs.Outcome.{value}
use Rattle.image.specs.Bytes.{same, cat}
use Rattle.reader.specs.Lookup.{Lookup, found, lookup}
use Rattle.reader.specs.Naming.{naming}
use Rattle.reader.specs.Cases.{reads}
use Rattle.reader.specs.Examples.Reads.{own_image}
use Rattle.reader.proofs.ExampleReads.{reads_hold}
use Rattle.batch.specs.RoundNames.{names_from, names, invalid_ends, among, different_from, different}
use Rattle.batch.specs.Round.{answer_words, round_words, buckets_read, round_outcome, after_round}
use Rattle.batch.specs.NameRound.{name_words, name_refusal, after_names}
use Rattle.batch.specs.Examples.Rows.{TwiceOnce, RowsHold}

found_A : lookup own_image (65 ∷ []) ≡ found (record { id = 5; buckets = 1; offset = 2072 })
found_A = reads_hold.looked_up.1.0

twice : TwiceOnce
unfolding round_outcome after_round names names_from invalid_ends different different_from among same buckets_read round_words cat
twice =
    record {
      gives = ap (λ (x : Lookup). value (reads x + 0)) found_A;
      leaves = ap (λ (x : Lookup). answer_words x ++ (answer_words x ++ []) ++ 9 ∷ []) found_A;
    }

-- every row holds
pub rows_hold : RowsHold
unfolding round_outcome after_round names names_from invalid_ends different different_from among same buckets_read round_words cat lookup
    name_words name_refusal
    after_names naming
rows_hold = record { gives = refl; leaves = refl; names_give = refl; names_leave = refl; twice = twice }

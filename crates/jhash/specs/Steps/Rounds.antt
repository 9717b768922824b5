-- Mixing and finishing as the code computes them: one round, or one step, on words that change their names each time.
-- `proofs/Mixing.antt` proves that six such rounds are lookup3's `mix` and seven such steps its `final`.
-- Assumes nothing.
use Rattle.std.specs.Prelude.{ℕ}
use Rattle.jhash.specs.Lookup3.{add32, mixed, final_word}
use Rattle.jhash.specs.declared.Words.{Words}

-- A round on (a, c, b). What is b, c, a here is a, b, c in the next round: so rounds in a row are those on (a, c, b),
-- (b, a, c) and (c, b, a), and after three of them each word has its name again.
unfoldable pub mix_round : Words → ℕ → Words
mix_round w k = record { a = w.b; b = add32 w.c w.b; c = mixed w.a w.c k }

-- A step on (c, b), with the same change of names: steps in a row are those on (c, b), (a, c) and (b, a).
unfoldable pub final_step : Words → ℕ → Words
final_step w k = record { a = w.b; b = final_word w.c w.b k; c = w.a }

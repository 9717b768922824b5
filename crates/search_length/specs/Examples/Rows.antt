-- Worked examples of 02 (x): some bytes, and what the call gives for them.
use Rattle.std.specs.Prelude.{ℕ, ◌≡◌, List, [], ◌∷◌}
use Rattle.jhash.specs.Outcome.{Outcome, value, refusal}
use Rattle.image.specs.declared.Mode.TheVariants.{Twoway, Oneway}
use Rattle.image.specs.Image.{Entry, image}
use Rattle.search_length.specs.Average.{averaging}
use Rattle.search_length.specs.declared.AverageLength.{AverageLength}

pub record AverageRow : Type 0 where
  pub bytes : List ℕ
  pub answer : Outcome AverageLength

abbrev pub Averages : AverageRow → Type 0
Averages r = averaging r.bytes ≡ r.answer

abbrev row : List ℕ → Outcome AverageLength → AverageRow
row bytes answer = record { bytes = bytes; answer = answer }

-- a name of one letter, under an id
abbrev pub letter : ℕ → ℕ → Entry
letter c id = record { name = c ∷ []; id = id }

abbrev average_from : ℕ → ℕ → ℕ → Outcome AverageLength
average_from n q r = value (record { entries = n; quotient = q; remainder = r })

abbrev pub average_rows : List AverageRow
average_rows =
    -- I and Q share a table and the first bucket of their searches: 1 and 2 buckets
    row (image Twoway (letter 73 0 ∷ letter 81 1 ∷ [])) (average_from 2 1 1)
    -- A put twice: both lookups find the first
    ∷ row (image Oneway (letter 65 5 ∷ letter 65 9 ∷ [])) (average_from 2 1 0)
    -- without entries
    ∷ row (image Twoway []) (refusal 18)
    -- no byte at all: no entry either, but 17 comes first
    ∷ row [] (refusal 17)
    ∷ []

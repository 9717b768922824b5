-- Worked examples: some bytes, and what the call gives for them.
use Rattle.std.specs.Prelude.{ℕ, ◌≡◌, List, [], ◌∷◌}
use Rattle.std.proofs.Math.Option.{Option, none, some}
use Rattle.jhash.specs.Outcome.{value, refusal}
use Rattle.image.specs.declared.Mode.{Mode}
use Rattle.image.specs.declared.Mode.TheVariants.{Twoway, Oneway}
use Rattle.image.specs.Image.{Entry, image}
use Rattle.one_to_one.specs.OneToOne.{Failure, one_to_one}

-- puts, in one direction, and the answer for their image
pub record OneToOneRow : Type 0 where
  pub mode : Mode
  pub puts : List Entry
  pub answer : Option Failure

abbrev pub RowAnswered : OneToOneRow → Type 0
RowAnswered r = one_to_one (image r.mode r.puts) ≡ value r.answer

abbrev row : Mode → List Entry → Option Failure → OneToOneRow
row mode puts answer = record { mode = mode; puts = puts; answer = answer }

abbrev pub fails : ℕ → ℕ → Option Failure
fails kind offset = some (record { kind = kind; offset = offset })

abbrev pub A : ℕ → Entry
A id = record { name = 65 ∷ []; id = id }

abbrev pub B : ℕ → Entry
B id = record { name = 66 ∷ []; id = id }

abbrev crane : ℕ → Entry
crane id = record { name = 99 ∷ 114 ∷ 97 ∷ 110 ∷ 101 ∷ []; id = id }

abbrev mole : ℕ → Entry
mole id = record { name = 109 ∷ 111 ∷ 108 ∷ 101 ∷ []; id = id }

abbrev pub one_to_one_rows : List OneToOneRow
one_to_one_rows =
    -- without entries
    row Twoway [] none
    -- two names and two ids; one put made twice
    ∷ row Twoway (crane 0 ∷ mole 1 ∷ []) none
    ∷ row Twoway (A 5 ∷ A 5 ∷ []) none
    -- crane finds 0, but id 0 gives mole, whose put came last; one-way no id gives a name
    ∷ row Twoway (crane 0 ∷ mole 0 ∷ []) (fails 2 2072)
    ∷ row Oneway (crane 0 ∷ mole 0 ∷ []) none
    -- the second A finds 5, the id of the first
    ∷ row Twoway (A 5 ∷ A 9 ∷ []) (fails 1 2082)
    ∷ row Oneway (A 5 ∷ A 9 ∷ []) (fails 1 2082)
    -- of the second entry both fail: A finds 5, and id 9 gives B. The first kind is said
    ∷ row Twoway (A 5 ∷ A 9 ∷ B 9 ∷ []) (fails 1 2082)
    -- B finds 9, but id 9 gives A. It comes before the third entry, whose A finds 5
    ∷ row Twoway (A 5 ∷ B 9 ∷ A 9 ∷ []) (fails 2 2082)
    ∷ []

-- no byte at all is no image
abbrev pub NoBytes : Type 0
NoBytes = one_to_one [] ≡ refusal 17

-- Worked examples of 02 (vii).
use Rattle.std.specs.Prelude.{ℕ, ◌/◌, ◌≡◌, List, [], ◌∷◌, map, length, replicate}
use Rattle.jhash.specs.Outcome.{Outcome, value, refusal}
use Rattle.reader.specs.Examples.Reads.{own_image}
use Rattle.batch.specs.Round.{round_outcome, after_round}
use Rattle.batch.specs.NameRound.{name_refusal, after_names}

-- names and their ends, an answer list, what a round on no image gives, and the answer list afterwards
pub record RoundRow : Type 0 where
  pub bytes : List ℕ
  pub ends : List ℕ
  pub answers : List ℕ
  pub gives : Outcome ℕ
  pub leaves : List ℕ

abbrev row : List ℕ → List ℕ → List ℕ → Outcome ℕ → List ℕ → RoundRow
row bytes ends answers gives leaves =
    record { bytes = bytes; ends = ends; answers = answers; gives = gives; leaves = leaves }

abbrev nines : ℕ → List ℕ
nines n = replicate n 9

abbrev pub round_rows : List RoundRow
round_rows =
    -- no names
    row [] [] (nines 2) (value 0) (nines 2)
    -- the empty name twice; the ninth word belongs to no answer
    ∷ row [] (0 ∷ 0 ∷ []) (nines 9) (value 0) (0 ∷ 0 ∷ 0 ∷ 0 ∷ 0 ∷ 0 ∷ 0 ∷ 0 ∷ 9 ∷ [])
    -- A, then an end that falls; an end that passes the bytes by one; one exactly at their end
    ∷ row (65 ∷ []) (1 ∷ 0 ∷ []) (nines 8) (refusal 14) (nines 8)
    ∷ row (65 ∷ []) (2 ∷ []) (nines 4) (refusal 14) (nines 4)
    ∷ row (65 ∷ []) (1 ∷ []) (nines 4) (value 0) (0 ∷ 0 ∷ 0 ∷ 0 ∷ [])
    -- three words are no place
    ∷ row (65 ∷ []) (1 ∷ []) (nines 3) (refusal 15) (nines 3)
    -- 513 names with too few places: 14 comes first
    ∷ row [] (replicate 513 0) (nines 1) (refusal 14) (nines 1)
    ∷ []

-- ids, an answer list, what naming them on no image gives, and the answer list afterwards
pub record NameRow : Type 0 where
  pub ids : List ℕ
  pub answers : List ℕ
  pub gives : ℕ
  pub leaves : List ℕ

abbrev pub naming_rows : List NameRow
naming_rows =
    record { ids = []; answers = []; gives = 0; leaves = [] }
    ∷ record { ids = 7 ∷ []; answers = nines 5; gives = 0; leaves = 0 ∷ 0 ∷ 0 ∷ 0 ∷ 9 ∷ [] }
    ∷ record { ids = 7 ∷ []; answers = nines 3; gives = 15; leaves = nines 3 }
    ∷ record { ids = replicate 513 7; answers = nines 3; gives = 14; leaves = nines 3 }
    ∷ []

-- A twice on an image that holds A under 5 in a table of one bucket: both places have the answer, and its bucket counts
-- once
pub record TwiceOnce : Type 0 where
  pub gives : round_outcome own_image (65 ∷ 65 ∷ []) (1 ∷ 2 ∷ []) 2 ≡ value 1
  pub leaves : after_round own_image (65 ∷ 65 ∷ []) (1 ∷ 2 ∷ []) (nines 9) ≡ 1 ∷ 5 ∷ 1 ∷ 2072 ∷ 1
      ∷ 5 ∷ 1 ∷ 2072 ∷ 9 ∷ []

-- what the rows say
pub record RowsHold : Type 0 where
  pub gives : map (λ (r : RoundRow). round_outcome [] r.bytes r.ends (length r.answers / 4)) round_rows
      ≡ map (λ (r : RoundRow). r.gives) round_rows
  pub leaves : map (λ (r : RoundRow). after_round [] r.bytes r.ends r.answers) round_rows
      ≡ map (λ (r : RoundRow). r.leaves) round_rows
  pub names_give : map (λ (r : NameRow). name_refusal r.ids (length r.answers / 4)) naming_rows
      ≡ map (λ (r : NameRow). r.gives) naming_rows
  pub names_leave : map (λ (r : NameRow). after_names [] r.ids r.answers) naming_rows
      ≡ map (λ (r : NameRow). r.leaves) naming_rows
  pub twice : TwiceOnce

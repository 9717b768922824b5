-- The exported reading calls but the lookup: each rule's answer as numbers. Assumes nothing.
use Rattle.std.specs.Prelude.{ℕ, Bool, cond, List}
use Rattle.jhash.specs.Outcome.{Outcome, value, refusal}
use Rattle.reader.specs.Open.{opening}
use Rattle.reader.specs.Naming.{Naming, place, unnamed}
use Rattle.cqdb_c.specs.declared.opening.OpenAnswer.{OpenAnswer}
use Rattle.cqdb_c.specs.declared.naming.PlaceAnswer.{PlaceAnswer}

-- an opened image is accepted, 0, and its num stands beside it; a refusal has its number, and 0 for num
abbrev pub open_answer_of : Outcome ℕ → OpenAnswer
open_answer_of (value n) = record { refusal = 0; num = n }
open_answer_of (refusal k) = record { refusal = k; num = 0 }

-- the rule of opening, so answered
abbrev pub open_answer : List ℕ → OpenAnswer
open_answer image = open_answer_of (opening image)

-- 1 and the place of the name, or three zeros
abbrev pub place_answer_of : Naming → PlaceAnswer
place_answer_of (place s n) = record { found = 1; len = n; start = s }
place_answer_of unnamed = record { found = 0; len = 0; start = 0 }

-- 1 for yes, 0 for no
abbrev pub one_if : Bool → ℕ
one_if b = cond b 1 0

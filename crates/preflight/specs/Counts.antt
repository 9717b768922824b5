-- How much a yes is about.
use Rattle.std.specs.Prelude.{ℕ, ◌+◌, Bool, true, false, not, List}
use Rattle.std.proofs.Math.Option.{Option, none, some}
use Rattle.jhash.specs.Outcome.{Outcome, value, refusal}
use Rattle.sheet.specs.Format.{Lists}
use Rattle.preflight.specs.Ids.{occurs, passing}
use Rattle.preflight.specs.Names.{Names}

-- is there a name?
abbrev pub is_given : Option (List ℕ) → Bool
is_given (some name) = true
is_given none = false

abbrev pub names : Names → ℕ → Bool
names old id = is_given (old id)

abbrev pub names_not : Names → ℕ → Bool
names_not old id = not (names old id)

-- "how many ids of the round were compared with `old`", and "how many `old` does not name"
abbrev pub compared_in : Names → List ℕ → ℕ
compared_in old round = passing (names old) round

abbrev pub added_in : Names → List ℕ → ℕ
added_in old round = passing (names_not old) round

-- "how many references and walls of the sheet were not sighted"
abbrev pub absent : List ℕ → ℕ → Bool
absent round id = not (occurs id round)

abbrev pub unsighted_in : Outcome Lists → List ℕ → ℕ
unsighted_in (value l) round = passing (absent round) l.references + passing (absent round) l.walls
unsighted_in (refusal k) round = 0

-- The questions in their order; the first that fails is the verdict. Those of a first report come first: 1, the new
-- image is canonical and two-way; 2, the sheet reads; 3, each id of the round is on it; 4, the round has an id; 5, each
-- has a name; 6, no two have one name. Then those of a comparison: 7, the old image is canonical and two-way; 8, both
-- name some id alike; 9, no id of the round is renamed; 10, no id of the round has the name that another id has lost.
use Rattle.std.specs.Prelude.{ℕ, Bool, true, false, cond, List, eqb, length}
use Rattle.image.specs.Bytes.{word}
use Rattle.reader.specs.Naming.{name_given}
use Rattle.reader.specs.IdWalk.{upper_hint}
use Rattle.canonical.specs.Canonical.{canonical}
use Rattle.sheet.specs.SheetReading.{read_lists}
use Rattle.preflight.specs.Names.{Names, first_nameless, first_renamed}
use Rattle.preflight.specs.OnSheet.{of_sheet}
use Rattle.preflight.specs.Exchanges.{first_shared_in, some_kept, first_taken}
use Rattle.preflight.specs.Answers.Place.{Place}
use Rattle.preflight.specs.Answers.Place as place
use Rattle.preflight.specs.Answers.Shared.{Shared}
use Rattle.preflight.specs.Answers.Shared as shared
use Rattle.preflight.specs.Answers.Taken.{Taken}
use Rattle.preflight.specs.Answers.Taken as taken
use Rattle.preflight.specs.Answers.Verdict.{Verdict}
use Rattle.preflight.specs.Answers.Verdict.{Yes, NewRefused, SheetRefused, OffSheet, EmptyRound}
use Rattle.preflight.specs.Answers.Verdict.{Nameless, OneName, OldRefused, NothingAlike, Renamed}
use Rattle.preflight.specs.Answers.Verdict.{NameTaken}

-- 1, 7: "canonical and two-way": its flag word is 0
abbrev pub is_whole : List ℕ → Bool
is_whole image = cond (canonical image) (eqb (word image 8) 0) false

abbrev pub is_yes : Verdict → Bool
is_yes Yes = true
is_yes NewRefused = false
is_yes (SheetRefused k) = false
is_yes (OffSheet p) = false
is_yes EmptyRound = false
is_yes (Nameless p) = false
is_yes (OneName p q) = false
is_yes OldRefused = false
is_yes NothingAlike = false
is_yes (Renamed p) = false
is_yes (NameTaken id p) = false

-- a verdict, unless it is yes; then another
abbrev pub and_then : Verdict → Verdict → Verdict
and_then a b = cond (is_yes a) b a

-- the verdict on each question
abbrev pub of_nameless : Place → Verdict
of_nameless (place.At p) = Nameless p
of_nameless place.Nothing = Yes

abbrev pub of_shared : Shared → Verdict
of_shared (shared.Places p q) = OneName p q
of_shared shared.Nothing = Yes

abbrev pub of_renamed : Place → Verdict
of_renamed (place.At p) = Renamed p
of_renamed place.Nothing = Yes

abbrev pub of_taken : Taken → Verdict
of_taken (taken.By id p) = NameTaken id p
of_taken taken.Nothing = Yes

-- 4, 5, 6: "the round has an id"; names in `new`
unfoldable pub of_round : Names → List ℕ → Verdict
of_round new round =
    cond (eqb (length round) 0) EmptyRound
    (and_then (of_nameless (first_nameless new round)) (of_shared (first_shared_in new round)))

-- 8, 9, 10: what changed; `old` names no id of number n or above
abbrev pub of_names : Names → Names → ℕ → List ℕ → List ℕ → Verdict
of_names old new n round accepted =
    cond (some_kept old new 0 n)
    (and_then (of_renamed (first_renamed old new accepted round)) (of_taken (first_taken old new round 0 n)))
    NothingAlike

-- 7 to 10
unfoldable pub of_changes : List ℕ → List ℕ → List ℕ → List ℕ → Verdict
of_changes old new round accepted =
    cond (is_whole old) (of_names (name_given old) (name_given new) (upper_hint old 0) round accepted) OldRefused

-- 1 to 6: a first report, with nothing to compare
unfoldable pub verdict_first : List ℕ → List ℕ → List ℕ → Verdict
verdict_first new sheet round =
    cond (is_whole new) (and_then (of_sheet (read_lists sheet) round) (of_round (name_given new) round)) NewRefused

-- 1 to 10
unfoldable pub verdict : List ℕ → List ℕ → List ℕ → List ℕ → List ℕ → Verdict
verdict old new sheet round accepted =
    and_then (verdict_first new sheet round) (of_changes old new round accepted)

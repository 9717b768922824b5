-- Worked examples: two catalogues, a sheet and a round, and the answer.
use Rattle.std.specs.Prelude.{ℕ, ◌≡◌, List, [], ◌∷◌, ◌++◌, replicate}
use Rattle.image.specs.Image.{Entry, head_bytes, image}
use Rattle.image.specs.declared.Mode.TheVariants.{Twoway, Oneway}
use Rattle.writer.specs.Put.{entry_of}
use Rattle.sheet.specs.Format.{sheet_bytes}
use Rattle.preflight.specs.Preflight.{preflight, preflight_first}
use Rattle.preflight.specs.Answers.Answer.{Answer}
use Rattle.preflight.specs.Answers.Verdict.{Verdict}
use Rattle.preflight.specs.Answers.Verdict.{Yes, NewRefused, SheetRefused, OffSheet, EmptyRound}
use Rattle.preflight.specs.Answers.Verdict.{Nameless, OneName, OldRefused, NothingAlike, Renamed}
use Rattle.preflight.specs.Answers.Verdict.{NameTaken}

-- the puts of the old and the new catalogue
pub record PreflightRow : Type 0 where
  pub old : List Entry
  pub new : List Entry
  pub sheet : List ℕ
  pub round : List ℕ
  pub accepted : List ℕ
  pub answer : Answer

abbrev pub RowAnswered : PreflightRow → Type 0
RowAnswered r =
    preflight (image Twoway r.old) (image Twoway r.new) r.sheet r.round r.accepted ≡ r.answer

-- yes, with its counts: compared, added, not sighted; and a no, which has none
abbrev pub yes : ℕ → ℕ → ℕ → Answer
yes compared added unsighted =
    record { verdict = Yes; compared = compared; added = added; unsighted = unsighted }

abbrev pub no : Verdict → Answer
no v = record { verdict = v; compared = 0; added = 0; unsighted = 0 }

-- the names A, B, C, D, and the empty one
abbrev pub A : ℕ → Entry
A id = entry_of (65 ∷ []) id

abbrev pub B : ℕ → Entry
B id = entry_of (66 ∷ []) id

abbrev C : ℕ → Entry
C id = entry_of (67 ∷ []) id

abbrev D : ℕ → Entry
D id = entry_of (68 ∷ []) id

abbrev no_name : ℕ → Entry
no_name id = entry_of [] id

-- the reference 1, the wall prisms 2 and 3, and 9, which is retired
abbrev pub listed : List ℕ
listed = sheet_bytes (record { references = 1 ∷ []; walls = 2 ∷ 3 ∷ []; retired = 9 ∷ [] })

abbrev row : List Entry → List Entry → List ℕ → List ℕ → Answer → PreflightRow
row old new round accepted answer =
    record { old = old; new = new; sheet = listed; round = round; accepted = accepted; answer = answer }

-- both catalogues name 8 alike, which is not sighted
abbrev beside8 : List Entry → List Entry → List ℕ → List ℕ → Answer → PreflightRow
beside8 old new round accepted answer = row (no_name 8 ∷ old) (no_name 8 ∷ new) round accepted answer

abbrev pub changed_rows : List PreflightRow
changed_rows =
    -- a rename; the same one accepted; of an id that is not sighted, to a name that is not sighted
    row (A 1 ∷ B 2 ∷ []) (A 1 ∷ D 2 ∷ []) (1 ∷ 2 ∷ []) [] (no (Renamed 1))
    ∷ row (A 1 ∷ B 2 ∷ []) (A 1 ∷ D 2 ∷ []) (1 ∷ 2 ∷ []) (2 ∷ []) (yes 2 0 1)
    ∷ row (A 1 ∷ B 2 ∷ []) (A 1 ∷ D 2 ∷ []) (1 ∷ []) [] (yes 1 0 2)
    -- renewed: the new catalogue lists A under both ids
    ∷ beside8 (A 7 ∷ []) (A 7 ∷ A 2 ∷ []) (2 ∷ []) [] (yes 0 1 2)
    -- 7 is retired under its id and keeps its name; so is it, and its name is used again
    ∷ row (A 7 ∷ B 2 ∷ []) (A 7 ∷ B 2 ∷ []) (2 ∷ []) [] (yes 1 0 2)
    ∷ beside8 (A 7 ∷ []) (A 2 ∷ []) (2 ∷ []) [] (no (NameTaken 7 0))
    -- nothing changed, and an id is sighted in two faces; a round of new prisms alone
    ∷ row (A 1 ∷ B 2 ∷ []) (A 1 ∷ B 2 ∷ []) (1 ∷ 2 ∷ 1 ∷ []) [] (yes 3 0 1)
    ∷ row (A 1 ∷ []) (A 1 ∷ B 2 ∷ C 3 ∷ []) (2 ∷ 3 ∷ []) [] (yes 0 2 1)
    ∷ []

abbrev pub exchanged_rows : List PreflightRow
exchanged_rows =
    -- a swap: both sighted; one sighted; both sighted, and accepted as renames
    beside8 (A 1 ∷ B 2 ∷ []) (B 1 ∷ A 2 ∷ []) (1 ∷ 2 ∷ []) [] (no (Renamed 0))
    ∷ beside8 (A 1 ∷ B 2 ∷ []) (B 1 ∷ A 2 ∷ []) (2 ∷ []) [] (no (Renamed 0))
    ∷ beside8 (A 1 ∷ B 2 ∷ []) (B 1 ∷ A 2 ∷ []) (1 ∷ 2 ∷ []) (1 ∷ 2 ∷ []) (no (NameTaken 1 1))
    -- a cyclic exchange of three; accepted, where 2 alone is sighted, under the name that 3 had
    ∷ beside8 (A 1 ∷ B 2 ∷ C 3 ∷ []) (B 1 ∷ C 2 ∷ A 3 ∷ []) (1 ∷ 2 ∷ 3 ∷ []) [] (no (Renamed 0))
    ∷ beside8 (A 1 ∷ B 2 ∷ C 3 ∷ []) (B 1 ∷ C 2 ∷ A 3 ∷ []) (2 ∷ []) (2 ∷ []) (no (NameTaken 3 0))
    -- the name of an id that is not sighted, moved to one that had none
    ∷ beside8 (A 7 ∷ []) (B 7 ∷ A 2 ∷ []) (2 ∷ []) [] (no (NameTaken 7 0))
    -- a catalogue of another harbour; one that names nothing
    ∷ row (C 4 ∷ D 5 ∷ []) (A 1 ∷ B 2 ∷ []) (1 ∷ 2 ∷ []) [] (no NothingAlike)
    ∷ row [] (A 1 ∷ B 2 ∷ []) (1 ∷ 2 ∷ []) [] (no NothingAlike)
    ∷ []

abbrev on_sheet : List ℕ → List ℕ → Verdict → PreflightRow
on_sheet sheet round v =
    record {
      old = A 1 ∷ B 2 ∷ [];
      new = A 1 ∷ B 2 ∷ [];
      sheet = sheet;
      round = round;
      accepted = [];
      answer = no v;
    }

abbrev pub round_rows : List PreflightRow
round_rows =
    -- two ids under one name; no name; the empty one; no round
    row [] (A 1 ∷ A 2 ∷ []) (1 ∷ 2 ∷ []) [] (no (OneName 0 1))
    ∷ row [] (A 1 ∷ []) (1 ∷ 2 ∷ []) [] (no (Nameless 1))
    ∷ row [] (A 1 ∷ no_name 2 ∷ []) (1 ∷ 2 ∷ []) [] (no (Nameless 1))
    ∷ on_sheet listed [] EmptyRound
    -- an id that is not on the sheet, without a name; a retired one
    ∷ on_sheet listed (1 ∷ 4 ∷ []) (OffSheet 1)
    ∷ on_sheet listed (9 ∷ []) (OffSheet 0)
    ∷ []

abbrev pub sheet_rows : List PreflightRow
sheet_rows =
    -- a sheet without ids; no sheet; one byte too many
    on_sheet (sheet_bytes (record { references = []; walls = []; retired = [] })) (1 ∷ []) (OffSheet 0)
    ∷ on_sheet [] (1 ∷ []) (SheetRefused 19)
    ∷ on_sheet (0 ∷ 0 ∷ 0 ∷ 0 ∷ 0 ∷ 0 ∷ 0 ∷ []) (1 ∷ []) (SheetRefused 20)
    -- on the sheet twice: as a reference and a wall prism; as a wall prism and retired
    ∷ on_sheet (sheet_bytes (record { references = 1 ∷ []; walls = 1 ∷ []; retired = [] })) (1 ∷ []) (OffSheet 0)
    ∷ on_sheet (sheet_bytes (record { references = []; walls = 1 ∷ []; retired = 1 ∷ [] })) (1 ∷ []) (OffSheet 0)
    ∷ []

-- images that are no catalogue: a head with a damaged back offset, a one-way image, no bytes at all
abbrev pub this_week : List ℕ
this_week = image Twoway (A 1 ∷ B 2 ∷ [])

abbrev pub damaged : List ℕ
damaged = head_bytes 2072 0 0 2072 ++ replicate 2048 0

abbrev pub one_way : List ℕ
one_way = image Oneway (A 1 ∷ B 2 ∷ [])

abbrev pub no_catalogues : List (List ℕ)
no_catalogues = damaged ∷ one_way ∷ [] ∷ []

-- as the image of the last report, which makes no first report of it; and as the image of this one
abbrev pub RefusedAsOld : List ℕ → Type 0
RefusedAsOld old = preflight old this_week listed (1 ∷ 2 ∷ []) [] ≡ no OldRefused

abbrev pub RefusedAsNew : List ℕ → Type 0
RefusedAsNew new = preflight_first new listed (1 ∷ 2 ∷ []) ≡ no NewRefused

-- a first report with a whole image leaves
abbrev pub FirstLeaves : Type 0
FirstLeaves = preflight_first this_week listed (1 ∷ 2 ∷ []) ≡ yes 0 0 1

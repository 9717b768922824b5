-- What each verdict says (`verdict_says` in proofs/Says): the questions before it hold, and it fails, as the ids and
-- the places in the round show.
use Rattle.std.specs.Prelude.{ℕ, ◌≡◌, List, [], ◌++◌}
use Rattle.std.proofs.Math.Option.{some}
use Rattle.std.proofs.Math.ListN.{get_elem?}
use Rattle.jhash.specs.Outcome.{value, refusal}
use Rattle.reader.specs.Naming.{name_given}
use Rattle.sheet.specs.Format.{Lists}
use Rattle.sheet.specs.SheetReading.{read_lists}
use Rattle.preflight.specs.Ids.{count}
use Rattle.preflight.specs.Verdicts.{verdict}
use Rattle.preflight.specs.Answers.Verdict.{Verdict}
use Rattle.preflight.specs.Answers.Verdict.{Yes, NewRefused, SheetRefused, OffSheet, EmptyRound}
use Rattle.preflight.specs.Answers.Verdict.{Nameless, OneName, OldRefused, NothingAlike, Renamed}
use Rattle.preflight.specs.Answers.Verdict.{NameTaken}
use Rattle.preflight.specs.Theorems.Asked.{In, Whole, OnSheet, EachNamed, SomeAlike, NotRenamed}
use Rattle.preflight.specs.Theorems.Asked.{MayLeaveFirst, MayLeave}

-- 3: the id at place p is not on the sheet once, or it is retired
pub record ShowsOff (sheet round : List ℕ) (p : ℕ) : Type 0 where
  pub lists : Lists
  pub reads : read_lists sheet ≡ value lists
  pub id : ℕ
  pub there : get_elem? round p ≡ some id
  pub off : (count id (lists.references ++ lists.walls ++ lists.retired) ≡ 1) → ¬ In id lists.retired → ⊥

-- 5: the id at place p has no name but the empty one
pub record ShowsNameless (new round : List ℕ) (p : ℕ) : Type 0 where
  pub id : ℕ
  pub there : get_elem? round p ≡ some id
  pub nameless : (name : List ℕ) → name_given new id ≡ some name → name ≡ []

-- 6: different ids at the places p and q have one name
pub record ShowsShared (new round : List ℕ) (p q : ℕ) : Type 0 where
  pub id : ℕ
  pub other : ℕ
  pub name : List ℕ
  pub there : get_elem? round p ≡ some id
  pub other_there : get_elem? round q ≡ some other
  pub different : ¬ (other ≡ id)
  pub has : name_given new id ≡ some name
  pub other_has : name_given new other ≡ some name

-- 9: the id at place p has lost its name, and is not accepted
pub record ShowsRenamed (old new round accepted : List ℕ) (p : ℕ) : Type 0 where
  pub id : ℕ
  pub name : List ℕ
  pub there : get_elem? round p ≡ some id
  pub unaccepted : ¬ In id accepted
  pub had : name_given old id ≡ some name
  pub lost : ¬ (name_given new id ≡ some name)

-- 10: the id j has lost its name, and the id at place p has it
pub record ShowsTaken (old new round : List ℕ) (j p : ℕ) : Type 0 where
  pub id : ℕ
  pub name : List ℕ
  pub there : get_elem? round p ≡ some id
  pub had : name_given old j ≡ some name
  pub lost : ¬ (name_given new j ≡ some name)
  pub taken : name_given new id ≡ some name

abbrev pub Says : List ℕ → List ℕ → List ℕ → List ℕ → List ℕ → Verdict → Type 0
Says old new sheet round accepted Yes = MayLeave old new sheet round accepted
Says old new sheet round accepted NewRefused = ¬ Whole new
Says old new sheet round accepted (SheetRefused k) = Whole new × (read_lists sheet ≡ refusal k)
Says old new sheet round accepted (OffSheet p) = Whole new × ShowsOff sheet round p
Says old new sheet round accepted EmptyRound = Whole new × OnSheet sheet round × (round ≡ [])
Says old new sheet round accepted (Nameless p) = Whole new × OnSheet sheet round × ShowsNameless new round p
Says old new sheet round accepted (OneName p q) =
    Whole new × OnSheet sheet round × EachNamed new round × ShowsShared new round p q
Says old new sheet round accepted OldRefused = MayLeaveFirst new sheet round × ¬ Whole old
Says old new sheet round accepted NothingAlike = MayLeaveFirst new sheet round × Whole old × ¬ SomeAlike old new
Says old new sheet round accepted (Renamed p) =
    MayLeaveFirst new sheet round × Whole old × SomeAlike old new × ShowsRenamed old new round accepted p
Says old new sheet round accepted (NameTaken j p) =
    MayLeaveFirst new sheet round × Whole old × SomeAlike old new × NotRenamed old new round accepted
    × ShowsTaken old new round j p

abbrev pub VerdictSays : Type 0
VerdictSays = (old new sheet round accepted : List ℕ)
    → Says old new sheet round accepted (verdict old new sheet round accepted)

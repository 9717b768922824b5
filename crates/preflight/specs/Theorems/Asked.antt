-- What each question asks, by names, canonical images and membership: no function of the code.
use Rattle.std.specs.Prelude.{ℕ, ◌+◌, ◌≤◌, ◌≡◌, ◌⊎◌, true, List, [], ◌∷◌, ◌++◌}
use Rattle.std.proofs.Math.Option.{some}
use Rattle.image.specs.declared.Mode.TheVariants.{Twoway}
use Rattle.reader.specs.Naming.{name_given}
use Rattle.canonical.specs.Canonical.{canonical, mode_in}
use Rattle.jhash.specs.Outcome.{value}
use Rattle.sheet.specs.Format.{Lists}
use Rattle.sheet.specs.SheetReading.{read_lists}
use Rattle.preflight.specs.Ids.{count}

-- the id is in the list
abbrev pub In : ℕ → List ℕ → Type 0
In id [] = ⊥
In id (x ∷ xs) = (x ≡ id) ⊎ In id xs

-- 1, 7
pub record Whole (image : List ℕ) : Type 0 where
  pub is_canonical : canonical image ≡ true
  pub two_way : mode_in image ≡ Twoway

-- 2, 3: the sheet reads, and each id of the round is on it once, as a reference or a wall prism
pub record OnSheet (sheet round : List ℕ) : Type 0 where
  pub lists : Lists
  pub reads : read_lists sheet ≡ value lists
  pub once : (i : ℕ) → In i round → count i (lists.references ++ lists.walls ++ lists.retired) ≡ 1
  pub in_use : (i : ℕ) → In i round → ¬ In i lists.retired

-- 5: each id of the round has a name that is not empty
abbrev pub EachNamed : List ℕ → List ℕ → Type 0
EachNamed new round = (i : ℕ) → In i round → (name : List ℕ) × (name_given new i ≡ some name) × ¬ (name ≡ [])

-- 4, 5, 6: the round has an id, each has a name, and no other id of the round has it
pub record RoundNamed (new round : List ℕ) : Type 0 where
  pub some_id : ¬ (round ≡ [])
  pub named : EachNamed new round
  pub one_name : (i k : ℕ) → In i round → In k round → name_given new i ≡ name_given new k → i ≡ k

-- 8: both name some id alike
pub record SomeAlike (old new : List ℕ) : Type 0 where
  pub id : ℕ
  pub name : List ℕ
  pub then : name_given old id ≡ some name
  pub since : name_given new id ≡ some name

-- 9: a sighted id that is no intended rename keeps its old name
abbrev pub NotRenamed : List ℕ → List ℕ → List ℕ → List ℕ → Type 0
NotRenamed old new round accepted = (i : ℕ) (name : List ℕ) → In i round → ¬ In i accepted
    → name_given old i ≡ some name → name_given new i ≡ some name

-- 10: an id keeps its old name where a sighted id has that name now
abbrev pub NotTaken : List ℕ → List ℕ → List ℕ → Type 0
NotTaken old new round = (i j : ℕ) (name : List ℕ) → In i round
    → name_given old j ≡ some name → name_given new i ≡ some name → name_given new j ≡ some name

-- 1 to 6
pub record MayLeaveFirst (new sheet round : List ℕ) : Type 0 where
  pub new_whole : Whole new
  pub on_sheet : OnSheet sheet round
  pub round_named : RoundNamed new round

-- 1 to 10
pub record MayLeave (old new sheet round accepted : List ℕ) : Type 0 where
  pub alone : MayLeaveFirst new sheet round
  pub old_whole : Whole old
  pub some_alike : SomeAlike old new
  pub not_renamed : NotRenamed old new round accepted
  pub not_taken : NotTaken old new round

-- the ids i and j have exchanged names
pub record Exchanged (old new : List ℕ) (i j : ℕ) : Type 0 where
  pub different : ¬ (name_given old i ≡ name_given old j)
  pub i_has : name_given new i ≡ name_given old j
  pub j_has : name_given new j ≡ name_given old i

-- names go round n ids, c 0, c 1 and so on, of which c n is c 0 again: each has now the name that the next one had
pub record Cycle (old new : List ℕ) (c : ℕ → ℕ) (n : ℕ) : Type 0 where
  pub some_ids : 1 ≤ n
  pub comes_round : (m : ℕ) → c (m + n) ≡ c m
  pub passed_on : (m : ℕ) → name_given new (c m) ≡ name_given old (c (m + 1))

-- each name of the image has one id
abbrev pub OneIdEach : List ℕ → Type 0
OneIdEach image = (i j : ℕ) (name : List ℕ) → name_given image i ≡ some name → name_given image j ≡ some name → i ≡ j

-- no id has this name
abbrev pub Fresh : List ℕ → List ℕ → Type 0
Fresh image name = (j : ℕ) → ¬ (name_given image j ≡ some name)

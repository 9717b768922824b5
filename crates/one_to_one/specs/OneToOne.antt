-- One to one: whether each name of an image has one id, and each id one name. An added call, by 02 (ix) and by 01's
-- lookup and naming.
use Rattle.std.specs.Prelude.{ℕ, ◌+◌, Bool, true, false, cond, not, List, [], ◌∷◌, eqb}
use Rattle.std.proofs.Math.Option.{Option, none, some}
use Rattle.jhash.specs.Outcome.{Outcome, value, refusal}
use Rattle.image.specs.Bytes.{same}
use Rattle.image.specs.Image.{Entry, head_size, entry_size}
use Rattle.image.specs.declared.Mode.{Mode}
use Rattle.image.specs.declared.Mode.TheVariants.{Twoway, Oneway}
use Rattle.reader.specs.Lookup.{lookup}
use Rattle.lookup_laws.specs.Answer.{found_id, name_given}
use Rattle.canonical.specs.Canonical.{canonical, puts_in, mode_in}
use Rattle.std.specs.Prelude as answer
use Rattle.one_to_one.specs.declared.Failure as code
use Rattle.one_to_one.specs.declared.Failure.TheVariants as failure
use Rattle.jhash.specs.declared.refusals.Refusal.{Refusal}
use Rattle.jhash.specs.Refusals as refused
use Rattle.jhash.specs.Refusals.{number_of}

-- is what was found this id, is what was given this name?
abbrev pub is_id : Option ℕ → ℕ → Bool
is_id (some i) id = eqb i id
is_id none id = false

abbrev pub is_name : Option (List ℕ) → List ℕ → Bool
is_name (some n) name = same n name
is_name none name = false

-- in a one-way image it is not asked what an id gives
abbrev pub asked : Mode → Bool → Bool
asked Twoway gives = gives
asked Oneway gives = true

-- which of the two fails first: kind 1, its name finds another id; kind 2, its id gives another name; 0, neither
abbrev pub kind_of : Bool → Bool → ℕ
kind_of finds gives = cond (not finds) 1 (cond (not gives) 2 0)

-- for an entry of an image: its name finds its id, and its id gives its name
unfoldable pub kind_in : List ℕ → Entry → ℕ
kind_in img e =
    kind_of (is_id (found_id (lookup img e.name)) e.id)
    (asked (mode_in img) (is_name (name_given img e.id) e.name))

-- the offset of the first entry, in put order, for which this fails, and which of the two fails first. The entries
-- stand one after the other from o on. None where it holds for every entry
pub record Failure : Type 0 where
  pub kind : ℕ
  pub offset : ℕ

unfoldable pub first_failure : (Entry → ℕ) → ℕ → List Entry → Option Failure
first_failure kind o [] = none
first_failure kind o (e ∷ es) =
    cond (eqb (kind e) 0) (first_failure kind (o + entry_size e) es) (some (record { kind = kind e; offset = o }))

unfoldable pub first_failure_in : List ℕ → Option Failure
first_failure_in img = first_failure (kind_in img) head_size (puts_in img)

-- the answer: refused with 17 where 02 (ix) says no; otherwise yes, or the first failure
unfoldable pub one_to_one : List ℕ → Outcome (Option Failure)
one_to_one img = cond (canonical img) (value (first_failure_in img)) (refusal refused.not_canonical)

-- what the code's answer says: how the first entry that fails does so, or that none does
abbrev pub failure_of : answer.Option code.Failure → Option Failure
failure_of (answer.Some (failure.OtherId o)) = some (record { kind = 1; offset = o })
failure_of (answer.Some (failure.OtherName o)) = some (record { kind = 2; offset = o })
failure_of answer.None = none

abbrev pub one_to_one_of : answer.Result (answer.Option code.Failure) Refusal → Outcome (Option Failure)
one_to_one_of (answer.Ok f) = value (failure_of f)
one_to_one_of (answer.Err r) = refusal (number_of r)

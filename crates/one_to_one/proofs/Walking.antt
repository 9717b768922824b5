-- The walk over the entries of a canonical image: what the two tests of an entry decide. Assumes nothing.
use Prim.Native.Nat.{ℕ, ◌+◌, ◌-◌}
use native.Mathlib.Omega.{arith}
use mathlib.Core.Path.{◌≡◌, refl, sym, ap, ap₂, ◌∙◌}
use mathlib.Core.Bool.{Bool, true, false}
use mathlib.Core.List.{List}
use mathlib.Core.Option.{none, some}
use Rattle.jhash.specs.Word.{AllBytes}
use Rattle.image.specs.Bytes.{word}
use Rattle.image.specs.Image.{Entry, head_size, entry_size}
use Rattle.image.specs.declared.Mode.{Mode}
use Rattle.image.specs.Steps.Contracts.{NameRead}
use Rattle.reader.specs.Lookup.{lookup}
use Rattle.lookup_laws.specs.Answer.{found_id, name_given}
use Rattle.canonical.specs.Canonical.{mode_in}
use Rattle.canonical.specs.Steps.Contracts.{CanonicalWithEntries}
use Rattle.canonical.proofs.EntriesAhead as ahead
use Rattle.canonical.proofs.EntriesAhead.{Ahead, Turn, ahead_starts, ahead_ends, ahead_next, length_is}
use Rattle.one_to_one.specs.OneToOne.{is_id, is_name, asked, kind_of, kind_in, first_failure, first_failure_in}
use Rattle.one_to_one.proofs.Failures.{failure, passes, ends}

-- the first failure among the entries ahead is the first of all
abbrev pub First : List ℕ → ℕ → List Entry → Type 0
First img at es = first_failure (kind_in img) at es ≡ first_failure_in img

pub walk_starts : {img : List ℕ} (n : ℕ) → AllBytes img → CanonicalWithEntries img n → Ahead (First img) img head_size n
unfolding first_failure_in
walk_starts n bytes c = ahead_starts n bytes c refl

pub walk_ends : {img : List ℕ} {at left : ℕ} → Ahead (First img) img at left → left ≡ 0 → none ≡ first_failure_in img
unfolding first_failure
walk_ends w z = ahead_ends w z

-- one turn: the length word, the name and the id of the entry, and whether the name finds the id
pub record Step (img : List ℕ) (at left len : ℕ) (name : List ℕ) (id : ℕ) (finds : Bool) : Type 0 where
  pub turn : Turn (First img) img at left
  pub len_is : len ≡ word img (at + 4)
  pub name_read : NameRead img at len name
  pub id_read : id ≡ word img at
  pub finds_is : finds ≡ is_id (found_id (lookup img name)) id

module _ {img : List ℕ} {at left len : ℕ} {name : List ℕ} {id : ℕ} {finds : Bool} (step : Step img at left len name id finds) where
  abbrev e : Entry
  e = step.turn.entry

  name_is : name ≡ e.name
  name_is = ahead.name_is step.turn step.len_is step.name_read

  id_is : id ≡ e.id
  id_is = ahead.id_is step.turn step.id_read

  finds_is : finds ≡ is_id (found_id (lookup img e.name)) e.id
  finds_is = step.finds_is ∙ ap₂ (λ (l : List ℕ) (i : ℕ). is_id (found_id (lookup img l)) i) name_is id_is

  fails : (k : ℕ) → kind_in img e ≡ k → ¬ (k ≡ 0) → some (failure k at) ≡ first_failure_in img
  fails k q n =
      sym (ends (kind_in img) at e step.turn.rest k q n) ∙ step.turn.holds

  -- its name finds another id
  pub other_id : finds ≡ false → some (failure 1 at) ≡ first_failure_in img
  unfolding kind_in
  other_id f = fails 1 (rw (sym finds_is ∙ f)) (λ z. omega arith)

  module _ (found : finds ≡ true) {mode : Mode} {gives : Bool} (mode_is : mode ≡ mode_in img)
      (gives_is : gives ≡ asked mode (is_name (name_given img id) name)) where
    kind_is : kind_in img e ≡ kind_of true gives
    unfolding kind_in
    kind_is =
        ap₂ kind_of (sym finds_is ∙ found)
        (sym (λ i. asked (mode_is i) (is_name (name_given img (id_is i)) (name_is i))) ∙ sym gives_is)

    -- its id gives another name
    pub other_name : gives ≡ false → some (failure 2 at) ≡ first_failure_in img
    other_name f = fails 2 (kind_is ∙ ap (kind_of true) f) (λ z. omega arith)

    -- both hold, and the walk goes on after it
    pub walk_on : gives ≡ true → Ahead (First img) img (at + (8 + len)) (left - 1)
    walk_on t =
        let next : at + entry_size e ≡ at + (8 + len) = omega (arith, length_is step.turn step.len_is) in
        ahead_next step.turn step.len_is
        (ap (λ (o : ℕ). first_failure (kind_in img) o step.turn.rest) (sym next)
        ∙ sym (passes (kind_in img) at e step.turn.rest (kind_is ∙ ap (kind_of true) t))
        ∙ step.turn.holds)

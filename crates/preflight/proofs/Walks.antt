-- The loops over the round and over the ids of an image: one turn, by what its call answers. Assumes nothing.
use Prim.Native.Nat.{ℕ, zero, suc, ◌+◌, ◌-◌, ◌≤◌, ◌<◌}
use native.Mathlib.Omega.{arith}
use native.Mathlib.Numerals.{add-one}
use mathlib.Core.Path.{◌≡◌, refl, sym, ap, ◌∙◌}
use mathlib.Core.Bool.{Bool, true, false, cond, ◌||◌}
use mathlib.Core.List.{List}
use lib.ListN.{length, get_or, drop, drop_of_length-le}
use lib.Seq.{drop-cons}
use Rattle.std.specs.List.{list_any, range_with_len}
use Rattle.reader.specs.Naming.{name_given}
use Rattle.reader.specs.IdWalk.{upper_hint}
use Rattle.preflight.specs.Names.{Names, kept, first_other}
use Rattle.preflight.specs.Exchanges.{shared_or, first_shared, some_kept, some_kept_in, taker_of, taken_or, first_taken, first_taken_in}
use Rattle.preflight.specs.Answers.Place.{Place}
use Rattle.preflight.specs.Answers.Shared as shared
use Rattle.preflight.specs.Answers.Taken as taken

-- ---- the round, from the place i on
module _ (new : Names) (round : List ℕ) (i : ℕ) where
  pub shared_end : length round ≤ i → first_shared new round i (drop i round) ≡ shared.Nothing
  unfolding first_shared
  shared_end h = simp (drop_of_length-le round h)

  pub shared_turn : (x : Place) → i < length round → x ≡ first_other new (new (get_or round i 0)) (get_or round i 0) round
      → shared_or i (first_shared new round (i + 1) (drop (i + 1) round)) x ≡ first_shared new round i (drop i round)
  unfolding first_shared
  shared_turn x h e =
      ap (λ (k : ℕ). shared_or i (first_shared new round k (drop k round)) x) (add-one i)
      ∙ ap (shared_or i (first_shared new round (suc i) (drop (suc i) round))) e
      ∙ sym (ap (first_shared new round i) (drop-cons round i 0 h))

-- ---- the ids below u, from `id` on
module _ (old new : Names) where
  -- by the library's own test
  pub any_of_range : (m id : ℕ) → list_any (kept old new) (range_with_len id m) ≡ some_kept old new id m
  unfolding some_kept
  any_of_range zero id = refl
  any_of_range (suc m) id =
      ap (λ (t : Bool). kept old new id || t) (any_of_range m (id + 1) ∙ ap (λ (k : ℕ). some_kept old new k m) refl) ∙ chosen (kept old new id) _
    where
      chosen : (t u : Bool) → (t || u) ≡ cond t true u
      chosen true u = refl
      chosen false u = refl

module _ (old new : Names) (round : List ℕ) (id u : ℕ) where
  pub taken_end : u ≤ id → first_taken old new round id (u - id) ≡ taken.Nothing
  unfolding first_taken
  taken_end h =
      let e : u - id ≡ 0 = omega arith in
      ap (first_taken old new round id) e

  pub taken_turn : (x : Place) → id < u → x ≡ taker_of old new round id
      → taken_or id (first_taken old new round (id + 1) (u - (id + 1))) x ≡ first_taken old new round id (u - id)
  unfolding first_taken
  taken_turn x h e =
      let k : u - id ≡ suc (u - (id + 1)) = omega arith in
      ap (taken_or id (first_taken old new round (id + 1) (u - (id + 1)))) e ∙ sym (ap (first_taken old new round id) k)

-- ---- the ids that an image may name
module _ (image : List ℕ) (i u : ℕ) (e : i ≡ 0) (f : u ≡ upper_hint image i) where
  all_ids : u - 0 ≡ upper_hint image 0
  all_ids =
      let k : u - 0 ≡ u = omega arith in
      k ∙ f ∙ ap (upper_hint image) e

  pub kept_hinted : (new : List ℕ) → some_kept (name_given image) (name_given new) 0 u ≡ some_kept_in image new
  kept_hinted new = ap (some_kept (name_given image) (name_given new) 0) (f ∙ ap (upper_hint image) e)

  pub taken_start : (new round : List ℕ) → first_taken (name_given image) (name_given new) round 0 (u - 0) ≡ first_taken_in image new round
  taken_start new round = ap (first_taken (name_given image) (name_given new) round 0) all_ids

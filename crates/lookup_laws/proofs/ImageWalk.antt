-- What follows from naming and lookup: the part that is a name, the steps of a walk, its upper hint, and home. Assumes nothing.
use mathlib.Core.Path.{◌≡◌, refl, sym, ap, ◌∙◌}
use mathlib.Core.Bool.{Bool, true, false, cond, ◌||◌}
use mathlib.Core.List.{List}
use mathlib.Core.Option.{Option, some, map, get_or}
use Prim.Native.Nat.{ℕ, ◌+◌, ◌*◌, ◌-◌, ◌≤◌}
use native.Mathlib.Omega.{arith}
use borrow.Author.Tests.{eqb-true, ne_eqb}
use lib.Dec.{eqb}
use lib.ListN.{length, take, drop}
use Rattle.image.specs.Image.{Entry, back_size_of, back_offset, entries_end, image_size, image}
use Rattle.image.specs.declared.Mode.{Mode}
use Rattle.consistency.specs.Matches.{matches_of, any_match}
use Rattle.reader.specs.Slices.{Slice}
use Rattle.reader.specs.Naming.{Naming, place, unnamed, slice_or, name_or, naming}
use Rattle.reader.specs.IdWalk.{step_of, step, upper_hint}
use Rattle.consistency.specs.Home.{home_by, home}
use Rattle.lookup_laws.specs.Answer.{bytes_at, name_given, step_given, is_named}
use Rattle.lookup_laws.proofs.ImageOpening.{back_size_at_image, back_offset_at_image, long_enough, back_inside}

-- ---- in any bytes, by what an id gives

module _ (img : List ℕ) (id : ℕ) where
  part_held : (at : ℕ × ℕ) (other : Slice) (p : Naming) → (slice_or (record { at = at; bytes = img }) other p).bytes ≡ get_or (bytes_at img p) other.bytes
  part_held at other (place s n) = refl
  part_held at other unnamed = refl

  pub slice_given : (at : ℕ × ℕ) (other : Slice) (given : Option (List ℕ)) → name_given img id ≡ given
      → (name_or (record { at = at; bytes = img }) id other).bytes ≡ get_or given other.bytes
  slice_given at other given h = part_held at other (naming img id) ∙ ap (λ (g : Option (List ℕ)). get_or g other.bytes) h

  step_held : (p : Naming) → step_given img (step_of id p) ≡ map (λ (name : List ℕ). record { name = name; id = id }) (bytes_at img p)
  step_held (place s n) = refl
  step_held unnamed = refl

  pub step_given_lem : (given : Option (List ℕ)) → name_given img id ≡ given
      → step_given img (step img id) ≡ map (λ (name : List ℕ). record { name = name; id = id }) given
  unfolding step
  step_given_lem given h = step_held (naming img id) ∙ ap (map (λ (name : List ℕ). record { name = name; id = id })) h

  -- the search for a name that is held meets an entry with this id
  abbrev MetIf : Option (List ℕ) → Type 0
  MetIf given = (name : List ℕ) → given ≡ some name → any_match id (matches_of img name) ≡ true

  home_held : (p : Naming) → MetIf (bytes_at img p) → home_by img id p ≡ is_named (bytes_at img p)
  home_held (place s n) meets = meets (take n (drop s img)) refl
  home_held unnamed meets = refl

  pub home_given : (given : Option (List ℕ)) → name_given img id ≡ given → MetIf given → home img id ≡ is_named given
  unfolding home
  home_given given h meets = home_held (naming img id) (λ name e. meets name (sym h ∙ e)) ∙ ap is_named h

-- ---- the upper hint of an image of entries

pub hint_image : (mode : Mode) (es : List Entry) → image_size mode es ≤ 4294967295 → (n : ℕ) → upper_hint (image mode es) n ≡ back_size_of mode es - n
unfolding upper_hint back_offset
hint_image mode es fits n =
    rw (long_enough mode es fits, back_inside mode es fits, back_size_at_image mode es fits, back_offset_at_image mode es fits)
    (by_back_array (eqb (back_size_of mode es) 0) refl)
  where
    by_back_array : (b : Bool) → eqb (back_size_of mode es) 0 ≡ b
        → cond (eqb (cond b 0 (entries_end es + 16 * length es)) 0 || false) 0 (back_size_of mode es - n) ≡ back_size_of mode es - n
    by_back_array true e = omega (arith, eqb-true (back_size_of mode es) 0 e)
    by_back_array false e = rw (ne_eqb (entries_end es + 16 * length es) 0 (λ z. omega arith))

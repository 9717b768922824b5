-- The place that a walk comes to: it lies in the file, and is as long as its size word says. Assumes nothing.
use Prim.Native.Nat.{ℕ, zero, suc, ◌+◌, ◌-◌, ◌≤◌}
use native.Mathlib.Omega.{arith}
use native.Mathlib.Nat.{suc-add}
use mathlib.Core.Path.{◌≡◌, refl, sym, ap, ◌∙◌}
use mathlib.Core.List.{List}
use lib.ListN.{length, take, drop}
use Rattle.jhash.specs.Outcome.{Outcome, value, refusal}
use Rattle.jhash.proofs.ValueOrRefusal.{no_value, same_value}
use Rattle.bundle.specs.FileWalk.{Place, size_at, place_from, place_of_image}
use Rattle.reader.specs.Open.{opening}
use Rattle.reader.specs.Slices.{Slice, subslice}
use Rattle.bundle.specs.Opening.{image_or_empty, returned_part, image_or, with_num, open_in}
use Rattle.bundle.proofs.FileSteps.{Begins, Met, ended, broke, began, met}
use Rattle.bundle.proofs.FileWalks.{place_ended, place_broke, place_here, place_next}

-- the image at a place begins there, at `from` or behind it, and its size word says its size
pub record Stands (file : List ℕ) (from : ℕ) (p : Place) : Type 0 where
  pub behind : from ≤ p.start
  pub begins : Begins file p.start
  pub sized : size_at file p.start ≡ p.size

abbrev place_of : List ℕ → ℕ → Place
place_of file at = record { start = at; size = size_at file at }

pub stands : (file : List ℕ) (k at : ℕ) (p : Place) → place_from file at k ≡ value p → Stands file at p
stands file zero at p e = stands_here (met file at)
  where
    stands_here : Met file at → Stands file at p
    stands_here (ended q) = absurd (no_value 11 p (sym (place_ended file at 0 q) ∙ e))
    stands_here (broke n b) = absurd (no_value 10 p (sym (place_broke file at 0 n b) ∙ e))
    stands_here (began b) =
        let is : place_of file at ≡ p = same_value (place_of file at) p (sym (place_here file at b) ∙ e) in
        let here : Stands file at (place_of file at) = record { behind = omega arith; begins = b; sized = refl } in
        rw is at here
stands file (suc k) at p e = stands_behind (met file at) (λ d. stands file k (at + size_at file at) p d)
  where
    stands_behind : Met file at → (place_from file (at + size_at file at) k ≡ value p → Stands file (at + size_at file at) p) → Stands file at p
    stands_behind (ended q) more = absurd (no_value 11 p (sym (place_ended file at (suc k) q) ∙ e))
    stands_behind (broke n b) more = absurd (no_value 10 p (sym (place_broke file at (suc k) n b) ∙ e))
    stands_behind (began b) more =
        let s = more (sym (place_next file at k b) ∙ e) in
        record { behind = omega (arith, s.behind); begins = s.begins; sized = s.sized }

module _ (file : List ℕ) (k start size : ℕ) (e : place_of_image file k ≡ value (record { start = start; size = size })) where
  -- the place lies in the file
  pub place_inside : start + size ≤ length file
  place_inside =
      let s = stands file k 0 (record { start = start; size = size }) e in
      omega (arith, s.begins.inside, s.sized)

-- the part that is returned, by its start and end; and an empty one
module _ (file : Slice) (k : ℕ) where
  pub part_there : (start size : ℕ) → place_of_image file.bytes k ≡ value (record { start = start; size = size })
      → subslice file start (start + size - start) ≡ returned_part file k
  part_there start size e =
      let d : start + size - start ≡ size = omega arith in
      ap (subslice file start) d ∙ ap (image_or_empty file) (sym e)

  pub no_part : (n : ℕ) → place_of_image file.bytes k ≡ refusal n → subslice file 0 0 ≡ returned_part file k
  no_part n e = ap (image_or_empty file) (sym e)

-- an image that a walk comes to is opened as it is alone
pub opens_alone : (file : List ℕ) (o : Outcome Place) (image : List ℕ) → image_or file o ≡ value image
    → (p : Place) × (o ≡ value p) × (open_in file o ≡ with_num p (opening image))
opens_alone file (value p) image e = (p, refl, ap (λ (l : List ℕ). with_num p (opening l)) (same_value (take p.size (drop p.start file)) image e))
opens_alone file (refusal k) image e = absurd (no_value k image e)

-- a refusal stays the same for every position behind
pub for_good : (file : List ℕ) (j at d r : ℕ) → place_from file at j ≡ refusal r → place_from file at (j + d) ≡ refusal r
for_good file zero at d r e = refused_here (met file at)
  where
    refused_here : Met file at → place_from file at (0 + d) ≡ refusal r
    refused_here (ended q) = place_ended file at (0 + d) q ∙ sym (place_ended file at 0 q) ∙ e
    refused_here (broke n b) = place_broke file at (0 + d) n b ∙ sym (place_broke file at 0 n b) ∙ e
    refused_here (began b) = absurd (no_value r (place_of file at) (sym e ∙ place_here file at b))
for_good file (suc j) at d r e = refused_behind (met file at) (for_good file j (at + size_at file at) d r)
  where
    refused_behind : Met file at → (place_from file (at + size_at file at) j ≡ refusal r → place_from file (at + size_at file at) (j + d) ≡ refusal r)
        → place_from file at (suc j + d) ≡ refusal r
    refused_behind (ended q) more = place_ended file at (suc j + d) q ∙ sym (place_ended file at (suc j) q) ∙ e
    refused_behind (broke n b) more = place_broke file at (suc j + d) n b ∙ sym (place_broke file at (suc j) n b) ∙ e
    refused_behind (began b) more = ap (place_from file at) (suc-add j d) ∙ place_next file at (j + d) b ∙ more (sym (place_next file at j b) ∙ e)

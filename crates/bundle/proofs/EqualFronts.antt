-- Two files with the same first bytes: a walk over these bytes meets the same images. Assumes nothing.
use Prim.Native.Nat.{ℕ, zero, suc, ◌+◌, ◌-◌, ◌≤◌}
use native.Mathlib.Omega.{arith}
use native.Mathlib.Nat.{suc-add}
use mathlib.Core.Path.{◌≡◌, sym, ap, ◌∙◌}
use mathlib.Core.List.{List}
use lib.ListN.{length, take, drop, length-drop}
use lib.Seq.{length-take-le, take-take}
use Rattle.jhash.specs.Outcome.{value}
use Rattle.jhash.proofs.ValueOrRefusal.{no_value, same_value}
use Rattle.image.proofs.Between.{word_same, between_same}
use Rattle.bundle.specs.FileWalk.{Place, size_at, place_from, place_of_image}
use Rattle.bundle.specs.Opening.{image_part}
use Rattle.bundle.specs.Theorems.Bundles.{Exact, image_end, HoldsImages}
use Rattle.bundle.proofs.FileSteps.{Begins, Met, ended, broke, began, met}
use Rattle.bundle.proofs.FileWalks.{place_ended, place_broke, place_here, place_next}
use Rattle.bundle.proofs.ImagePlaces.{stands}
use Rattle.bundle.proofs.WholeFiles.{none_ends, some_begins, holds_next}

module _ (a b : List ℕ) (e : ℕ) (same : take e a ≡ take e b) (in_b : e ≤ length b) where
  -- an image of a that ends before e is one of b
  size_same : (at : ℕ) → at + 8 ≤ e → size_at a at ≡ size_at b at
  size_same at h = word_same a b e same (at + 4) (omega arith)

  begins_same : (at : ℕ) → Begins a at → at + size_at a at ≤ e → Begins b at
  begins_same at h l =
      let s = size_same at (omega (arith, h.large)) in
      record { head = omega (arith, h.large); large = omega (arith, h.large); inside = omega arith }

  -- the walk to a position whose image ends before e
  pub place_same : (k at : ℕ) (p : Place) → place_from a at k ≡ value p → image_end p ≤ e → place_from b at k ≡ value p
  place_same zero at p q l = same_here (met a at)
    where
      same_here : Met a at → place_from b at 0 ≡ value p
      same_here (ended z) = absurd (no_value 11 p (sym (place_ended a at 0 z) ∙ q))
      same_here (broke n z) = absurd (no_value 10 p (sym (place_broke a at 0 n z) ∙ q))
      same_here (began h) =
          let is = same_value (record { start = at; size = size_at a at }) p (sym (place_here a at h) ∙ q) in
          let l' : at + size_at a at ≤ e = rw (← is) at l in
          let s = size_same at (omega (arith, h.large)) in
          place_here b at (begins_same at h l') ∙ ap (λ (w : ℕ). value (record { start = at; size = w })) (sym s) ∙ ap value is
  place_same (suc k) at p q l = same_behind (met a at) (λ d. place_same k (at + size_at a at) p d l)
    where
      same_behind : Met a at → (place_from a (at + size_at a at) k ≡ value p → place_from b (at + size_at a at) k ≡ value p)
          → place_from b at (suc k) ≡ value p
      same_behind (ended z) more = absurd (no_value 11 p (sym (place_ended a at (suc k) z) ∙ q))
      same_behind (broke n z) more = absurd (no_value 10 p (sym (place_broke a at (suc k) n z) ∙ q))
      same_behind (began h) more =
          let d = sym (place_next a at k h) ∙ q in
          let st = stands a k (at + size_at a at) p d in
          let l' : at + size_at a at ≤ e = omega (arith, st.behind, l) in
          let s = size_same at (omega (arith, h.large)) in
          place_next b at k (begins_same at h l') ∙ ap (λ (w : ℕ). place_from b (at + w) k) (sym s) ∙ more d

  -- and its part
  pub part_same : (p : Place) → image_end p ≤ e → image_part a p ≡ image_part b p
  part_same p l =
      let up_to : take (image_end p) a ≡ take (image_end p) b = sym (take-take (image_end p) e a l) ∙ ap (take (image_end p)) same
      ∙ take-take (image_end p) e b l in
      let d : image_end p - p.start ≡ p.size = omega arith in
      ap (λ (n : ℕ). take n (drop p.start a)) (sym d)
      ∙ between_same a b (image_end p) up_to p.start
      ∙ ap (λ (n : ℕ). take n (drop p.start b)) d

-- a file that goes on behind a: past the images of a, its walk goes on at a's end
pub past : (a b : List ℕ) → take (length a) a ≡ take (length a) b → length a ≤ length b
    → (n at i : ℕ) → HoldsImages a at n → place_from b at (n + i) ≡ place_from b (length a) i
past a b same in_b zero at i h =
    let z : 0 + i ≡ i = omega arith in
    ap (place_from b at) z ∙ ap (λ (o : ℕ). place_from b o i) (none_ends a at h)
past a b same in_b (suc n) at i h =
    let g = some_begins a at n h in
    let s = size_same a b (length a) same in_b at g.head in
    ap (place_from b at) (suc-add n i)
    ∙ place_next b at (n + i) (begins_same a b (length a) same in_b at g g.inside)
    ∙ ap (λ (w : ℕ). place_from b (at + w) (n + i)) (sym s)
    ∙ past a b same in_b n (at + size_at a at) i (holds_next a at n g h)

-- the part that is opened
pub exact : (file : List ℕ) (k : ℕ) (p : Place) → place_of_image file k ≡ value p → Exact file p
exact file k p e =
    let s = stands file k 0 p e in
    let inside : image_end p ≤ length file = omega (arith, s.begins.inside, s.sized) in
    record {
      inside = inside;
      large = omega (arith, s.begins.large, s.sized);
      by_size_word = s.sized;
      as_long = length-take-le p.size (drop p.start file) (rw (length-drop p.start file) (omega (arith, inside)));
    }

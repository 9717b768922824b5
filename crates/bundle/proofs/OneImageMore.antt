-- A file that holds images, with one more image behind it. Assumes nothing.
use Prim.Native.Nat.{ℕ, suc, ◌+◌, ◌≤◌, ◌<◌}
use native.Mathlib.Omega.{arith}
use native.Mathlib.Decide.{dec_lt}
use mathlib.Core.Path.{◌≡◌, sym, ap, ◌∙◌}
use mathlib.Core.Bool.{false, not}
use mathlib.Core.List.{List, ◌++◌}
use borrow.Author.Tests.{ltb-false, eqb-true, not-false}
use lib.Dec.{eqb, ltb}
use lib.ListN.{length, take, length-append}
use lib.Seq.{take-length, take-append_seam, drop-append_seam}
use Rattle.jhash.specs.Outcome.{value, refusal}
use Rattle.image.specs.Bytes.{word}
use Rattle.image.proofs.Bools.{or_false_first, or_false_second}
use Rattle.image.proofs.Words.{word_drop}
use Rattle.reader.specs.Open.{opening}
use Rattle.bundle.specs.FileWalk.{Place, size_at, place_from, place_of_image}
use Rattle.bundle.specs.Opening.{image_part, image_or, with_num, open_in, opening_at}
use Rattle.bundle.specs.Append.{unfit}
use Rattle.bundle.specs.Theorems.Bundles.{HoldsImages, Grown}
use Rattle.bundle.proofs.FileSteps.{Begins}
use Rattle.bundle.proofs.FileWalks.{place_ended, place_here, place_next}
use Rattle.bundle.proofs.EqualFronts.{place_same, part_same, past, exact}

-- what is asked of a new image
pub fit : (image : List ℕ) → unfit image ≡ false → (2072 ≤ length image) × (word image 4 ≡ length image)
fit image e =
    let short = ltb (length image) 2072 in
    let other = not (eqb (word image 4) (length image)) in (
      ltb-false (length image) 2072 (or_false_first short other e),
      eqb-true (word image 4) (length image) (not-false (eqb (word image 4) (length image)) (or_false_second short other e)),
    )

module _ (old image : List ℕ) (n : ℕ) (holds : HoldsImages old 0 n) (fine : unfit image ≡ false) where
  new : List ℕ
  new = old ++ image

  lengths : length new ≡ length old + length image
  unfolding new
  lengths = length-append old image

  same : take (length old) old ≡ take (length old) new
  unfolding new
  same = take-length old ∙ sym (take-append_seam old image)

  inside : length old ≤ length new
  inside = omega (arith, lengths)

  -- the new image begins at the old file's end
  sized : size_at new (length old) ≡ length image
  unfolding new
  sized = sym (word_drop (old ++ image) (length old) 4) ∙ ap (λ (l : List ℕ). word l 4) (drop-append_seam old image) ∙ (fit image fine).1

  begins : Begins new (length old)
  begins =
      let f = fit image fine in
      let s = sized in
      let l = lengths in
      record { head = omega (arith, f.0); large = omega (arith, f.0); inside = omega arith }

  there : Place
  there = record { start = length old; size = length image }

  last : place_of_image new n ≡ value there
  unfolding there
  last =
      let z : n + 0 ≡ n = omega arith in
      ap (place_from new 0) (sym z) ∙ past old new same inside n 0 0 holds ∙ place_here new (length old) begins
      ∙ ap (λ (w : ℕ). value (record { start = length old; size = w })) sized

  its_part : image_part new there ≡ image
  unfolding new there
  its_part = ap (take (length image)) (drop-append_seam old image) ∙ take-length image

  ends : place_of_image new (suc n) ≡ refusal 11
  ends =
      let z : n + 1 ≡ suc n = omega arith in
      ap (place_from new 0) (sym z) ∙ past old new same inside n 0 1 holds ∙ place_next new (length old) 0 begins
      ∙ place_ended new (length old + size_at new (length old)) 0 (omega (arith, sized, lengths))

  earlier : (k : ℕ) (p : Place) → place_of_image old k ≡ value p → (place_of_image new k ≡ value p) × (image_part new p ≡ image_part old p)
  earlier k p e =
      let in-old = (exact old k p e).inside in
      (place_same old new (length old) same inside k 0 p e in-old, sym (part_same old new (length old) same inside p in-old))

  opens : (k : ℕ) (p : Place) → place_of_image old k ≡ value p → opening_at new k ≡ opening_at old k
  opens k p e =
      ap (open_in new) (earlier k p e).0 ∙ ap (λ (l : List ℕ). with_num p (opening l)) (earlier k p e).1 ∙ sym (ap (open_in old) e)

  each : (k : ℕ) → k < suc n → (p : Place) × (place_of_image new k ≡ value p)
  each k h =
      elim (dec_lt k n) [
        | yes l ↦ let r = holds.each k l in (r.0, (earlier k r.0 r.1).0)
        | no l ↦ let e : k ≡ n = omega (arith, h, l) in (there, ap (place_of_image new) e ∙ last)
      ]

  pub grown : Grown old (old ++ image) image
  unfolding new there
  grown = record {
    earlier = earlier;
    opens = opens;
    asked = λ {A} ask k p e. ap ask (earlier k p e).1;
    images = n;
    held = holds;
    last = last;
    last_part = ap (image_or new) last ∙ ap value its_part;
    last_opens = ap (open_in new) last ∙ ap (λ (l : List ℕ). with_num there (opening l)) its_part;
    one_more = record { each = each; ends = ends };
  }

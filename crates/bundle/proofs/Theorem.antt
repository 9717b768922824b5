-- Several walls in a file: what is proved of bundles, in one place. Assumes nothing.
use Prim.Native.Nat.{ℕ, ◌^◌, ◌≤◌}
use native.Mathlib.Omega.{arith}
use native.Mathlib.Nat.{le_refl}
use mathlib.Core.Path.{◌≡◌, refl, sym, ap, ◌∙◌}
use mathlib.Core.Logic.{◌↔◌}
use mathlib.Core.Bool.{Bool, true, not, ◌||◌, or-true}
use mathlib.Core.List.{List}
use borrow.Author.Tests.{ne_eqb}
use lib.Dec.{ltb}
use lib.ListN.{length, take, length-take}
use Rattle.jhash.specs.Word.{AllBytes}
use Rattle.jhash.proofs.ValueOrRefusal.{no_value, same_value}
use Rattle.jhash.proofs.WordRead.{word_below}
use Rattle.image.specs.Bytes.{word}
use Rattle.jhash.specs.Outcome.{Outcome, value, refusal}
use Rattle.reader.specs.Slices.{Slice}
use Rattle.bundle.specs.FileWalk.{Place, place_of_image}
use Rattle.bundle.specs.Opening.{image_part, image_or, image_or_empty}
use Rattle.bundle.specs.Append.{unfit}
use Rattle.bundle.specs.AppendList.{bytes, empty_file, accepted_images}
use Rattle.bundle.specs.Theorems.Bundles.{image_end, left, Bundles}
use Rattle.bundle.proofs.ImagePlaces.{opens_alone, for_good}
use Rattle.bundle.proofs.WholeFiles.{count_holds, count_broken, holds_count, broken_count}
use Rattle.bundle.proofs.EqualFronts.{place_same, exact}
use Rattle.bundle.proofs.Appends.{was_refused}
use Rattle.bundle.proofs.AcceptedAppend.{accepting}
use Rattle.bundle.proofs.AppendLists.{good_left, next_decided}

-- a file whose first e bytes are those of another that has so many
reaches : (a b : List ℕ) (e : ℕ) → take e a ≡ take e b → e ≤ length a → e ≤ length b
reaches a b e same h = omega (arith, length-take e a, length-take e b, ap length same)

-- no size word says so much
too_large : (image : List ℕ) → AllBytes image → 2 ^ 32 ≤ length image → unfit image ≡ true
too_large image bytes h =
    let n : word image 4 ≡ length image → ⊥ = λ e. omega (arith, word_below image 4 bytes, h, e) in
    ap (λ (b : Bool). ltb (length image) 2072 || not b) (ne_eqb (word image 4) (length image) n) ∙ or-true (ltb (length image) 2072)

-- the returned part, by what the walk gives
is_returned : (file : Slice) (o : Outcome Place) (image : List ℕ) → image_or file.bytes o ≡ value image → (image_or_empty file o).bytes ≡ image
is_returned file (value p) image e = same_value (image_part file.bytes p) image e
is_returned file (refusal k) image e = absurd (no_value k image e)

returned_empty : (file : Slice) (k : ℕ) (o : Outcome Place) → place_of_image file.bytes k ≡ o
    → (length (image_or_empty file o).bytes ≡ 0) ↔ ((r : ℕ) × (o ≡ refusal r))
returned_empty file k (value p) e =
    let x = exact file.bytes k p e in
    ((λ n. absurd (omega (arith, x.as_long, x.large, n))), λ r. absurd (no_value r.0 p (sym r.1)))
returned_empty file k (refusal n) e = ((λ z. (n, refl)), λ r. refl)

pub bundles : Bundles
bundles = record {
  exact = exact;
  returned = λ file k image e. is_returned file (place_of_image file.bytes k) image e;
  nothing_returned = λ file k. returned_empty file k (place_of_image file.bytes k) refl;
  only_as_far = λ a b k p e same. place_same a b (image_end p) same (reaches a b (image_end p) same (exact a k p e).inside) k 0 p e (le_refl (image_end p));
  for_good = λ file j d r e. for_good file j 0 d r e;
  counted = λ file n. (holds_count file n, count_holds file n);
  not_counted = λ file. (broken_count file, λ b. count_broken file b.0 b.1);
  accepts = accepting;
  refuses = was_refused;
  too_large = too_large;
  back_to_back_lem = λ buf images. (good_left buf images).joins;
  position = λ buf images k. (good_left buf images).reads k;
  position_opens = λ buf images k image e.
      opens_alone (bytes (left buf images)) (place_of_image (bytes (left buf images)) k) image ((good_left buf images).reads k ∙ e);
  decided = λ buf images image. next_decided (length buf) (left buf images) (accepted_images (empty_file buf) images) image (good_left buf images);
}

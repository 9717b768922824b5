-- Lists of appends to an empty file. Assumes nothing.
use Prim.Native.Nat.{ℕ, zero, suc, ◌+◌, ◌-◌, ◌≤◌, ◌<◌}
use native.Mathlib.Omega.{arith}
use native.Mathlib.Decide.{dec_lt}
use native.Mathlib.Numerals.{add-one}
use mathlib.Core.Path.{◌≡◌, refl, sym, ap, ◌∙◌}
use mathlib.Core.Bool.{true, false, cond}
use mathlib.Core.List.{List, [], ◌∷◌, ◌++◌, append-nil}
use borrow.Author.Tests.{le-ltb}
use lib.Dec.{ltb}
use lib.ListN.{length, take, length-append}
use lib.Seq.{length-sets, append_snoc}
use Rattle.jhash.specs.Outcome.{Outcome, value, refusal}
use Rattle.jhash.proofs.ValueOrRefusal.{same_value}
use Rattle.image.specs.Bytes.{cat}
use Rattle.image.proofs.Lists.{cat_append}
use Rattle.bundle.specs.FileWalk.{place_of_image}
use Rattle.bundle.specs.Opening.{image_or, image_at}
use Rattle.bundle.specs.Append.{is_value, whole_file, unfit, append_refusal, after_append}
use Rattle.bundle.specs.AppendList.{File, bytes, empty_file, append_to, size_after, after_one, after_all, kept_if, accepted_images, back_to_back, nth_image}
use Rattle.bundle.specs.Theorems.Bundles.{HoldsImages, Grown, Accepts, left}
use Rattle.bundle.proofs.FileWalks.{place_ended}
use Rattle.bundle.proofs.ImagePlaces.{for_good}
use Rattle.bundle.proofs.WholeFiles.{count_holds}
use Rattle.bundle.proofs.Appends.{was_refused, was_sets}
use Rattle.bundle.proofs.AcceptedAppend.{accepting}

-- ---- positions of a list

nth_left : (xs ys : List (List ℕ)) (k : ℕ) → k < length xs → nth_image (xs ++ ys) k ≡ nth_image xs k
unfolding nth_image
nth_left [] ys k h = absurd (omega (arith, h))
nth_left (x ∷ xs) ys zero h = refl
nth_left (x ∷ xs) ys (suc k) h = nth_left xs ys k (omega (arith, h))

nth_last : (xs : List (List ℕ)) (x : List ℕ) → nth_image (xs ++ x ∷ []) (length xs) ≡ value x
unfolding nth_image
nth_last [] x = refl
nth_last (y ∷ xs) x = nth_last xs x

nth_past : (xs : List (List ℕ)) (k : ℕ) → length xs ≤ k → nth_image xs k ≡ refusal 11
unfolding nth_image
nth_past [] k h = refl
nth_past (x ∷ xs) zero h = absurd (omega (arith, h))
nth_past (x ∷ xs) (suc k) h = nth_past xs k (omega (arith, h))

joined_more : (xs : List (List ℕ)) (x : List ℕ) → back_to_back (xs ++ x ∷ []) ≡ back_to_back xs ++ x
unfolding cat
joined_more xs x = cat_append (λ (l : List ℕ). l) xs (x ∷ []) ∙ ap (λ (l : List ℕ). back_to_back xs ++ l) (append-nil x)

-- ---- a file that holds these images, in a buffer of so many bytes

pub record Good (room : ℕ) (f : File) (xs : List (List ℕ)) : Type 0 where
  pub buffer_length : length f.buffer ≡ room
  pub inside : f.size ≤ room
  pub joins : bytes f ≡ back_to_back xs
  pub reads : (k : ℕ) → image_at (bytes f) k ≡ nth_image xs k
  pub holds : HoldsImages (bytes f) 0 (length xs)

pub good_empty : (buf : List ℕ) → Good (length buf) (empty_file buf) []
unfolding nth_image cat
good_empty buf = record {
  buffer_length = refl;
  inside = omega arith;
  joins = refl;
  reads = λ k. ap (image_or []) (place_ended [] 0 k refl);
  holds = record { each = λ k h. absurd (omega (arith, h)); ends = place_ended [] 0 0 refl };
}

-- a refused append leaves it so
after_refused : (f : File) (x : List ℕ) (r : ℕ) → append_to f x ≡ refusal r → after_one f x ≡ f
unfolding after_one
after_refused f x r e = λ i. record { buffer = was_refused f.buffer f.size x r e i; size = size_after f.size (e i) }

-- an accepted one adds its image
module _ (room : ℕ) (f : File) (xs : List (List ℕ)) (good : Good room f xs) (x : List ℕ) (m : ℕ) (e : append_to f x ≡ value m) where
  a : Accepts f.buffer f.size x m
  a = accepting f.buffer f.size x m e

  sized : (after_one f x).size ≡ m
  unfolding after_one
  sized = ap (size_after f.size) e

  now_bytes : bytes (after_one f x) ≡ take m (after_append f.buffer f.size x)
  unfolding after_one
  now_bytes = ap (λ (n : ℕ). take n (after_append f.buffer f.size x)) sized

  g : Grown (bytes f) (bytes (after_one f x)) x
  g = rw now_bytes a.grown

  -- the number of images is that of the list
  count_is : g.images ≡ length xs
  count_is = same_value g.images (length xs) (sym (count_holds (bytes f) g.images g.held) ∙ count_holds (bytes f) (length xs) good.holds)

  holds_now : HoldsImages (bytes (after_one f x)) 0 (suc (length xs))
  holds_now = rw count_is at g.one_more

  -- each position: one of the earlier images, the new one, or none
  reads_now : (k : ℕ) → image_at (bytes (after_one f x)) k ≡ nth_image (xs ++ x ∷ []) k
  reads_now k =
      elim (dec_lt k (length xs)) [
        | yes l ↦ (let h = good.holds.each k l in
            let p = g.earlier k h.0 h.1 in
            ap (image_or (bytes (after_one f x))) p.0 ∙ ap value p.1 ∙ sym (ap (image_or (bytes f)) h.1) ∙ good.reads k
            ∙ sym (nth_left xs (x ∷ []) k l))
        | no l ↦ elim (dec_lt (length xs) k) [
          | yes b ↦ (let d : suc (length xs) + (k - suc (length xs)) ≡ k = omega (arith, b) in
              let r = for_good (bytes (after_one f x)) (suc (length xs)) 0 (k - suc (length xs)) 11 holds_now.ends in
              let s : length (xs ++ x ∷ []) ≤ k = rw (length-append xs (x ∷ [])) (omega (arith, b)) in
              ap (image_or (bytes (after_one f x))) (ap (place_of_image (bytes (after_one f x))) (sym d) ∙ r) ∙ sym (nth_past (xs ++ x ∷ []) k s))
          | no b ↦ (let q : k ≡ length xs = omega (arith, l, b) in
              ap (image_at (bytes (after_one f x))) (q ∙ sym count_is) ∙ g.last_part ∙ sym (ap (nth_image (xs ++ x ∷ [])) q ∙ nth_last xs x))
        ]
      ]

  pub good_more : Good room (after_one f x) (xs ++ x ∷ [])
  unfolding after_one
  good_more =
      let n : length (xs ++ x ∷ []) ≡ suc (length xs) = length-append xs (x ∷ []) ∙ add-one (length xs) in
      record {
        buffer_length = kept_length ∙ good.buffer_length;
        inside = rw sized (omega (arith, a.in_buffer, good.buffer_length));
        joins = now_bytes ∙ a.file ∙ ap (λ (l : List ℕ). l ++ x) good.joins ∙ sym (joined_more xs x);
        reads = reads_now;
        holds = rw n holds_now;
      }
    where
      kept_length : length (after_append f.buffer f.size x) ≡ length f.buffer
      kept_length = ap length (sym (was_sets f.buffer f.size x m e)) ∙ length-sets f.buffer f.size x

-- ---- lists

pub good_all : (room : ℕ) (images : List (List ℕ)) (f : File) (xs : List (List ℕ)) → Good room f xs
    → Good room (after_all f images) (xs ++ accepted_images f images)
unfolding after_all accepted_images
good_all room [] f xs g = rw (append-nil xs) g
good_all room (x ∷ images) f xs g = good_by_outcome (append_to f x) refl (λ ys h. good_all room images (after_one f x) ys h)
  where
    good_by_outcome : (o : Outcome ℕ) → append_to f x ≡ o
        → ((ys : List (List ℕ)) → Good room (after_one f x) ys → Good room (after_all (after_one f x) images) (ys ++ accepted_images (after_one f x) images))
        → Good room (after_all (after_one f x) images) (xs ++ kept_if o x (accepted_images (after_one f x) images))
    good_by_outcome (value m) e more = rw (append_snoc xs x (accepted_images (after_one f x) images)) at (more (xs ++ x ∷ []) (good_more room f xs g x m e))
    good_by_outcome (refusal r) e more = more xs (rw (after_refused f x r e) g)

-- from an empty file
pub good_left : (buf : List ℕ) (images : List (List ℕ)) → Good (length buf) (left buf images) (accepted_images (empty_file buf) images)
good_left buf images = good_all (length buf) images (empty_file buf) [] (good_empty buf)

-- which append is accepted next
pub next_decided : (room : ℕ) (f : File) (xs : List (List ℕ)) (image : List ℕ) → Good room f xs
    → append_refusal f.buffer f.size image ≡ cond (unfit image) 10 (cond (ltb room (f.size + length image)) 3 0)
unfolding append_refusal
next_decided room f xs image g =
    let h : ltb (length f.buffer) f.size ≡ false = le-ltb (length f.buffer) f.size (omega (arith, g.inside, g.buffer_length)) in
    let w : whole_file (bytes f) ≡ true = ap is_value (count_holds (bytes f) (length xs) g.holds) in
    let l = g.buffer_length in
    rw (h, w, l) refl

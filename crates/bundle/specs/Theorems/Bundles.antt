-- What is proved of bundles (`bundles` in proofs/Theorem): the sentences of 02 (i), and what a caller asks next. For
-- all files, buffers, numbers and images.
use Rattle.std.specs.Prelude.{ℕ, suc, ◌+◌, ◌^◌, ◌≤◌, ◌<◌, ◌≡◌, ◌↔◌, true, cond, List, ◌++◌, length, get_or, take}
use Rattle.std.specs.Prelude.{drop, ltb}
use Rattle.jhash.specs.Outcome.{value, refusal}
use Rattle.reader.specs.Open.{opening}
use Rattle.bundle.specs.FileWalk.{Place, size_at, place_from, place_of_image, counting}
use Rattle.reader.specs.Slices.{Slice}
use Rattle.bundle.specs.Opening.{image_part, image_at, returned_part, with_num, opening_at}
use Rattle.bundle.specs.Append.{unfit, append_refusal, appending, after_append}
use Rattle.bundle.specs.AppendList.{File, bytes, empty_file, after_all, accepted_images, back_to_back, nth_image}

-- where the image at a place ends
abbrev pub image_end : Place → ℕ
image_end p = p.start + p.size

-- "Opening gets exactly the size word's bytes": the part lies in the file and has as many bytes as its size word says
pub record Exact (file : List ℕ) (p : Place) : Type 0 where
  pub inside : image_end p ≤ length file
  pub large : 2072 ≤ p.size
  pub by_size_word : size_at file p.start ≡ p.size
  pub as_long : length (image_part file p) ≡ p.size

-- a walk from a place on, 0 for the whole file, comes to n images and then to the file's end
pub record HoldsImages (file : List ℕ) (from n : ℕ) : Type 0 where
  pub each : (k : ℕ) → k < n → (p : Place) × (place_from file from k ≡ value p)
  pub ends : place_from file from n ≡ refusal 11

-- a file before and after an accepted append of an image
pub record Grown (old new image : List ℕ) : Type 1 where
  -- every earlier position opens to the same part, byte for byte
  pub earlier : (k : ℕ) (p : Place) → place_of_image old k ≡ value p
      → (place_of_image new k ≡ value p) × (image_part new p ≡ image_part old p)
  pub opens : (k : ℕ) (p : Place) → place_of_image old k ≡ value p → opening_at new k ≡ opening_at old k
  -- "every name and id in the earlier images must be answered as before": so is whatever is asked of the part alone
  pub asked : {A : Type 0} (ask : List ℕ → A) (k : ℕ) (p : Place) → place_of_image old k ≡ value p
      → ask (image_part new p) ≡ ask (image_part old p)
  -- the position after the last is the appended image, which opens as it does alone; and no image follows it
  pub images : ℕ
  pub held : HoldsImages old 0 images
  pub last : place_of_image new images ≡ value (record { start = length old; size = length image })
  pub last_part : image_at new images ≡ value image
  pub last_opens : opening_at new images ≡ with_num (record { start = length old; size = length image }) (opening image)
  pub one_more : HoldsImages new 0 (suc images)

-- an accepted append: "writes the image's bytes right after the file's, changes no other byte and gives the joined
-- length"
pub record Accepts (buf : List ℕ) (n : ℕ) (image : List ℕ) (m : ℕ) : Type 1 where
  pub joined_length : m ≡ n + length image
  pub in_buffer : m ≤ length buf
  pub writes : after_append buf n image ≡ take n buf ++ image ++ drop m buf
  pub file : take m (after_append buf n image) ≡ take n buf ++ image
  pub grown : Grown (take n buf) (take m (after_append buf n image)) image

-- a list of appends of any length to an empty file, in any buffer: the file that it leaves
abbrev pub left : List ℕ → List (List ℕ) → File
left buf images = after_all (empty_file buf) images

pub record Bundles : Type 1 where
  pub exact : (file : List ℕ) (k : ℕ) (p : Place) → place_of_image file k ≡ value p → Exact file p
  -- the returned part is that image; it is empty exactly where the walk is refused
  pub returned : (file : Slice) (k : ℕ) (image : List ℕ) → (image_at file.bytes k ≡ value image)
      → (returned_part file k).bytes ≡ image
  pub nothing_returned : (file : Slice) (k : ℕ)
      → (length (returned_part file k).bytes ≡ 0) ↔ ((r : ℕ) × (place_of_image file.bytes k ≡ refusal r))
  -- "walks from the front only as far as the position": what follows the image is not looked at
  pub only_as_far : (a b : List ℕ) (k : ℕ) (p : Place) → place_of_image a k ≡ value p
      → take (image_end p) a ≡ take (image_end p) b → place_of_image b k ≡ value p
  -- a position behind a broken place or behind the end is refused as that place is
  pub for_good : (file : List ℕ) (j d r : ℕ) → place_of_image file j ≡ refusal r
      → place_of_image file (j + d) ≡ refusal r
  -- the count is that of the positions that have an image; 10 exactly when some position gives 10
  pub counted : (file : List ℕ) (n : ℕ) → (counting file ≡ value n) ↔ HoldsImages file 0 n
  pub not_counted : (file : List ℕ)
      → (counting file ≡ refusal 10) ↔ ((k : ℕ) × (place_of_image file k ≡ refusal 10))
  -- appends
  pub accepts : (buf : List ℕ) (n : ℕ) (image : List ℕ) (m : ℕ) → appending buf n image ≡ value m
      → Accepts buf n image m
  pub refuses : (buf : List ℕ) (n : ℕ) (image : List ℕ) (r : ℕ) → appending buf n image ≡ refusal r
      → after_append buf n image ≡ buf
  -- an image of 2^32 bytes or more is turned down, since no size word says so much
  pub too_large : (image : List ℕ) → ((i : ℕ) → get_or image i 0 < 256) → 2 ^ 32 ≤ length image
      → unfit image ≡ true
  -- lists of appends: the file is the accepted images back to back, and position k has the k-th of them
  pub back_to_back_lem : (buf : List ℕ) (images : List (List ℕ))
      → bytes (left buf images) ≡ back_to_back (accepted_images (empty_file buf) images)
  pub position : (buf : List ℕ) (images : List (List ℕ)) (k : ℕ)
      → image_at (bytes (left buf images)) k ≡ nth_image (accepted_images (empty_file buf) images) k
  -- and opens as it does alone
  pub position_opens : (buf : List ℕ) (images : List (List ℕ)) (k : ℕ) (image : List ℕ)
      → nth_image (accepted_images (empty_file buf) images) k ≡ value image
      → (p : Place) × (place_of_image (bytes (left buf images)) k ≡ value p)
      × (opening_at (bytes (left buf images)) k ≡ with_num p (opening image))
  -- which of them are accepted: the image and the buffer's room alone decide
  pub decided : (buf : List ℕ) (images : List (List ℕ)) (image : List ℕ)
      → append_refusal (left buf images).buffer (left buf images).size image
      ≡ cond (unfit image) 10 (cond (ltb (length buf) ((left buf images).size + length image)) 3 0)

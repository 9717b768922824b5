-- Appends one after the other: 02 (i), along a list of images. Refused appends stay in the list and change nothing.
use Rattle.std.specs.Prelude.{ℕ, zero, suc, List, [], ◌∷◌, take}
use Rattle.jhash.specs.Outcome.{Outcome, value, refusal}
use Rattle.image.specs.Bytes.{cat}
use Rattle.bundle.specs.Append.{appending, after_append}
use Rattle.jhash.specs.Refusals as refused

-- "The file for an append is the buffer's first bytes, their number given by the caller"
pub record File : Type 0 where
  pub buffer : List ℕ
  pub size : ℕ

abbrev pub bytes : File → List ℕ
bytes f = take f.size f.buffer

-- "an empty file has none": no bytes of a buffer
abbrev pub empty_file : List ℕ → File
empty_file buf = record { buffer = buf; size = 0 }

-- the answer of an append to a file, and the file that it leaves: the joined length, or the length before where it is
-- refused
abbrev pub append_to : File → List ℕ → Outcome ℕ
append_to f image = appending f.buffer f.size image

abbrev pub size_after : ℕ → Outcome ℕ → ℕ
size_after n (value m) = m
size_after n (refusal k) = n

unfoldable pub after_one : File → List ℕ → File
after_one f image =
    record { buffer = after_append f.buffer f.size image; size = size_after f.size (append_to f image) }

-- the file after a list of appends
unfoldable pub after_all : File → List (List ℕ) → File
after_all f [] = f
after_all f (x ∷ xs) = after_all (after_one f x) xs

-- the images whose append was accepted, in their order
abbrev pub kept_if : Outcome ℕ → List ℕ → List (List ℕ) → List (List ℕ)
kept_if (value n) x xs = x ∷ xs
kept_if (refusal k) x xs = xs

unfoldable pub accepted_images : File → List (List ℕ) → List (List ℕ)
accepted_images f [] = []
accepted_images f (x ∷ xs) = kept_if (append_to f x) x (accepted_images (after_one f x) xs)

-- "images back to back"
abbrev pub back_to_back : List (List ℕ) → List ℕ
back_to_back xs = cat (λ (x : List ℕ). x) xs

-- the image at a position of a list, counted from 0; 11 behind the last
unfoldable pub nth_image : List (List ℕ) → ℕ → Outcome (List ℕ)
nth_image [] k = refusal refused.no_such_image
nth_image (x ∷ xs) zero = value x
nth_image (x ∷ xs) (suc k) = nth_image xs k

-- Appending an image to a bundle: 02 (i). The decision is apart from the effect.
use Rattle.std.specs.Prelude.{ℕ, ◌+◌, Bool, true, false, cond, not, ◌||◌, List, length, take, eqb, ltb}
use Rattle.std.proofs.lemmas.List.Edits.{sets}
use Rattle.jhash.specs.Outcome.{Outcome, value, refusal}
use Rattle.image.specs.Bytes.{word}
use Rattle.image.specs.Image.{head_size}
use Rattle.bundle.specs.FileWalk.{counting}
use Rattle.jhash.specs.Refusals as refused

-- does a walk of the whole file come to its end?
abbrev pub is_value : {A : Type 0} → Outcome A → Bool
is_value (value x) = true
is_value (refusal k) = false

abbrev pub whole_file : List ℕ → Bool
whole_file file = is_value (counting file)

-- "a new image under 2,072 bytes or whose size word isn't its length"
abbrev pub unfit : List ℕ → Bool
unfit image = ltb (length image) head_size || not (eqb (word image 4) (length image))

-- "Append walks the whole file, gives 10 also for a file number above the buffer's length, a new image under 2,072
-- bytes or whose size word isn't its length, then 3 when the joined length exceeds the buffer." The file is the first
-- n bytes of the buffer. 0: no refusal
unfoldable pub append_refusal : List ℕ → ℕ → List ℕ → ℕ
append_refusal buf n image =
    cond (ltb (length buf) n || not (whole_file (take n buf)) || unfit image) refused.broken_bundle
    (cond (ltb (length buf) (n + length image)) refused.no_room 0)

-- "gives the joined length"
unfoldable pub appending : List ℕ → ℕ → List ℕ → Outcome ℕ
appending buf n image =
    cond (eqb (append_refusal buf n image) 0) (value (n + length image)) (refusal (append_refusal buf n image))

-- "an accepted append writes the image's bytes right after the file's, changes no other byte"; a refused one changes
-- none
unfoldable pub after_append : List ℕ → ℕ → List ℕ → List ℕ
after_append buf n image = cond (eqb (append_refusal buf n image) 0) (sets buf n image) buf

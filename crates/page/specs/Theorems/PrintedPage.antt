-- What is proved of the page (`printed_page` in proofs/Theorem): the sentences of 02 (iii), and what a reader of the
-- paper asks next. For all images, naming rules, ids and output buffers.
use Rattle.std.specs.Prelude.{ℕ, ◌+◌, ◌*◌, ◌-◌, ◌^◌, ◌≤◌, ◌<◌, ◌≡◌, ◌⊎◌, cond, List, [], ◌∷◌, ◌++◌, length, get_or}
use Rattle.std.specs.Prelude.{take, drop, eqb}
use Rattle.std.proofs.Math.Option.{Option}
use Rattle.jhash.specs.Outcome.{refusal}
use Rattle.reader.specs.Naming.{name_given}
use Rattle.reader.specs.IdWalk.{upper_hint}
use Rattle.page.specs.Page.{line}
use Rattle.page.specs.Call.{page_of, page_length, printing, after_page, page_part}

-- bytes 32 to 126 print as themselves
abbrev pub Plain : ℕ → Type 0
Plain b = (32 ≤ b) × (b ≤ 126)

-- the number that spaces and digits write, the most significant first; v is what those before them wrote
unfoldable pub read_from : ℕ → List ℕ → ℕ
read_from v [] = v
read_from v (b ∷ bs) = read_from (cond (eqb b 32) v (v * 10 + (b - 48))) bs

pub record PrintedPage : Type 0 where
  -- "a line of 45 bytes", the last of which is a line feed and the others 32 to 126
  pub line_length : (name : ℕ → Option (List ℕ)) (id : ℕ) → length (line name id) ≡ 45
  pub line_ends : (name : ℕ → Option (List ℕ)) (id : ℕ) → get_or (line name id) 44 0 ≡ 10
  pub line_plain : (name : ℕ → Option (List ℕ)) (id i : ℕ) → i < 44 → Plain (get_or (line name id) i 0)
  -- the number on an id's line, its first 10 bytes, reads back as the id: all 10 digits
  pub number_reads : (name : ℕ → Option (List ℕ)) (id : ℕ) → id < 10 ^ 10
      → read_from 0 (take 10 (line name id)) ≡ id
  -- "its length is 45 × back size": the line of each id below back size begins at 45 × id
  pub page_length_lem : (image : List ℕ) → length (page_of image) ≡ page_length image
  pub line_stands : (image : List ℕ) (id : ℕ) → id < upper_hint image 0
      → take 45 (drop (45 * id) (page_of image)) ≡ line (name_given image) id
  -- every printed byte is 32 to 126 or the line feed
  pub page_printable : (image : List ℕ) (i : ℕ) → i < page_length image
      → Plain (get_or (page_of image) i 0) ⊎ (get_or (page_of image) i 0 ≡ 10)
  -- "a function of the naming rule and the back size": images that name every id alike and have the same back size
  -- print the same page
  pub alike : (a b : List ℕ) → upper_hint a 0 ≡ upper_hint b 0
      → ((id : ℕ) → id < upper_hint a 0 → name_given a id ≡ name_given b id)
      → page_of a ≡ page_of b
  -- the page in parts: one of as many ids as there are is the whole page, and two that follow each other are the part
  -- of both
  pub whole : (image : List ℕ) (count : ℕ) → upper_hint image 0 ≤ count
      → page_part image 0 count ≡ page_of image
  pub joined : (image : List ℕ) (first a b : ℕ)
      → page_part image first (a + b) ≡ page_part image first a ++ page_part image (first + a) b
  -- an output with room holds the page in front, and "bytes past the page keep their content"; one that is refused is
  -- "unwritten"
  pub in_front : (image out : List ℕ) → page_length image ≤ length out
      → take (page_length image) (after_page image out) ≡ page_of image
  pub behind : (image out : List ℕ) → page_length image ≤ length out
      → drop (page_length image) (after_page image out) ≡ drop (page_length image) out
  pub unwritten : (image out : List ℕ) → printing image (length out) ≡ refusal 12 → after_page image out ≡ out

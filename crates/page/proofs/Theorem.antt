-- The theorem `printed_page` (`specs/Theorems/PrintedPage`). Assumes nothing.
use Prim.Native.Nat.{ℕ, ◌+◌, ◌*◌, ◌-◌, ◌^◌, ◌≤◌, ◌<◌, min}
use native.Mathlib.Omega.{arith}
use native.Mathlib.Nat.{zero-add}
use mathlib.Core.Path.{◌≡◌, sym, ap, subst, ◌∙◌}
use mathlib.Core.Logic.{◌⊎◌}
use mathlib.Core.Bool.{Bool, cond}
use mathlib.Core.List.{List, [], ◌∷◌, ◌++◌, append_assoc}
use mathlib.Core.Option.{Option}
use lib.ListN.{length, get_or, take, drop, length-append}
use lib.Seq.{take_at, drop_at, get_or_at}
use lib.ListN.{get_or-append}
use lib.Dec.{ltb}
use borrow.Author.Tests.{le-ltb}
use Rattle.jhash.specs.Outcome.{value, refusal}
use Rattle.jhash.proofs.ValueOrRefusal.{no_value}
use Rattle.image.proofs.Bools.{chose_first}
use Rattle.image.specs.Bytes.{cat, range}
use Rattle.image.proofs.Lists.{cat_run, length_range, get_or_range}
use Rattle.image.proofs.At.{At, at_whole, at_same, at_equal, at_part, at_take}
use Rattle.reader.specs.Naming.{name_given}
use Rattle.reader.specs.IdWalk.{upper_hint}
use Rattle.page.specs.Page.{id_field, name_field, line, lines, page}
use Rattle.page.specs.Call.{page_of, page_length, printing, after_page, page_part}
use Rattle.page.specs.Theorems.PrintedPage.{PrintedPage, Plain, read_from}
use Rattle.page.proofs.Fields.{length_number, length_field, length_line}
use Rattle.page.proofs.Pages.{length_page, lines_split, behind_part}
use Rattle.page.proofs.Printable.{all_at, front, plain_front, printable_lines}
use Rattle.page.proofs.IdFields.{read_number}

-- ---- a line

module _ (name : ℕ → Option (List ℕ)) (id : ℕ) where
  length_front : length (front name id) ≡ 44
  length_front =
      omega (
        arith,
        length-append (id_field id ++ (32 ∷ [])) (name_field (name id)),
        length-append (id_field id) (32 ∷ []),
        length_number id,
        length_field (name id),
      )

  line_ends : get_or (line name id) 44 0 ≡ 10
  unfolding line
  line_ends = get_or_at (front name id) 10 [] 0 44 length_front

  line_plain : (i : ℕ) → i < 44 → Plain (get_or (line name id) i 0)
  unfolding line
  line_plain i h =
      let k : i < length (front name id) = omega (arith, length_front) in
      subst Plain (sym (get_or-append (front name id) (10 ∷ []) 0 i k)) (all_at Plain (front name id) i (plain_front name id) k)

  number_reads : id < 10 ^ 10 → read_from 0 (take 10 (line name id)) ≡ id
  unfolding line
  number_reads h =
      let rest = name_field (name id) ++ (10 ∷ []) in
      let split : line name id ≡ id_field id ++ (32 ∷ [] ++ rest) = simp append_assoc in
      ap (λ (l : List ℕ). read_from 0 (take 10 l)) split
      ∙ ap (read_from 0) (take_at (id_field id) (32 ∷ [] ++ rest) 10 (length_number id))
      ∙ read_number id h

-- a line is fixed by the id and its name
same_line : (f g : ℕ → Option (List ℕ)) (id : ℕ) → f id ≡ g id → line f id ≡ line g id
unfolding line
same_line f g id e = ap (λ (o : Option (List ℕ)). id_field id ++ (32 ∷ []) ++ name_field o ++ (10 ∷ [])) e

-- ---- the page

page_length_lem : (image : List ℕ) → length (page_of image) ≡ page_length image
unfolding page_of
page_length_lem image = length_page (name_given image) (upper_hint image 0)

line_stands : (image : List ℕ) (id : ℕ) → id < upper_hint image 0 → take 45 (drop (45 * id) (page_of image)) ≡ line (name_given image) id
unfolding page_of page
line_stands image id h =
    let n = upper_hint image 0 in
    let f = line (name_given image) in
    let here = at_part f 45 (length_line (name_given image)) 0 (range 0 n) id 0 (at_whole (page_of image)) (omega (arith, length_range 0 n)) in
    let i : get_or (range 0 n) id 0 ≡ id = get_or_range 0 n id h ∙ zero-add id in
    let there : At (page_of image) (45 * id) (f id) = at_same (zero-add (45 * id)) (at_equal (ap f i) here) in
    ap (λ (k : ℕ). take k (drop (45 * id) (page_of image))) (sym (length_line (name_given image) id)) ∙ at_take there

page_printable : (image : List ℕ) (i : ℕ) → i < page_length image → Plain (get_or (page_of image) i 0) ⊎ (get_or (page_of image) i 0 ≡ 10)
unfolding page_of page
page_printable image i h =
    let k : i < length (page_of image) = omega (arith, page_length_lem image) in
    all_at (λ (b : ℕ). Plain b ⊎ (b ≡ 10)) (page_of image) i (printable_lines (name_given image) 0 (upper_hint image 0)) k

alike : (a b : List ℕ) → upper_hint a 0 ≡ upper_hint b 0 → ((id : ℕ) → id < upper_hint a 0 → name_given a id ≡ name_given b id)
    → page_of a ≡ page_of b
unfolding page_of page
alike a b e h =
    let f = line (name_given a) in
    let g = line (name_given b) in
    cat_run f g 0 (upper_hint a 0) (λ i k. same_line (name_given a) (name_given b) (0 + i) (h (0 + i) (omega arith))) ∙ ap (λ (n : ℕ). cat g (range 0 n)) e

-- ---- the page in parts

whole : (image : List ℕ) (count : ℕ) → upper_hint image 0 ≤ count → page_part image 0 count ≡ page_of image
unfolding page_part page_of
whole image count h =
    let e : min count (upper_hint image 0 - 0) ≡ upper_hint image 0 = omega arith in
    ap (lines (name_given image) 0) e

joined : (image : List ℕ) (first a b : ℕ) → page_part image first (a + b) ≡ page_part image first a ++ page_part image (first + a) b
unfolding page_part
joined image first a b =
    let size = upper_hint image 0 in
    let f = name_given image in
    let m = min a (size - first) in
    let k = min b (size - (first + a)) in
    let e : min (a + b) (size - first) ≡ m + k = omega arith in
    ap (lines f first) e ∙ lines_split f first m k ∙ ap (λ (l : List ℕ). lines f first m ++ l) (behind_part f (size - first) first a k (omega arith))

-- ---- the output

module _ (image out : List ℕ) where
  written : page_length image ≤ length out → after_page image out ≡ page_of image ++ drop (page_length image) out
  unfolding after_page page_of
  written h = ap (λ (t : Bool). cond t out (page_of image ++ drop (page_length image) out)) (le-ltb (length out) (page_length image) h)

  in_front : page_length image ≤ length out → take (page_length image) (after_page image out) ≡ page_of image
  in_front h = ap (take (page_length image)) (written h) ∙ take_at (page_of image) (drop (page_length image) out) (page_length image) (page_length_lem image)

  behind : page_length image ≤ length out → drop (page_length image) (after_page image out) ≡ drop (page_length image) out
  behind h = ap (drop (page_length image)) (written h) ∙ drop_at (page_of image) (drop (page_length image) out) (page_length image) (page_length_lem image)

  unwritten : printing image (length out) ≡ refusal 12 → after_page image out ≡ out
  unfolding printing after_page page_of
  unwritten e =
      let size = page_length image in
      let refused = chose_first (ltb (length out) size) (refusal 12) (value size) (refusal 12) (λ z. no_value 12 size (sym z)) e in
      ap (λ (t : Bool). cond t out (page_of image ++ drop size out)) refused.0

pub printed_page : PrintedPage
printed_page =
    record {
      line_length = length_line;
      line_ends = line_ends;
      line_plain = line_plain;
      number_reads = number_reads;
      page_length_lem = page_length_lem;
      line_stands = line_stands;
      page_printable = page_printable;
      whole = whole;
      joined = joined;
      alike = alike;
      in_front = in_front;
      behind = behind;
      unwritten = unwritten;
    }

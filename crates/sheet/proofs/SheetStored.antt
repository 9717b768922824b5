-- Writing: what is given by the four tests, the buffer afterwards, and runs of stores. Assumes nothing.
use Prim.Native.Nat.{ℕ, suc, ◌+◌, ◌*◌, ◌/◌, ◌%◌, ◌≤◌, ◌<◌, max}
use native.Mathlib.Omega.{arith}
use native.Mathlib.Decide.{dec_lt}
use native.Mathlib.Nat.{zero-add}
use native.Mathlib.Numerals.{towards_suc}
use mathlib.Core.Path.{◌≡◌, refl, sym, ap, ◌∙◌}
use mathlib.Core.Bool.{Bool, false, cond, ◌||◌}
use mathlib.Core.List.{List, ◌∷◌, ◌++◌}
use borrow.Author.Tests.{lt-ltb, le-ltb}
use lib.Dec.{ltb}
use lib.ListN.{length, get_or, set, take, drop, drop_of_length-le, length-append}
use lib.Seq.{sets, sets-eq, drop-cons, take-append_seam}
use Rattle.image.specs.Bytes.{le32, cat}
use Rattle.image.proofs.Words.{length_le32}
use Rattle.image.proofs.Stores.{sets_then}
use Rattle.jhash.specs.Outcome.{Outcome, value, refusal}
use Rattle.jhash.proofs.ValueOrRefusal.{no_value, same_value}
use Rattle.image.proofs.Bools.{chose_second}
use Rattle.sheet.specs.Format.{count_bytes, id_bytes, section_bytes, Lists, sheet_bytes}
use Rattle.sheet.specs.SheetWriting.{passes, too_long, writing, left_by_writer, after_writing}
use Rattle.sheet.specs.Theorems.RoundSheet.{Fits}
use Rattle.sheet.proofs.CountsAndIds.{length-count_bytes}
use Rattle.sheet.proofs.Sections.{length_section}

-- ---- the answer

-- one of two passes a bound where the larger does
or_max : (k a b : ℕ) → (ltb k a || ltb k b) ≡ ltb k (max a b)
or_max k a b =
    elim (dec_lt k a) [
      | yes h ↦ ap (λ (t : Bool). t || ltb k b) (lt-ltb k a h) ∙ sym (lt-ltb k (max a b) (omega arith))
      | no h ↦ ap (λ (t : Bool). t || ltb k b) (le-ltb k a (omega arith)) ∙ second h
    ]
  where
    second : ¬ (k < a) → ltb k b ≡ ltb k (max a b)
    second h =
        elim (dec_lt k b) [
          | yes l ↦ lt-ltb k b l ∙ sym (lt-ltb k (max a b) (omega arith))
          | no l ↦ le-ltb k b (omega arith) ∙ sym (le-ltb k (max a b) (omega arith))
        ]

-- how many ids the longest list has
abbrev pub most : Lists → ℕ
most l = max (max (length l.references) (length l.walls)) (length l.retired)

too_long_lem : (l : Lists) → too_long l ≡ ltb 65535 (most l)
too_long_lem l =
    ap (λ (t : Bool). t || passes l.retired) (or_max 65535 (length l.references) (length l.walls))
    ∙ or_max 65535 (max (length l.references) (length l.walls)) (length l.retired)

module _ (room : ℕ) (l : Lists) where
  -- by two tests: the longest list's, and the buffer's
  pub writing_by : (a b : Bool) → ltb 65535 (most l) ≡ a → ltb room (length (sheet_bytes l)) ≡ b
      → cond (a || b) (refusal 21) (value (length (sheet_bytes l))) ≡ writing room l
  unfolding writing
  writing_by a b ea eb = sym (λ i. cond ((too_long_lem l ∙ ea) i || eb i) (refusal 21) (value (length (sheet_bytes l))))

  pub accepted : Fits l → length (sheet_bytes l) ≤ room → writing room l ≡ value (length (sheet_bytes l))
  accepted fits h =
      sym
      (writing_by false false
      (le-ltb 65535 (most l) (omega (arith, fits.references.count, fits.walls.count, fits.retired.count))) (le-ltb room (length (sheet_bytes l)) h))

  -- a length that was given is that of the file
  pub given_length : (n : ℕ) → writing room l ≡ value n → n ≡ length (sheet_bytes l)
  unfolding writing
  given_length n e =
      let size = length (sheet_bytes l) in
      sym (same_value size n (chose_second (too_long l || ltb room size) (refusal 21) (value size) (value n) (no_value 21 n) e).1)

module _ (buf : List ℕ) (l : Lists) where
  pub left : (o : Outcome ℕ) → o ≡ writing (length buf) l → left_by_writer buf l o ≡ after_writing buf l
  unfolding after_writing
  left o e = ap (left_by_writer buf l) e

  -- the buffer's first bytes are the file
  pub file_in : (n : ℕ) → writing (length buf) l ≡ value n → take n (after_writing buf l) ≡ sheet_bytes l
  file_in n e =
      ap (take n) (sym (left (value n) (sym e)))
      ∙ ap (λ (k : ℕ). take k (sheet_bytes l ++ drop n buf)) (given_length (length buf) l n e)
      ∙ take-append_seam (sheet_bytes l) (drop n buf)

-- ---- stores of ids, of a section and of the file

id_bytes_lem : (x : ℕ) (xs : List ℕ) → id_bytes (x ∷ xs) ≡ le32 x ++ id_bytes xs
unfolding id_bytes cat
id_bytes_lem x xs = refl

module _ (ids l : List ℕ) (at i : ℕ) where
  pub put_turn : i < length ids
      → sets (sets l (at + 4 * i) (le32 (get_or ids i 0))) (at + 4 * (i + 1)) (id_bytes (drop (i + 1) ids)) ≡ sets l (at + 4 * i) (id_bytes (drop i ids))
  put_turn h =
      let x = get_or ids i 0 in
      let e : at + 4 * (i + 1) ≡ at + 4 * i + length (le32 x) = omega (arith, length_le32 x) in
      let f : i + 1 ≡ suc i = omega arith in
      sets_then (le32 x) (id_bytes (drop (i + 1) ids)) l (at + 4 * i) (at + 4 * (i + 1)) e
      ∙ ap (λ (k : ℕ). sets l (at + 4 * i) (le32 x ++ id_bytes (drop k ids))) f
      ∙ ap (sets l (at + 4 * i)) (sym (ap id_bytes (drop-cons ids i 0 h) ∙ id_bytes_lem x (drop (suc i) ids)))

  pub put_end : length ids ≤ i → (o : ℕ) → sets l o (id_bytes (drop i ids)) ≡ l
  unfolding id_bytes cat
  put_end h o = ap (λ (r : List ℕ). sets l o (id_bytes r)) (drop_of_length-le ids {i = i} h)

pub put_count : (l : List ℕ) (at n : ℕ) → set (set l at (n % 256)) (at + 1) (n / 256 % 256) ≡ sets l at (count_bytes n)
unfolding count_bytes
put_count l at n = simp towards_suc

pub put_whole : (ids l : List ℕ) (at : ℕ) → sets (sets l at (count_bytes (length ids))) (at + 2) (id_bytes ids) ≡ sets l at (section_bytes ids)
unfolding section_bytes
put_whole ids l at =
    let e : at + 2 ≡ at + length (count_bytes (length ids)) = omega (arith, length-count_bytes (length ids)) in
    sets_then (count_bytes (length ids)) (id_bytes ids) l at (at + 2) e

-- the three sections one behind the other
pub put_three : (l : Lists) (buf : List ℕ) (o e : ℕ) → o ≡ 0 + 2 + 4 * length l.references → e ≡ o + 2 + 4 * length l.walls
    → length (sheet_bytes l) ≤ length buf
    → sets (sets (sets buf 0 (section_bytes l.references)) o (section_bytes l.walls)) e (section_bytes l.retired)
    ≡ sheet_bytes l ++ drop (length (sheet_bytes l)) buf
unfolding sheet_bytes
put_three l buf o e po pe h =
    let a = section_bytes l.references in
    let b = section_bytes l.walls in
    let c = section_bytes l.retired in
    let q : o ≡ 0 + length a = omega (arith, length_section l.references) in
    let r : e ≡ 0 + length (a ++ b) = omega (arith, length-append a b, length_section l.references, length_section l.walls) in
    ap (λ (s : List ℕ). sets s e c) (sets_then a b buf 0 o q)
    ∙ sets_then (a ++ b) c buf 0 e r
    ∙ sets-eq (a ++ b ++ c) buf 0 (omega arith)
    ∙ ap (λ (n : ℕ). a ++ b ++ c ++ drop n buf) (zero-add (length (a ++ b ++ c)))

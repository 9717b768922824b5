-- Bytes that are whole entries are the bytes of the entries that they are. Assumes nothing.
use Rattle.std.proofs.Common.{◌≡◌, ℕ, zero, suc, ◌+◌, ◌-◌, ◌^◌, ◌<◌, ◌≤◌, true, ◌&&◌, eqb, leb, List, [], ◌∷◌, ◌++◌, length, get_or, take, drop, sym, refl}
use Rattle.std.proofs.Common.{ap, ◌∙◌, append_assoc, arith, length-drop, take-append-drop, length-take, get_or-drop, drop-cons, get_or-take, drop-drop}
use Rattle.std.proofs.Common.{eqb-true, leb-true}
use native.Mathlib.Decide.{dec_lt}
use lib.ListN.{get_or-eq_default}
use Rattle.jhash.proofs.WordRead.{word_below}
pub use Rattle.jhash.specs.Word.{AllBytes}
use Rattle.image.specs.Bytes.{word, le32, cat}
use Rattle.image.specs.Image.{Entry, entry_bytes}
use Rattle.image.proofs.Words.{word_drop, le32_bytes}
use Rattle.image.proofs.Bools.{and_first, and_second}
use Rattle.image.proofs.AllOfList.{All}
use Rattle.image.specs.Stored.{first_entry, after_first, first_whole, whole, entries_in}

-- ---- bytes

pub bytes_drop : (n : ℕ) (l : List ℕ) → AllBytes l → AllBytes (drop n l)
bytes_drop n l h i = rw (get_or-drop n l i 0) (h (n + i))

pub bytes_take : (n : ℕ) (l : List ℕ) → AllBytes l → AllBytes (take n l)
bytes_take n l h i = taken_or_past (dec_lt i n)
  where
    taken_or_past : Dec (i < n) → get_or (take n l) i 0 < 256
    taken_or_past (yes k) = rw (get_or-take n l i 0 k) (h i)
    taken_or_past (no k) = rw (get_or-eq_default (take n l) 0 {n = i} (omega (arith, length-take n l))) (omega arith)

-- the word at the front, and what follows it
pub front_word : (l : List ℕ) → AllBytes l → 4 ≤ length l → l ≡ le32 (word l 0) ++ drop 4 l
unfolding word
front_word [] h k = absurd (omega arith)
front_word (a ∷ []) h k = absurd (omega arith)
front_word (a ∷ b ∷ []) h k = absurd (omega arith)
front_word (a ∷ b ∷ c ∷ []) h k = absurd (omega arith)
front_word (a ∷ b ∷ c ∷ d ∷ l) h k = ap (λ (r : List ℕ). r ++ l) (sym (le32_bytes a b c d (h 0) (h 1) (h 2) (h 3)))

-- ---- one entry

-- what it means that the entry at the front is whole
pub record WholeFirst (bytes : List ℕ) : Type 0 where
  pub words : 8 ≤ length bytes
  pub some : 1 ≤ word bytes 4
  pub inside : 8 + word bytes 4 ≤ length bytes
  pub ended : get_or bytes (7 + word bytes 4) 0 ≡ 0

pub whole_first : (bytes : List ℕ) → first_whole bytes ≡ true → WholeFirst bytes
whole_first bytes h =
    let a = leb 8 (length bytes) in
    let b = leb 1 (word bytes 4) in
    let c = leb (8 + word bytes 4) (length bytes) in
    let d = eqb (get_or bytes (7 + word bytes 4) 0) 0 in
    let abc = and_first (a && b && c) d h in
    let ab = and_first (a && b) c abc in
    record {
      words = leb-true 8 (length bytes) (and_first a b ab);
      some = leb-true 1 (word bytes 4) (and_second a b ab);
      inside = leb-true (8 + word bytes 4) (length bytes) (and_second (a && b) c abc);
      ended = eqb-true (get_or bytes (7 + word bytes 4) 0) 0 (and_second (a && b && c) d h);
    }

module _ (l : List ℕ) (bytes : AllBytes l) (w : WholeFirst l) where
  second_word : drop 4 l ≡ le32 (word l 4) ++ drop 8 l
  second_word =
      front_word (drop 4 l) (bytes_drop 4 l bytes) (omega (arith, length-drop 4 l, w.words))
      ∙ ap (λ (k : ℕ). le32 k ++ drop 4 (drop 4 l)) (word_drop l 4 0)
      ∙ ap (λ (r : List ℕ). le32 (word l 4) ++ r) (drop-drop 4 4 l)

  name_length : length (first_entry l).name + 1 ≡ word l 4
  name_length = omega (arith, length-take (word l 4 - 1) (drop 8 l), length-drop 8 l, w.some, w.inside)

  name_end : drop 8 l ≡ (first_entry l).name ++ (0 ∷ []) ++ after_first l
  name_end =
      let e : 8 + (word l 4 - 1) ≡ 7 + word l 4 = omega (arith, w.some) in
      let f : suc (7 + word l 4) ≡ 8 + word l 4 = omega arith in
      sym (take-append-drop (word l 4 - 1) (drop 8 l))
      ∙ ap (λ (r : List ℕ). (first_entry l).name ++ r)
      (drop-drop (word l 4 - 1) 8 l
      ∙ ap (λ (k : ℕ). drop k l) e
      ∙ drop-cons l (7 + word l 4) 0 (omega (arith, w.inside))
      ∙ ap (λ (k : ℕ). k ∷ drop (suc (7 + word l 4)) l) w.ended
      ∙ ap (λ (k : ℕ). 0 ∷ drop k l) f)
      ∙ sym (append_assoc (first_entry l).name (0 ∷ []) (after_first l))

  pub first_bytes : l ≡ entry_bytes (first_entry l) ++ after_first l
  unfolding entry_bytes
  first_bytes =
      front_word l bytes (omega (arith, w.words))
      ∙ ap (λ (r : List ℕ). le32 (word l 0) ++ r)
      (second_word
      ∙ ap (λ (k : ℕ). le32 k ++ drop 8 l) (sym name_length)
      ∙ ap (λ (r : List ℕ). le32 (length (first_entry l).name + 1) ++ r) name_end)
      ∙ regroup (le32 (word l 0)) (le32 (length (first_entry l).name + 1)) (first_entry l).name (0 ∷ []) (after_first l)
    where
      regroup : (a b c d e : List ℕ) → a ++ (b ++ (c ++ d ++ e)) ≡ a ++ b ++ c ++ d ++ e
      regroup a b c d e = simp append_assoc

-- ---- all entries

pub length-entries_in : (n : ℕ) (bytes : List ℕ) → length (entries_in n bytes) ≡ n
unfolding entries_in
length-entries_in zero bytes = refl
length-entries_in (suc n) bytes = ap suc (length-entries_in n (after_first bytes))

pub whole_bytes : (n : ℕ) (l : List ℕ) → AllBytes l → whole n l ≡ true → l ≡ cat entry_bytes (entries_in n l)
unfolding whole entries_in cat
whole_bytes zero [] bytes h = refl
whole_bytes zero (x ∷ l) bytes h = absurd (let z = eqb-true (length (x ∷ l)) 0 h in omega arith)
whole_bytes (suc n) l bytes h =
    first_bytes l bytes (whole_first l (and_first (first_whole l) (whole n (after_first l)) h))
    ∙ ap (λ (r : List ℕ). entry_bytes (first_entry l) ++ r)
    (whole_bytes n (after_first l) (bytes_drop (8 + word l 4) l bytes) (and_second (first_whole l) (whole n (after_first l)) h))

pub ids_words : (n : ℕ) (l : List ℕ) → AllBytes l → All (λ (e : Entry). e.id < 2 ^ 32) (entries_in n l)
unfolding entries_in
ids_words zero l bytes = tt
ids_words (suc n) l bytes = (word_below l 0 bytes, ids_words n (after_first l) (bytes_drop (8 + word l 4) l bytes))

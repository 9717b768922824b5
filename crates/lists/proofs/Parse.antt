-- Entries that were written are read back: the bytes of a list of entries are that number of whole entries, and these. Assumes nothing.
use Prim.Native.Nat.{ℕ, suc, ◌+◌, ◌-◌, ◌^◌, ◌<◌}
use native.Mathlib.Omega.{arith}
use mathlib.Core.Path.{◌≡◌, refl, sym, ap, ap₂, ◌∙◌}
use mathlib.Core.Bool.{Bool, true, ◌&&◌}
use mathlib.Core.List.{List, [], ◌∷◌, ◌++◌, append_assoc}
use lib.ListN.{length, get_or, take, drop, length-append}
use lib.Seq.{drop-drop, drop-append-add, take_at, get_or-drop, get_or-append_seam}
use borrow.Author.Tests.{le-leb, eq-eqb}
use Rattle.image.specs.Bytes.{word, le32, cat}
use Rattle.image.specs.Image.{Entry, entry_bytes}
use Rattle.image.proofs.Words.{word_le32, word_drop}
use Rattle.image.specs.Stored.{first_entry, after_first, first_whole, whole, entries_in}

-- an entry whose id and length word are words
pub record WordSized (e : Entry) : Type 0 where
  pub id_word : e.id < 2 ^ 32
  pub length_word : length e.name + 1 < 2 ^ 32

-- each of a list of entries is such
abbrev pub AllWordSized : List Entry → Type 0
AllWordSized [] = Unit {0}
AllWordSized (e ∷ es) = WordSized e × AllWordSized es

-- two words and what follows them
module _ (i k : ℕ) (tail : List ℕ) (hi : i < 2 ^ 32) (hk : k < 2 ^ 32) where
  first_word : word (le32 i ++ (le32 k ++ tail)) 0 ≡ i
  first_word = word_le32 i (le32 k ++ tail) hi

  after_eight : drop 8 (le32 i ++ (le32 k ++ tail)) ≡ tail
  unfolding le32
  after_eight = refl

  after_four : drop 4 (le32 i ++ (le32 k ++ tail)) ≡ le32 k ++ tail
  unfolding le32
  after_four = refl

  second_word : word (le32 i ++ (le32 k ++ tail)) 4 ≡ k
  second_word =
      sym (word_drop (le32 i ++ (le32 k ++ tail)) 4 0) ∙ ap (λ (l : List ℕ). word l 0) after_four ∙ word_le32 k tail hk

  eight_and : length (le32 i ++ (le32 k ++ tail)) ≡ 8 + length tail
  unfolding le32
  eight_and = omega arith

-- an entry at the front of some bytes
laid : (e : Entry) (rest : List ℕ) → entry_bytes e ++ rest ≡ le32 e.id ++ (le32 (length e.name + 1) ++ (e.name ++ (0 ∷ rest)))
unfolding entry_bytes
laid e rest = simp append_assoc

module _ (e : Entry) (rest : List ℕ) (ok : WordSized e) where
  laid_id : word (entry_bytes e ++ rest) 0 ≡ e.id
  laid_id = rw laid (first_word e.id (length e.name + 1) (e.name ++ (0 ∷ rest)) ok.id_word ok.length_word)

  laid_length : word (entry_bytes e ++ rest) 4 ≡ length e.name + 1
  laid_length = rw laid (second_word e.id (length e.name + 1) (e.name ++ (0 ∷ rest)) ok.id_word ok.length_word)

  laid_rest : drop 8 (entry_bytes e ++ rest) ≡ e.name ++ (0 ∷ rest)
  laid_rest = rw laid (after_eight e.id (length e.name + 1) (e.name ++ (0 ∷ rest)) ok.id_word ok.length_word)

  laid_size : length (entry_bytes e ++ rest) ≡ 8 + (length e.name + suc (length rest))
  laid_size =
      ap length (laid e rest)
      ∙ eight_and e.id (length e.name + 1) (e.name ++ (0 ∷ rest)) ok.id_word ok.length_word
      ∙ ap (λ (n : ℕ). 8 + n) (length-append e.name (0 ∷ rest))

  pub first_entry_lem : first_entry (entry_bytes e ++ rest) ≡ e
  first_entry_lem = λ i. record { name = name i; id = laid_id i }
    where
      name : take (word (entry_bytes e ++ rest) 4 - 1) (drop 8 (entry_bytes e ++ rest)) ≡ e.name
      name =
          ap₂ take (ap (λ (n : ℕ). n - 1) laid_length) laid_rest
          ∙ take_at e.name (0 ∷ rest) (length e.name + 1 - 1) (omega arith)

  pub after_first_lem : after_first (entry_bytes e ++ rest) ≡ rest
  after_first_lem =
      sym (drop-drop (word (entry_bytes e ++ rest) 4) 8 (entry_bytes e ++ rest))
      ∙ ap₂ drop laid_length laid_rest
      ∙ drop-append-add e.name (0 ∷ rest) 1

  last_byte : get_or (entry_bytes e ++ rest) (7 + word (entry_bytes e ++ rest) 4) 0 ≡ 0
  last_byte =
      let place : 7 + word (entry_bytes e ++ rest) 4 ≡ 8 + length e.name = omega (arith, laid_length) in
      ap (λ (i : ℕ). get_or (entry_bytes e ++ rest) i 0) place
      ∙ sym (get_or-drop 8 (entry_bytes e ++ rest) (length e.name) 0)
      ∙ ap (λ (l : List ℕ). get_or l (length e.name) 0) laid_rest
      ∙ get_or-append_seam e.name 0 rest 0

  pub first_whole_lem : first_whole (entry_bytes e ++ rest) ≡ true
  first_whole_lem =
      let head = le-leb 8 (length (entry_bytes e ++ rest)) (omega (arith, laid_size)) in
      let named = le-leb 1 (word (entry_bytes e ++ rest) 4) (omega (arith, laid_length)) in
      let inside = le-leb (8 + word (entry_bytes e ++ rest) 4) (length (entry_bytes e ++ rest)) (omega (arith, laid_size, laid_length)) in
      simp (head, named, inside, eq-eqb (get_or (entry_bytes e ++ rest) (7 + word (entry_bytes e ++ rest) 4) 0) 0 last_byte)

-- what was written is read back
pub parsed : (es : List Entry) → AllWordSized es → entries_in (length es) (cat entry_bytes es) ≡ es
unfolding entries_in cat
parsed [] ok = refl
parsed (e ∷ es) ok =
    ap₂ {C = List Entry} (λ (x : Entry) (xs : List Entry). x ∷ xs) (first_entry_lem e (cat entry_bytes es) ok.0)
    (ap (entries_in (length es)) (after_first_lem e (cat entry_bytes es) ok.0) ∙ parsed es ok.1)

pub parsed_whole : (es : List Entry) → AllWordSized es → whole (length es) (cat entry_bytes es) ≡ true
unfolding whole cat
parsed_whole [] ok = refl
parsed_whole (e ∷ es) ok =
    ap₂ {C = Bool} (λ (x y : Bool). x && y) (first_whole_lem e (cat entry_bytes es) ok.0)
    (ap (whole (length es)) (after_first_lem e (cat entry_bytes es) ok.0) ∙ parsed_whole es ok.1)

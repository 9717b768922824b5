-- Parts that follow one another are their concatenation. Assumes nothing.
use mathlib.Core.Path.{◌≡◌, refl, sym, ap, ◌∙◌}
use mathlib.Core.List.{List, [], ◌∷◌, ◌++◌, append_assoc, append-nil}
use Prim.Native.Nat.{ℕ, zero, suc, ◌+◌, ◌*◌, ◌≤◌, ◌<◌}
use native.Mathlib.Omega.{arith}
use lib.ListN.{length, get_or, drop, length-append, length-drop}
use lib.Seq.{drop-append_seam, drop-drop}
use Rattle.image.specs.Bytes.{word, le32, cat, range}
use Rattle.image.proofs.EntryArea.{AllBytes, bytes_drop, front_word}
use Rattle.image.proofs.At.{At, at_same}
use Rattle.image.proofs.Words.{word_drop, length_le32}

pub at_nothing : (img : List ℕ) (o : ℕ) → At img o []
at_nothing img o = record { post = drop o img; stands = refl }

pub at_join : {img : List ℕ} {o p : ℕ} {xs ys : List ℕ} → At img o xs → o + length xs ≡ p → At img p ys → At img o (xs ++ ys)
at_join {img} {o} {p} {xs} {ys} a e b = record {
  post = b.post;
  stands =
      a.stands
      ∙ ap (λ (l : List ℕ). xs ++ l)
      (sym (drop-append_seam xs a.post) ∙ ap (drop (length xs)) (sym a.stands) ∙ drop-drop (length xs) o img ∙ ap (λ (k : ℕ). drop k img) e ∙ b.stands)
      ∙ sym (append_assoc xs ys b.post);
}

pub at_all : (img bs : List ℕ) → At img 0 bs → length img ≡ length bs → bs ≡ img
at_all img bs a e =
    sym (a.stands ∙ ap (λ (l : List ℕ). bs ++ l) (none a.post (omega (arith, ap length a.stands, length-append bs a.post))) ∙ append-nil bs)
  where
    none : (l : List ℕ) → length l ≡ 0 → l ≡ []
    none [] h = refl
    none (x ∷ l) h = absurd (omega arith)

-- parts one after the other, wherever each ends
pub at_cat : {img : List ℕ} (f : ℕ → List ℕ) (pos : ℕ → ℕ) → ((t : ℕ) → pos (suc t) ≡ pos t + length (f t)) → (s n : ℕ)
    → ((i : ℕ) → i < n → At img (pos (s + i)) (f (s + i))) → At img (pos s) (cat f (range s n))
unfolding cat range
at_cat {img} f pos grow s zero each = at_nothing img (pos s)
at_cat {img} f pos grow s (suc n) each =
    let z : s + 0 ≡ s = omega arith in
    at_join (rw z at (each 0 (omega arith))) (sym (grow s)) (at_cat f pos grow (suc s) n (λ i h. shift i (each (suc i) (omega arith))))
  where
    shift : (i : ℕ) → At img (pos (s + suc i)) (f (s + suc i)) → At img (pos (suc s + i)) (f (suc s + i))
    shift i a = let z : s + suc i ≡ suc s + i = omega arith in rw z at a

-- parts of one size
pub at_parts : {A : Type 0} {img : List ℕ} (f : A → List ℕ) (size : ℕ) → ((x : A) → length (f x) ≡ size) → (o : ℕ) (xs : List A) (d : A)
    → ((i : ℕ) → i < length xs → At img (o + size * i) (f (get_or xs i d))) → At img o (cat f xs)
unfolding cat
at_parts {A} {img} f size sized o [] d each = at_nothing img o
at_parts {A} {img} f size sized o (x ∷ xs) d each =
    let z : o + size * 0 ≡ o = omega arith in
    at_join (at_same z (each 0 (omega arith))) refl
    (at_parts f size sized (o + length (f x)) xs d (λ i h. at_same (shift (length (f x)) i (sized x)) (each (suc i) (omega arith))))
  where
    shift : (l i : ℕ) → l ≡ size → o + size * suc i ≡ o + l + size * i
    shift l i e = omega arith

-- ---- words

pub at_le32 : (img : List ℕ) (o w : ℕ) → AllBytes img → o + 4 ≤ length img → word img o ≡ w → At img o (le32 w)
at_le32 img o w bytes h e = record {
  post = drop 4 (drop o img);
  stands =
      let z : o + 0 ≡ o = omega arith in
      front_word (drop o img) (bytes_drop o img bytes) (omega (arith, length-drop o img))
      ∙ ap (λ (k : ℕ). le32 k ++ drop 4 (drop o img)) (word_drop img o 0 ∙ ap (word img) z ∙ e);
}

-- words one after the other
abbrev WordsAre : List ℕ → ℕ → List ℕ → Type 0
WordsAre img o [] = Unit {0}
WordsAre img o (w ∷ ws) = (word img o ≡ w) × WordsAre img (o + 4) ws

pub at_words : (img : List ℕ) (o : ℕ) (ws : List ℕ) → AllBytes img → o + 4 * length ws ≤ length img → WordsAre img o ws → At img o (cat le32 ws)
unfolding cat
at_words img o [] bytes h are = at_nothing img o
at_words img o (w ∷ ws) bytes h are =
    at_join (at_le32 img o w bytes (omega arith) are.0) (ap (λ (n : ℕ). o + n) (length_le32 w)) (at_words img (o + 4) ws bytes (omega arith) are.1)

-- One close in a list: it is accepted, its image is that of the accepted puts, and what it leaves is written. Assumes nothing.
use Prim.Native.Nat.{ℕ, ◌+◌, ◌-◌, ◌≤◌}
use native.Mathlib.Omega.{arith}
use mathlib.Core.Path.{◌≡◌, refl, sym, ap, ap₂, ◌∙◌}
use mathlib.Core.Bool.{Bool, true, false, cond, not, ◌&&◌, ◌||◌}
use mathlib.Core.List.{List, ◌++◌, append_assoc}
use lib.ListN.{length, take, drop, length-append, length-drop}
use lib.Seq.{drop_at, take_at}
use borrow.Author.Tests.{le-ltb}
use Rattle.image.specs.declared.Mode.{Mode}
use Rattle.image.specs.Bytes.{cat}
use Rattle.image.specs.Image.{Entry, head_size, entry_bytes, entries_size, entries_end, placed, back_size_of, image_size}
use Rattle.image.specs.Image.{head_words, table_rows, tables, back_words, image}
use Rattle.image.proofs.Sizes.{length_entries, length-head_words, length-table_rows, length_image}
use Rattle.writer.specs.declared.Repeats.{Repeats}
use Rattle.writer.specs.State.{State, fits, finished_size, too_large}
use Rattle.writer.specs.Close.{consistent, close_refusal, closed_size, closed, after_close}
use Rattle.lists.proofs.ListWritten.{Written}
use Rattle.lists.proofs.WrittenRecord.{written_fits, written_recorded, written_size, written_consistent}

-- ---- the entries in an image

-- what follows the head of an image, and of bytes that begin with one
image_split : (mode : Mode) (es : List Entry) (rest : List ℕ)
    → image mode es ++ rest
    ≡ (head_words mode es ++ table_rows (entries_end es) (placed head_size es))
    ++ (cat entry_bytes es ++ (tables (placed head_size es) ++ back_words (placed head_size es) (back_size_of mode es) ++ rest))
unfolding image
image_split mode es rest = simp append_assoc

head_length : (mode : Mode) (es : List Entry) → length (head_words mode es ++ table_rows (entries_end es) (placed head_size es)) ≡ head_size
head_length mode es =
    let both = length-append (head_words mode es) (table_rows (entries_end es) (placed head_size es)) in
    omega (arith, both, length-head_words mode es, length-table_rows (entries_end es) (placed head_size es))

pub area_in_image : (mode : Mode) (es : List Entry) (rest : List ℕ) → take (entries_size es) (drop head_size (image mode es ++ rest)) ≡ cat entry_bytes es
area_in_image mode es rest =
    let after : List ℕ = tables (placed head_size es) ++ back_words (placed head_size es) (back_size_of mode es) ++ rest in
    let head : List ℕ = head_words mode es ++ table_rows (entries_end es) (placed head_size es) in
    ap (λ (l : List ℕ). take (entries_size es) (drop head_size l)) (image_split mode es rest)
    ∙ ap (take (entries_size es)) (drop_at head (cat entry_bytes es ++ after) head_size (head_length mode es))
    ∙ take_at (cat entry_bytes es) after (entries_size es) (length_entries es)

-- ---- the decision

module _ (mode : Mode) (repeats : Repeats) (n : ℕ) (es : List Entry) (s : State) (w : Written mode repeats n es s) where
  size_right : too_large s.writer.length (finished_size s.writer) ≡ false
  size_right =
      ap₂ {C = Bool} (λ (x y : Bool). x || y)
      (le-ltb s.writer.length (finished_size s.writer) (omega (arith, written_size mode repeats n es s w, w.length_is, w.within)))
      (le-ltb 4294967295 (finished_size s.writer) (omega (arith, written_size mode repeats n es s w, w.below)))

  pub close_accepted : close_refusal s ≡ 0
  unfolding close_refusal
  close_accepted =
      decided (fits s) (consistent s) (too_large s.writer.length (finished_size s.writer)) (written_fits mode repeats n es s w)
      (written_consistent mode repeats n es s w) size_right
    where
      decided : (f c t : Bool) → f ≡ true → c ≡ true → t ≡ false → ◌≡◌ {A = ℕ} (cond (not f) 2 (cond (c && not t) 0 4)) 0
      decided f c t p q r = rw (p, q, r) refl

  -- ---- the effect

  pub close_closed : after_close s ≡ closed s
  unfolding after_close
  close_closed = rw close_accepted

  pub closed_buffer : (closed s).buffer ≡ image mode es ++ drop (image_size mode es) s.buffer
  unfolding closed
  closed_buffer =
      ap₂ (λ (l : List ℕ) (k : ℕ). l ++ drop k s.buffer) (ap₂ image w.mode_is (written_recorded mode repeats n es s w))
      (written_size mode repeats n es s w)

  -- the image is the buffer's first bytes, as many as the size that close gives
  pub close_image : take (closed_size s) (after_close s).buffer ≡ image mode es
  close_image =
      ap₂ take (written_size mode repeats n es s w) (ap (λ (r : State). r.buffer) close_closed ∙ closed_buffer)
      ∙ take_at (image mode es) (drop (image_size mode es) s.buffer) (image_size mode es) (length_image mode es)

  closed_length : length (closed s).buffer ≡ n
  closed_length =
      ap length closed_buffer
      ∙ length-append (image mode es) (drop (image_size mode es) s.buffer)
      ∙ sum (length (image mode es)) (length (drop (image_size mode es) s.buffer)) (image_size mode es) (length s.buffer)
      (length_image mode es) (length-drop (image_size mode es) s.buffer) w.length_kept w.within
    where
      sum : (a b k l : ℕ) → a ≡ k → b ≡ l - k → l ≡ n → k ≤ n → a + b ≡ n
      sum a b k l p q r h = omega arith

  closed_written : Written mode repeats n es (closed s)
  unfolding closed
  closed_written =
      record {
        mode_is = w.mode_is;
        repeats_is = w.repeats_is;
        length_is = w.length_is;
        length_kept = closed_length;
        end = w.end;
        entries = w.entries;
        back_size_lem = w.back_size_lem;
        tables = w.tables;
        counts = w.counts;
        area = ap (λ (l : List ℕ). take (entries_size es) (drop head_size l)) closed_buffer ∙ area_in_image mode es (drop (image_size mode es) s.buffer);
        within = w.within;
        below = w.below;
        ids = w.ids;
      }

  pub close_written : Written mode repeats n es (after_close s)
  close_written = rw close_closed closed_written

-- ---- closing twice

module _ (mode : Mode) (repeats : Repeats) (n : ℕ) (es : List Entry) (s : State) (w : Written mode repeats n es s) where
  closed_again : closed (closed s) ≡ closed s
  unfolding closed
  closed_again = λ i. record { writer = s.writer; counts = s.counts; buffer = buffers i }
    where
      buffers : (closed (closed s)).buffer ≡ (closed s).buffer
      buffers =
          closed_buffer mode repeats n es (closed s) (closed_written mode repeats n es s w)
          ∙ ap (λ (l : List ℕ). image mode es ++ drop (image_size mode es) l) (closed_buffer mode repeats n es s w)
          ∙ ap (λ (l : List ℕ). image mode es ++ l)
          (drop_at (image mode es) (drop (image_size mode es) s.buffer) (image_size mode es) (length_image mode es))
          ∙ sym (closed_buffer mode repeats n es s w)

  pub close_again : after_close (after_close s) ≡ after_close s
  close_again =
      ap after_close (close_closed mode repeats n es s w)
      ∙ close_closed mode repeats n es (closed s) (closed_written mode repeats n es s w)
      ∙ closed_again
      ∙ sym (close_closed mode repeats n es s w)

-- What a written record holds: it fits its buffer, its entries are the accepted puts, and it passes close's checks. Assumes nothing.
use Prim.Native.Nat.{ℕ, ◌+◌, ◌-◌, ◌^◌, ◌≤◌, ◌<◌}
use native.Mathlib.Omega.{arith}
use mathlib.Core.Path.{◌≡◌, sym, ap, ap₂, ◌∙◌}
use mathlib.Core.Bool.{true}
use mathlib.Core.List.{List, [], ◌∷◌}
use lib.ListN.{length, get_or, take, drop}
use lib.Dec.{eqb, leb}
use borrow.Author.Tests.{eq-eqb, le-leb}
use Rattle.image.specs.declared.Mode.{Mode}
use Rattle.image.specs.Bytes.{cat}
use Rattle.image.specs.Image.{Entry, head_size, entry_bytes, entries_size, placed, count, back_size, back_in, back_size_of, image_size}
use Rattle.image.specs.Stored.{whole, entries_in}
use Rattle.image.proofs.AllOfRange.{all_true}
use Rattle.image.proofs.Sizes.{length_placed, back_in_twice}
use Rattle.writer.specs.declared.Repeats.{Repeats}
use Rattle.writer.specs.State.{State, none_above, fits, counts_agree}
use Rattle.writer.specs.Close.{entry_area, recorded, consistent, closed_size}
use Rattle.lists.proofs.ListWritten.{Written}
use Rattle.lists.proofs.Parse.{AllWordSized, parsed, parsed_whole}
use Rattle.lists.proofs.Appended.{count_within}

-- ---- sizes below 2^32 leave words

all_wordly : (es : List Entry) → back_size es ≤ 2 ^ 32 → entries_size es < 2 ^ 32 → AllWordSized es
unfolding back_size entries_size
all_wordly [] b s = tt
all_wordly (e ∷ es) b s = (record { id_word = omega arith; length_word = omega arith }, all_wordly es (omega arith) (omega arith))

-- ---- a written record fits

module _ (mode : Mode) (repeats : Repeats) (n : ℕ) (es : List Entry) (s : State) (w : Written mode repeats n es s) where
  count_below : (k : ℕ) → k < 256 → get_or s.counts k 0 ≤ s.writer.entries
  count_below k h = omega (arith, w.counts k h, count_within k (placed head_size es), length_placed head_size es, w.entries)

  pub written_fits : fits s ≡ true
  unfolding fits
  written_fits =
      let none : none_above s.counts s.writer.entries ≡ true =
      all_true (λ (t : ℕ). leb (get_or s.counts t 0) s.writer.entries) 0 256
      (λ i h. le-leb (get_or s.counts (0 + i) 0) s.writer.entries (count_below (0 + i) (omega arith))) in
      let cap : s.writer.length ≡ length s.buffer = w.length_is ∙ sym w.length_kept in
      let low : head_size ≤ s.writer.end = omega (arith, w.end) in
      let high : s.writer.end ≤ s.writer.length = omega (arith, w.end, w.length_is, w.within) in
      simp
      (eq-eqb s.writer.length (length s.buffer) cap, le-leb head_size s.writer.end low, le-leb s.writer.end s.writer.length high, none)

-- ---- what is recorded

module _ (mode : Mode) (repeats : Repeats) (n : ℕ) (es : List Entry) (s : State) (w : Written mode repeats n es s) where
  pub written_area : entry_area s ≡ cat entry_bytes es
  written_area =
      let size : s.writer.end - head_size ≡ entries_size es = omega (arith, w.end) in
      ap (λ (k : ℕ). take k (drop head_size s.buffer)) size ∙ w.area

  words : AllWordSized es
  words = all_wordly es w.ids (omega (arith, w.below))

  pub written_whole : whole s.writer.entries (entry_area s) ≡ true
  written_whole = ap₂ whole w.entries written_area ∙ parsed_whole es words

  pub written_recorded : recorded s ≡ es
  written_recorded = ap₂ entries_in w.entries written_area ∙ parsed es words

  -- the size that close gives
  pub written_size : closed_size s ≡ image_size mode es
  written_size =
      let b : back_in s.writer.mode s.writer.back ≡ back_size_of mode es =
      ap₂ back_in w.mode_is w.back_size_lem ∙ back_in_twice mode (back_size es) in
      omega (arith, b, w.end, w.entries)

  -- ---- the decision

  counts_right : counts_agree s.counts (recorded s) ≡ true
  counts_right =
      ap (λ (l : List Entry). counts_agree s.counts l) written_recorded
      ∙ all_true (λ (t : ℕ). eqb (get_or s.counts t 0) (count t (placed head_size es))) 0 256
      (λ i h. eq-eqb (get_or s.counts (0 + i) 0) (count (0 + i) (placed head_size es)) (w.counts (0 + i) (omega arith)))

  back_right : eqb s.writer.back (back_in s.writer.mode (back_size (recorded s))) ≡ true
  back_right =
      eq-eqb s.writer.back (back_in s.writer.mode (back_size (recorded s)))
      (w.back_size_lem ∙ sym (ap₂ (λ (f : Mode) (l : List Entry). back_in f (back_size l)) w.mode_is written_recorded))

  pub written_consistent : consistent s ≡ true
  written_consistent = simp (written_whole, counts_right, back_right)

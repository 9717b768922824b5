-- A put changes its own entry's bytes alone. An accepted close leaves the entries, and the bytes from the image's size on
-- (`specs/Theorems/Kept`). Assumes nothing.
use Prim.Native.Nat.{ℕ, suc, ◌+◌, ◌-◌, ◌≤◌, ◌<◌}
use native.Mathlib.Omega.{arith}
use mathlib.Core.Path.{◌≡◌, refl, sym, ap, ◌∙◌}
use mathlib.Core.List.{List, [], ◌∷◌, ◌++◌}
use lib.ListN.{length, get_or, take, drop, set, length-drop}
use lib.Seq.{sets, drop-set-lt, take-append-le, drop-append-le, drop_at}
use lib.Dec.{eqb}
use Rattle.image.specs.Bytes.{cat}
use Rattle.image.specs.Image.{Entry, head_size, entry_bytes, entry_size, entries_end, back_in, back_size, back_size_of, image}
use Rattle.image.specs.declared.Mode.{Mode}
use Rattle.image.proofs.Sizes.{length-entry_bytes, length_entries, length_image, back_in_twice}
use Rattle.image.proofs.At.{at_take}
use Rattle.image.proofs.Parts.{entries_at}
use Rattle.writer.specs.State.{State}
use Rattle.writer.specs.Put.{put_refusal, appended, after_put}
use Rattle.writer.specs.Close.{entry_area, recorded, close_refusal, closed_size, closed, after_close}
use Rattle.writer.specs.Theorems.Kept.{Kept}
use Rattle.image.proofs.Between.{take_sets}
use Rattle.serialize.proofs.WrittenImage.{area_kept, stored_number, stored_end}
use Rattle.writer.proofs.Closes.{accepted}
use Rattle.writer.proofs.Accepted.{stands}
use Rattle.serialize.proofs.Choices.{cond_holds}

-- ---- runs of stores

drop_sets : (vs l : List ℕ) (n i : ℕ) → i + length vs ≤ n → drop n (sets l i vs) ≡ drop n l
drop_sets [] l n i h = refl
drop_sets (v ∷ vs) l n i h = drop_sets vs (set l i v) n (suc i) (omega arith) ∙ drop-set-lt n l i v (omega arith)

-- ---- put

module _ (s : State) (e : Entry) where
  by_decision : (P : State → Type 0) → P (appended s e) → P s → P (after_put s e)
  unfolding after_put
  by_decision P a b = cond_holds P (eqb (put_refusal s e) 0) a b

  -- whatever put answers, the head and every earlier entry stay as they were
  pub put_keeps : take s.writer.end (after_put s e).buffer ≡ take s.writer.end s.buffer
  unfolding appended
  put_keeps =
      by_decision (λ (t : State). take s.writer.end t.buffer ≡ take s.writer.end s.buffer)
      (take_sets (entry_bytes e) s.buffer s.writer.end s.writer.end (omega arith)) refl

  -- and so do the bytes behind the new one
  pub put_keeps_behind : drop (s.writer.end + entry_size e) (after_put s e).buffer ≡ drop (s.writer.end + entry_size e) s.buffer
  unfolding appended
  put_keeps_behind =
      by_decision (λ (t : State). drop (s.writer.end + entry_size e) t.buffer ≡ drop (s.writer.end + entry_size e) s.buffer)
      (drop_sets (entry_bytes e) s.buffer (s.writer.end + entry_size e) s.writer.end (omega (arith, length-entry_bytes e))) refl

-- ---- close

-- the entries in bytes that begin with an image
area_in_image : (s : State) (es : List Entry) (end : ℕ) (rest : List ℕ) → end ≡ entries_end es
    → take (end - head_size) (drop head_size (image s.writer.mode es ++ rest)) ≡ cat entry_bytes es
area_in_image s es end rest e =
    let mode = s.writer.mode in
    let n : end - head_size ≡ length (cat entry_bytes es) = omega (arith, length_entries es) in
    let at = entries_at mode es in
    let l : head_size ≤ length (image mode es) = omega (arith, length_image mode es) in
    ap (λ (k : ℕ). take k (drop head_size (image mode es ++ rest))) n
    ∙ ap (take (length (cat entry_bytes es))) (drop-append-le head_size (image mode es) rest l)
    ∙ take-append-le (length (cat entry_bytes es)) (drop head_size (image mode es)) rest (inside mode)
    ∙ at_take at
  where
    inside : (mode : Mode) → length (cat entry_bytes es) ≤ length (drop head_size (image mode es))
    inside mode = simp length-drop (omega (arith, length_image mode es, length_entries es))

module _ (s : State) (bytes : (i : ℕ) → get_or s.buffer i 0 < 256) (none_due : close_refusal s ≡ 0) where
  is_closed : after_close s ≡ closed s
  unfolding after_close
  is_closed = rw none_due

  -- the entries keep their content
  pub close_keeps : entry_area (after_close s) ≡ entry_area s
  unfolding closed
  close_keeps =
      let w = s.writer in
      let a = accepted s none_due in
      let k = stands w s.counts s.buffer a.fit a.fine a.all in
      let ends = stored_end w.end w.entries s.buffer bytes k.whole_entries k.after_head (omega (arith, k.fits_buffer)) in
      ap entry_area is_closed
      ∙ area_in_image s (recorded s) w.end (drop (closed_size s) s.buffer) ends
      ∙ sym (area_kept w.end w.entries s.buffer bytes k.whole_entries)

  -- the image has the size that close gives
  image_length : length (image s.writer.mode (recorded s)) ≡ closed_size s
  image_length =
      let w = s.writer in
      let es = recorded s in
      let a = accepted s none_due in
      let k = stands w s.counts s.buffer a.fit a.fine a.all in
      let ends = stored_end w.end w.entries s.buffer bytes k.whole_entries k.after_head (omega (arith, k.fits_buffer)) in
      let number = stored_number w.end w.entries s.buffer bytes k.whole_entries in
      let back : back_in w.mode w.back ≡ back_size_of w.mode es = ap (back_in w.mode) k.back_agrees ∙ back_in_twice w.mode (back_size es) in
      length_image w.mode es ∙ omega (arith, ends, number, back)

  -- so the bytes from there on keep their content
  pub close_keeps_behind : drop (closed_size s) (after_close s).buffer ≡ drop (closed_size s) s.buffer
  unfolding closed
  close_keeps_behind =
      ap (λ (t : State). drop (closed_size s) t.buffer) is_closed
      ∙ drop_at (image s.writer.mode (recorded s)) (drop (closed_size s) s.buffer) (closed_size s) image_length

-- ---- all of it

pub kept : Kept
kept = record {
  put_keeps = put_keeps;
  put_keeps_behind = put_keeps_behind;
  close_keeps = close_keeps;
  close_keeps_behind = close_keeps_behind;
}

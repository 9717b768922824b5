-- Head and rows written, the back array cleared, or the tables too: the image before any entry is partitioned or inserted. Assumes nothing.
use Rattle.std.proofs.Common.{◌≡◌, ℕ, ◌+◌, ◌-◌, ◌*◌, ◌≤◌, cond, eqb, List, [], ◌++◌, length, take, drop, replicate, sym, ap, ◌∙◌, append_assoc, append-nil}
use Rattle.std.proofs.Common.{arith, length-append, length-drop, drop-drop, take-add}
use lib.ListN.{length-replicate}
use lib.Seq.{sets, sets-eq}
use Rattle.image.specs.Image.{Entry, head_size, placed, flag_word, back_in, back_size, back_size_of, entries_end, image_size}
use Rattle.image.specs.Image.{back_offset, head_bytes, head_words, table_rows, back_words}
use Rattle.image.specs.declared.Mode.{Mode}
use Rattle.image.proofs.Sizes.{length_placed, length-head_words, length-table_rows, length-back_words, back_in_twice}
use Rattle.image.proofs.Stores.{sets_then, sets_right_at, sets_whole}
use Rattle.image.proofs.Parts.{placed_in}
use Rattle.serialize.specs.Record.{finished_of}
use Rattle.image.specs.Stored.{between}
use Rattle.serialize.specs.Steps.Written.{rows_from, back_offset_of, headed, zeroed, begun_image}
use Rattle.serialize.proofs.HeadRows.{Counts, rows_image}
use Rattle.serialize.proofs.PartialImage.{tables_with, up_to_entries, length_up_to_entries, partial, zeros_both, zeros_back_words}
use Rattle.serialize.proofs.InsertStep.{store_in}

-- ---- three stores: head, rows, and what follows the entries

stores : (buf h r z : List ℕ) (end size : ℕ) → length h ≡ 24 → length r ≡ 2048 → 2072 ≤ end → length z ≡ size - end → end ≤ size
    → size ≤ length buf
    → sets (sets (sets buf 0 h) 24 r) end z ≡ h ++ r ++ between buf 2072 end ++ z ++ drop size buf
stores buf h r z end size lh lr low lz high inside =
    let rest = drop 2072 buf in
    let both : length (h ++ r) ≡ 2072 = omega (arith, length-append h r) in
    let place : end ≡ length (h ++ r) + (end - 2072) = omega arith in
    let over : 2072 + (end - 2072 + length z) ≡ size = omega arith in
    let front : sets (sets buf 0 h) 24 r ≡ h ++ r ++ rest =
    sets_then h r buf 0 24 (omega arith)
    ∙ sets-eq (h ++ r) buf 0 (omega arith)
    ∙ ap (λ (n : ℕ). h ++ r ++ drop (0 + n) buf) both in
    let behind : sets rest (end - 2072) z ≡ between buf 2072 end ++ z ++ drop size buf =
    sets-eq z rest (end - 2072) (omega (arith, length-drop 2072 buf))
    ∙ ap (λ (l : List ℕ). between buf 2072 end ++ z ++ l)
    (drop-drop (end - 2072 + length z) 2072 buf ∙ ap (λ (n : ℕ). drop n buf) over) in
    ap (λ (l : List ℕ). sets l end z) front
    ∙ sets_right_at z (h ++ r) rest (end - 2072) end place
    ∙ ap (λ (l : List ℕ). h ++ r ++ l) behind
    ∙ regroup (h ++ r) (between buf 2072 end) z (drop size buf)
  where
    regroup : (a b c d : List ℕ) → a ++ (b ++ c ++ d) ≡ a ++ b ++ c ++ d
    regroup a b c d = simp append_assoc

-- bytes in two partitions
between_parts : (buf : List ℕ) (a b c : ℕ) → a ≤ b → b ≤ c → between buf a c ≡ between buf a b ++ between buf b c
between_parts buf a b c h k =
    let sum : c - a ≡ b - a + (c - b) = omega arith in
    let place : a + (b - a) ≡ b = omega arith in
    ap (λ (n : ℕ). take n (drop a buf)) sum
    ∙ take-add (b - a) (c - b) (drop a buf)
    ∙ ap (λ (l : List ℕ). between buf a b ++ take (c - b) l) (drop-drop (b - a) a buf ∙ ap (λ (n : ℕ). drop n buf) place)

-- ---- numbers that say what the entries are

pub record Numbers (mode : Mode) (end entries back : ℕ) (counts buf : List ℕ) (es : List Entry) : Type 0 where
  pub ends : end ≡ entries_end es
  pub number : entries ≡ length es
  pub backs : back ≡ back_size_of mode es
  pub tallies : Counts counts (placed_in es)
  pub inside : finished_of mode end entries back ≤ length buf

module _ (mode : Mode) (end entries back : ℕ) (counts buf : List ℕ) (es : List Entry) (numbers : Numbers mode end entries back counts buf es) where
  abbrev size : ℕ
  size = finished_of mode end entries back

  pub back_is : back_in mode back ≡ back_size_of mode es
  back_is = ap (back_in mode) numbers.backs ∙ back_in_twice mode (back_size es)

  pub size_is : size ≡ image_size mode es
  size_is = omega (arith, back_is, numbers.ends, numbers.number)

  pub back_offset_is : back_offset_of mode end entries back ≡ back_offset mode es
  unfolding back_offset_of back_offset
  back_offset_is =
      let e : end + 16 * entries ≡ entries_end es + 16 * length es = omega (arith, numbers.ends, numbers.number) in
      ap (λ (n : ℕ). cond (eqb n 0) 0 (end + 16 * entries)) back_is
      ∙ ap (λ (o : ℕ). cond (eqb (back_size_of mode es) 0) 0 o) e

  head_is : head_bytes size (flag_word mode) (back_in mode back) (back_offset_of mode end entries back) ≡ head_words mode es
  unfolding head_words
  head_is =
      ap (λ (n : ℕ). head_bytes n (flag_word mode) (back_in mode back) (back_offset_of mode end entries back)) size_is
      ∙ ap (λ (n : ℕ). head_bytes (image_size mode es) (flag_word mode) n (back_offset_of mode end entries back)) back_is
      ∙ ap (head_bytes (image_size mode es) (flag_word mode) (back_size_of mode es)) back_offset_is

  rows_are : rows_from counts end 0 256 ≡ table_rows (entries_end es) (placed_in es)
  rows_are = ap (λ (o : ℕ). rows_from counts o 0 256) numbers.ends ∙ rows_image counts (entries_end es) (placed_in es) numbers.tallies

  zeros_back : replicate (size - (end + 16 * entries)) 0 ≡ back_words [] (back_size_of mode es)
  zeros_back =
      let n = back_size_of mode es in
      let long : size - (end + 16 * entries) ≡ length (back_words [] n) = omega (arith, back_is, length-back_words [] n) in
      ap (λ (k : ℕ). replicate k 0) long ∙ sym (zeros_back_words n)

  -- head and rows written, the back array cleared: what stands in the place of the entries and of the tables is whatever stood there
  pub begun_is : begun_image mode end entries back counts buf
      ≡ head_words mode es ++ table_rows (entries_end es) (placed_in es) ++ between buf head_size end ++ between buf end (end + 16 * entries)
      ++ back_words [] (back_size_of mode es) ++ drop size buf
  unfolding begun_image zeroed headed
  begun_is =
      let from = end + 16 * entries in
      let z : List ℕ = replicate (size - from) 0 in
      let h = head_bytes size (flag_word mode) (back_in mode back) (back_offset_of mode end entries back) in
      let r = rows_from counts end 0 256 in
      let H = head_words mode es in
      let R = table_rows (entries_end es) (placed_in es) in
      let E = between buf head_size end in
      let X = between buf end from in
      let tail = drop size buf in
      stores buf h r z from size
      (ap length head_is ∙ length-head_words mode es)
      (ap length rows_are ∙ length-table_rows (entries_end es) (placed_in es))
      (omega (arith, numbers.ends)) (length-replicate {A = ℕ} (size - from) 0) (omega arith) numbers.inside
      ∙ ap (λ (l : List ℕ). l ++ r ++ between buf head_size from ++ z ++ tail) head_is
      ∙ ap (λ (l : List ℕ). H ++ l ++ between buf head_size from ++ z ++ tail) rows_are
      ∙ ap (λ (l : List ℕ). H ++ R ++ l ++ z ++ tail) (between_parts buf head_size end from (omega (arith, numbers.ends)) (omega arith))
      ∙ ap (λ (l : List ℕ). H ++ R ++ (E ++ X) ++ l ++ tail) zeros_back
      ∙ ap (λ (l : List ℕ). l ++ back_words [] (back_size_of mode es) ++ tail) (sym (append_assoc (H ++ R) E X))

-- ---- tables and back array cleared

pub cleared_partial : (mode : Mode) (es : List Entry) (R L tail : List ℕ) → length (R ++ L) ≡ 16 * length es + 4 * back_size_of mode es
    → zeroed (up_to_entries mode es ++ R ++ L ++ tail) (entries_end es) (image_size mode es) ≡ partial mode es [] ++ tail
unfolding zeroed partial placed
cleared_partial mode es R L tail long =
    let U = up_to_entries mode es in
    let n = image_size mode es - entries_end es in
    let z : List ℕ = replicate n 0 in
    let T = tables_with (placed_in es) [] in
    let W = back_words [] (back_size_of mode es) in
    let size : n ≡ 16 * length es + 4 * back_size_of mode es = omega arith in
    let same : length z ≡ length (R ++ L) = length-replicate {A = ℕ} n 0 ∙ size ∙ sym long in
    ap (λ (l : List ℕ). sets l (entries_end es) z) (ap (λ (l : List ℕ). l ++ tail) (append_assoc U R L))
    ∙ store_in U (R ++ L) tail z (entries_end es) 0 (omega (arith, length_up_to_entries mode es)) (omega (arith, same))
    ∙ ap (λ (l : List ℕ). U ++ l ++ tail) (ap (λ (l : List ℕ). sets l 0 z) (sym (append-nil (R ++ L))) ∙ sets_whole z (R ++ L) [] same ∙ append-nil z)
    ∙ ap (λ (l : List ℕ). U ++ l ++ tail) (zeros_both (placed_in es) (back_size_of mode es) n (omega (arith, length_placed head_size es)))
    ∙ ap (λ (l : List ℕ). l ++ tail) (sym (append_assoc U T W))

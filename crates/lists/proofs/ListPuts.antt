-- One put in a list: it is refused exactly when the size by 01's formula exceeds a limit, and what it leaves is written. Assumes nothing.
use Prim.Native.Nat.{ℕ, ◌+◌, ◌^◌, ◌≤◌, ◌<◌, max}
use native.Mathlib.Omega.{arith}
use native.Mathlib.Decide.{ℕ_discrete}
use mathlib.Core.Path.{◌≡◌, refl, sym, ap, ap₂, ◌∙◌}
use mathlib.Core.Logic.{◌⊎◌, inl, inr}
use mathlib.Core.Bool.{Bool, true, false, cond, not, ◌&&◌, ◌||◌}
use mathlib.Core.List.{List, [], ◌∷◌, ◌++◌, append_assoc, append-nil}
use lib.ListN.{length, get_or, take, drop, set, length-append, length-set, length-replicate, get_or-replicate}
use lib.Seq.{sets, length-sets, sets-eq, take-add, drop_at, take_at, length-take-le, get_or-set_same, get_or-set_other}
use lib.Dec.{eqb, ltb}
use borrow.Author.Tests.{eqb-true, ltb-false}
use Rattle.jhash.specs.NameHash.{hash_of}
use Rattle.image.specs.declared.Mode.{Mode}
use Rattle.image.specs.declared.Mode.TheVariants.{Twoway, Oneway}
use Rattle.image.specs.Bytes.{cat}
use Rattle.image.specs.Tables.{table_of}
use Rattle.image.specs.Image.{Entry, head_size, entry_bytes, entry_size, entries_size, placed, count, of_table, back_size, back_in, image_size, contains_name}
use Rattle.image.specs.Zero.{has_zero}
use Rattle.writer.specs.declared.Repeats.{Repeats}
use Rattle.writer.specs.declared.Repeats.TheVariants.{Off, On}
use Rattle.writer.specs.State.{State, refuses_repeats, fits, finished_size, too_large, fresh}
use Rattle.image.specs.Tally.{counts_after}
use Rattle.writer.specs.Put.{back_after, writer_after_entry, put_refusal, appended, after_put}
use Rattle.writer.specs.Close.{recorded, consistent}
use Rattle.lists.specs.Calls.{put, size_of, put_due, accepted_after, WordId}
use Rattle.lists.proofs.ListWritten.{Written}
use Rattle.image.proofs.Bools.{or_false_first, or_false_second, chose_second}
use Rattle.image.proofs.Lists.{cat_append}
use Rattle.image.proofs.Sizes.{length-entry_bytes, length_entries, back_in_twice}
use Rattle.lists.proofs.Appended.{entries_size-snoc, back_size-snoc, size_of_is, count_same, count_other}
use Rattle.lists.proofs.WrittenRecord.{written_fits, written_recorded, written_consistent}

-- ---- what the mode changes

back_after_is : (mode : Mode) (b : ℕ) (es : List Entry) (e : Entry) → b ≡ back_in mode (back_size es)
    → back_after mode b e.id ≡ back_in mode (back_size (es ++ (e ∷ [])))
back_after_is Twoway b es e h = ap (λ (k : ℕ). max k (e.id + 1)) h ∙ sym (back_size-snoc es e)
back_after_is Oneway b es e h = h

-- ---- the decision

module _ (mode : Mode) (repeats : Repeats) (n : ℕ) (es : List Entry) (s : State) (w : Written mode repeats n es s) (e : Entry) where
  back_then : back_after s.writer.mode s.writer.back e.id ≡ back_in mode (back_size (es ++ (e ∷ [])))
  back_then =
      ap (λ (f : Mode). back_after f s.writer.back e.id) w.mode_is ∙ back_after_is mode s.writer.back es e w.back_size_lem

  finished_then : finished_size (writer_after_entry s.writer e) ≡ size_of mode (es ++ (e ∷ []))
  unfolding writer_after_entry
  finished_then =
      let b : back_in s.writer.mode (back_after s.writer.mode s.writer.back e.id) ≡ back_in mode (back_size (es ++ (e ∷ []))) =
      ap₂ back_in w.mode_is back_then ∙ back_in_twice mode (back_size (es ++ (e ∷ []))) in
      omega (arith, b, w.end, w.entries, entries_size-snoc es e, length-append es (e ∷ []), size_of_is mode (es ++ (e ∷ [])))

  pub put_due_lem : put_refusal s e ≡ put_due mode repeats n es e
  unfolding put_refusal put_due
  put_due_lem =
      let zero = has_zero e.name in
      let held = contains_name e.name (recorded s) in
      let full = too_large s.writer.length (finished_size (writer_after_entry s.writer e)) in
      checked (fits s) zero (consistent s) held (refuses_repeats s.writer.repeats) full (written_fits mode repeats n es s w)
      (written_consistent mode repeats n es s w)
      ∙ ap (λ (l : List Entry). cond zero 13 (cond (contains_name e.name l && refuses_repeats s.writer.repeats) 16 (cond full 3 0)))
      (written_recorded mode repeats n es s w)
      ∙ ap (λ (r : Repeats). cond zero 13 (cond (contains_name e.name es && refuses_repeats r) 16 (cond full 3 0))) w.repeats_is
      ∙ ap₂ (λ (capacity size : ℕ). cond zero 13 (cond (contains_name e.name es && refuses_repeats repeats) 16 (cond (too_large capacity size) 3 0)))
      w.length_is finished_then
    where
      checked : (f z c h r t : Bool) → f ≡ true → c ≡ true
          → ◌≡◌ {A = ℕ} (cond (not f) 2 (cond z 13 (cond (not c && r) 4 (cond (h && r) 16 (cond t 3 0))))) (cond z 13 (cond (h && r) 16 (cond t 3 0)))
      checked f z c h r t p q = rw (p, q) refl

-- ---- the bytes

-- bytes stored where an area ends make it longer
stored_after : (o E : ℕ) (l area vs : List ℕ) → length area ≡ E → take E (drop o l) ≡ area → o + E + length vs ≤ length l
    → take (E + length vs) (drop o (sets l (o + E) vs)) ≡ area ++ vs
stored_after o E l area vs size stands capacity =
    let D : List ℕ = drop (o + E + length vs) l in
    let front : take (o + E) l ≡ take o l ++ area = take-add o E l ∙ ap (λ (m : List ℕ). take o l ++ m) stands in
    let now : sets l (o + E) vs ≡ take o l ++ ((area ++ vs) ++ D) =
    sets-eq vs l (o + E) capacity ∙ ap (λ (m : List ℕ). m ++ vs ++ D) front ∙ simp append_assoc in
    let cut : drop o (sets l (o + E) vs) ≡ (area ++ vs) ++ D =
    ap (drop o) now ∙ drop_at (take o l) ((area ++ vs) ++ D) o (length-take-le o l (omega arith)) in
    let whole : length (area ++ vs) ≡ E + length vs = omega (arith, length-append area vs) in
    ap (take (E + length vs)) cut ∙ take_at (area ++ vs) D (E + length vs) whole

-- ---- what is due

-- a put to which nothing is due has a name without a zero byte; with repeats off, a name that no accepted put before it has; and room: its size exceeds
-- neither limit
pub due_free : (mode : Mode) (repeats : Repeats) (n : ℕ) (es : List Entry) (e : Entry) → put_due mode repeats n es e ≡ 0 → has_zero e.name ≡ false
unfolding put_due
due_free mode repeats n es e due = (chose_second {A = ℕ} (has_zero e.name) 13 _ 0 (λ z. omega arith) due).0

pub due_new : (mode : Mode) (repeats : Repeats) (n : ℕ) (es : List Entry) (e : Entry) → put_due mode repeats n es e ≡ 0
    → (contains_name e.name es && refuses_repeats repeats) ≡ false
unfolding put_due
due_new mode repeats n es e due =
    let free = chose_second {A = ℕ} (has_zero e.name) 13 _ 0 (λ z. omega arith) due in
    (chose_second {A = ℕ} (contains_name e.name es && refuses_repeats repeats) 16 _ 0 (λ z. omega arith) free.1).0

pub due_room : (mode : Mode) (repeats : Repeats) (n : ℕ) (es : List Entry) (e : Entry) → put_due mode repeats n es e ≡ 0
    → (image_size mode (es ++ (e ∷ [])) ≤ n) × (image_size mode (es ++ (e ∷ [])) ≤ 4294967295)
unfolding put_due
due_room mode repeats n es e due =
    let size = size_of mode (es ++ (e ∷ [])) in
    let free = chose_second {A = ℕ} (has_zero e.name) 13 _ 0 (λ z. omega arith) due in
    let new = chose_second {A = ℕ} (contains_name e.name es && refuses_repeats repeats) 16 _ 0 (λ z. omega arith) free.1 in
    let fit = chose_second {A = ℕ} (ltb n size || ltb 4294967295 size) 3 0 0 (λ z. omega arith) new.1 in
    let in_Buffer = ltb-false n size (or_false_first (ltb n size) (ltb 4294967295 size) fit.0) in
    let in-word = ltb-false 4294967295 size (or_false_second (ltb n size) (ltb 4294967295 size) fit.0) in
    let is = size_of_is mode (es ++ (e ∷ [])) in
    (omega arith, omega arith)

-- what is accepted with repeats off is accepted with either choice
pub due_either : (mode : Mode) (n : ℕ) (es : List Entry) (e : Entry) → put_due mode Off n es e ≡ 0 → (repeats : Repeats) → put_due mode repeats n es e ≡ 0
unfolding put_due
due_either mode n es e due Off = due
due_either mode n es e due On = due_without_names (has_zero e.name) (contains_name e.name es) _ due
  where
    due_without_names : (z h : Bool) (rest : ℕ) → ◌≡◌ {A = ℕ} (cond z 13 (cond (h && true) 16 rest)) 0 → ◌≡◌ {A = ℕ} (cond z 13 (cond (h && false) 16 rest)) 0
    due_without_names true h rest d = d
    due_without_names false true rest d = absurd (omega arith)
    due_without_names false false rest d = d

-- it is 0, 13, 16 or 3
pub due_number : (mode : Mode) (repeats : Repeats) (n : ℕ) (es : List Entry) (e : Entry)
    → (put_due mode repeats n es e ≡ 0) ⊎ ((put_due mode repeats n es e ≡ 13) ⊎ ((put_due mode repeats n es e ≡ 16) ⊎ (put_due mode repeats n es e ≡ 3)))
unfolding put_due
due_number mode repeats n es e =
    due_by_tests (has_zero e.name) (contains_name e.name es && refuses_repeats repeats) (too_large n (size_of mode (es ++ (e ∷ []))))
  where
    Due : ℕ → Type 0
    Due k = (k ≡ 0) ⊎ ((k ≡ 13) ⊎ ((k ≡ 16) ⊎ (k ≡ 3)))

    due_by_tests : (z h b : Bool) → Due (cond z 13 (cond h 16 (cond b 3 0)))
    due_by_tests true h b = inr (inl refl)
    due_by_tests false true b = inr (inr (inl refl))
    due_by_tests false false true = inr (inr (inr refl))
    due_by_tests false false false = inl refl

-- ---- what an accepted put leaves

-- the ids stay words: in a two-way list by the size, in a one-way list by the premise
ids_then : (mode : Mode) (es : List Entry) (e : Entry) → WordId mode (put e) → back_size es ≤ 2 ^ 32 → image_size mode (es ++ (e ∷ [])) ≤ 4294967295
    → back_size (es ++ (e ∷ [])) ≤ 2 ^ 32
ids_then Twoway es e word h small = omega arith
ids_then Oneway es e word h small = omega (arith, back_size-snoc es e)

module _ (mode : Mode) (repeats : Repeats) (n : ℕ) (es : List Entry) (s : State) (w : Written mode repeats n es s) (e : Entry)
    (capacity : put_due mode repeats n es e ≡ 0) where
  within_then : image_size mode (es ++ (e ∷ [])) ≤ n
  within_then = (due_room mode repeats n es e capacity).0

  below_then : image_size mode (es ++ (e ∷ [])) ≤ 4294967295
  below_then = (due_room mode repeats n es e capacity).1

  -- the entries' area after appending is the old area and the entry's bytes
  pub area_then : take (entries_size es + entry_size e) (drop head_size (sets s.buffer s.writer.end (entry_bytes e))) ≡ cat entry_bytes es ++ entry_bytes e
  area_then =
      let fit : head_size + entries_size es + length (entry_bytes e) ≤ length s.buffer =
      omega (arith, within_then, entries_size-snoc es e, length-entry_bytes e, w.length_kept) in
      let size : entries_size es + entry_size e ≡ entries_size es + length (entry_bytes e) = omega (arith, length-entry_bytes e) in
      ap₂ (λ (k i : ℕ). take k (drop head_size (sets s.buffer i (entry_bytes e)))) size w.end
      ∙ stored_after head_size (entries_size es) s.buffer (cat entry_bytes es) (entry_bytes e) (length_entries es) w.area fit

  area_all : take (entries_size (es ++ (e ∷ []))) (drop head_size (sets s.buffer s.writer.end (entry_bytes e))) ≡ cat entry_bytes (es ++ (e ∷ []))
  unfolding cat
  area_all =
      ap (λ (k : ℕ). take k (drop head_size (sets s.buffer s.writer.end (entry_bytes e)))) (entries_size-snoc es e)
      ∙ area_then
      ∙ ap (λ (m : List ℕ). cat entry_bytes es ++ m) (sym (append-nil (entry_bytes e)))
      ∙ sym (cat_append entry_bytes es (e ∷ []))

  counts_then : (t : ℕ) → t < 256 → get_or (counts_after s.counts e) t 0 ≡ count t (placed head_size (es ++ (e ∷ [])))
  unfolding counts_after
  counts_then t h = by_its_table (ℕ_discrete (table_of (hash_of e.name)) t)
    where
      by_its_table : Dec (table_of (hash_of e.name) ≡ t) → get_or (counts_after s.counts e) t 0 ≡ count t (placed head_size (es ++ (e ∷ [])))
      by_its_table (yes p) =
          ap (λ (k : ℕ). get_or (set s.counts k (get_or s.counts k 0 + 1)) t 0) p
          ∙ get_or-set_same s.counts t (get_or s.counts t 0 + 1) 0 (omega (arith, w.tables))
          ∙ ap (λ (k : ℕ). k + 1) (w.counts t h)
          ∙ sym (count_same t head_size es e p)
      by_its_table (no q) =
          get_or-set_other s.counts (table_of (hash_of e.name)) t (get_or s.counts (table_of (hash_of e.name)) 0 + 1) 0 (λ r. q (sym r))
          ∙ w.counts t h
          ∙ sym (count_other t head_size es e q)

  tables_then : length (counts_after s.counts e) ≡ 256
  unfolding counts_after
  tables_then = length-set s.counts (table_of (hash_of e.name)) (get_or s.counts (table_of (hash_of e.name)) 0 + 1) ∙ w.tables

  pub appended_written : WordId mode (put e) → Written mode repeats n (es ++ (e ∷ [])) (appended s e)
  unfolding appended writer_after_entry
  appended_written word =
      record {
        mode_is = w.mode_is;
        repeats_is = w.repeats_is;
        length_is = w.length_is;
        length_kept = length-sets s.buffer s.writer.end (entry_bytes e) ∙ w.length_kept;
        end = omega (arith, w.end, entries_size-snoc es e);
        entries = omega (arith, w.entries, length-append es (e ∷ []));
        back_size_lem = back_then mode repeats n es s w e;
        tables = tables_then;
        counts = counts_then;
        area = area_all;
        within = within_then;
        below = below_then;
        ids = ids_then mode es e word w.ids below_then;
      }

-- ---- the put, accepted or refused

module _ (mode : Mode) (repeats : Repeats) (n : ℕ) (es : List Entry) (s : State) (w : Written mode repeats n es s) (e : Entry) where
  pub put_written : WordId mode (put e) → Written mode repeats n (accepted_after mode repeats n es (put e)) (after_put s e)
  unfolding after_put
  put_written word = written_by_due (eqb (put_due mode repeats n es e) 0) refl
    where
      due : put_refusal s e ≡ put_due mode repeats n es e
      due = put_due_lem mode repeats n es s w e

      written_by_due : (b : Bool) → eqb (put_due mode repeats n es e) 0 ≡ b
          → Written mode repeats n (es ++ cond b (e ∷ []) []) (cond (eqb (put_refusal s e) 0) (appended s e) s)
      written_by_due true d = rw (due, d) (appended_written mode repeats n es s w e (eqb-true (put_due mode repeats n es e) 0 d) word)
      written_by_due false d = rw (due, d, append-nil es) w

-- ---- a fresh record

pub fresh_written : (mode : Mode) (repeats : Repeats) (buffer : List ℕ) → head_size ≤ length buffer
    → Written mode repeats (length buffer) [] (fresh mode repeats buffer)
unfolding fresh entries_size placed of_table back_size cat Rattle.image.specs.Bytes.filter
fresh_written mode repeats buffer capacity =
    record {
      mode_is = refl;
      repeats_is = refl;
      length_is = refl;
      length_kept = refl;
      end = refl;
      entries = refl;
      back_size_lem = sym (no_back mode);
      tables = length-replicate {A = ℕ} 256 0;
      counts = λ t h. get_or-replicate 256 t 0 0 h;
      area = refl;
      within = omega (arith, no_back mode);
      below = omega (arith, no_back mode);
      ids = omega arith;
    }
  where
    no_back : (f : Mode) → back_in f 0 ≡ 0
    no_back Twoway = refl
    no_back Oneway = refl

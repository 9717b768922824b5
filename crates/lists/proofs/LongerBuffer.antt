-- A buffer that grows between calls: what the accepted puts leave in a longer buffer that has their entries already. Assumes nothing.
use Prim.Native.Nat.{ℕ, ◌+◌, ◌-◌, ◌≤◌}
use native.Mathlib.Omega.{arith}
use mathlib.Core.Path.{◌≡◌, refl, sym, ap, subst, ◌∙◌}
use mathlib.Core.List.{List, [], ◌∷◌, ◌++◌}
use lib.ListN.{length, take, drop, take-append-drop}
use lib.Seq.{sets, sets-eq, take-add, take-take, take_at, drop_at, drop-drop, ext_get_or}
use Rattle.image.specs.declared.Mode.{Mode}
use Rattle.image.specs.Bytes.{cat}
use Rattle.image.specs.Image.{Entry, head_size, entry_bytes, entries_size, entries_end}
use Rattle.image.proofs.Sizes.{length-entry_bytes}
use Rattle.writer.specs.declared.Repeats.{Repeats}
use Rattle.writer.specs.declared.CQDBWriter.{CQDBWriter}
use Rattle.writer.specs.State.{State, state_with, fresh}
use Rattle.writer.specs.Put.{put_refusal, appended}
use Rattle.writer.specs.Grown.{with_length}
use Rattle.writer.proofs.Puts.{accepted_leaves}
use Rattle.writer.proofs.Longer.{longer_accepted}
use Rattle.lists.specs.Calls.{Call, after, accepted, WordIds, put_all}
use Rattle.lists.specs.Demand3.{after_list, accepted_puts}
use Rattle.lists.specs.Theorems.LongerBuffer.{moved_to, Longer, GrownList, LongerBuffer}
use Rattle.lists.proofs.ListWritten.{Written}
use Rattle.lists.proofs.Appended.{entries_size-snoc}
use Rattle.lists.proofs.WrittenRecord.{written_area}
use Rattle.lists.proofs.ListPuts.{put_due_lem, due_room, appended_written, fresh_written}
use Rattle.lists.proofs.CallLists.{after_append, list_accepted, list_written}
use Rattle.lists.proofs.PutsAgain.{Again, again, again_accepted, again_there, due_longer, words_again}

-- ---- bytes that stand already

-- stored again, they change nothing
stored_same : (l vs : List ℕ) (i : ℕ) → i + length vs ≤ length l → take (length vs) (drop i l) ≡ vs → sets l i vs ≡ l
stored_same l vs i room stands =
    let rest : List ℕ = drop (i + length vs) l in
    sets-eq vs l i room
    ∙ ap (λ (m : List ℕ). take i l ++ m ++ rest) (sym stands)
    ∙ ap (λ (m : List ℕ). m ++ rest) (sym (take-add i (length vs) l))
    ∙ take-append-drop (i + length vs) l

-- the first of two parts, and the second behind it
front_stands : (l a b : List ℕ) (r : ℕ) → take (length a + r) l ≡ a ++ b → take (length a) l ≡ a
front_stands l a b r h = sym (take-take (length a) (length a + r) l (omega arith)) ∙ ap (take (length a)) h ∙ take_at a b (length a) refl

rest_stands : (l a b : List ℕ) (r : ℕ) → take (length a + r) l ≡ a ++ b → take r (drop (length a) l) ≡ b
rest_stands l a b r h =
    let k : ℕ = length a in
    sym (drop_at (take k l) (take r (drop k l)) k (ap length (front_stands l a b r h)))
    ∙ ap (drop k) (sym (take-add k r l) ∙ h)
    ∙ drop_at a b k refl

-- ---- puts of entries that stand already

module _ (mode : Mode) (repeats : Repeats) (n : ℕ) where
  module _ (es : List Entry) (s : State) (f : Entry) (fs : List Entry) (w : Written mode repeats n es s) (due : Again mode repeats n es (f ∷ fs))
      (stands : take (entries_size (f ∷ fs)) (drop (entries_end es) s.buffer) ≡ cat entry_bytes (f ∷ fs)) where
    abbrev parts : List ℕ
    parts = drop (entries_end es) s.buffer

    both : take (length (entry_bytes f) + entries_size fs) parts ≡ entry_bytes f ++ cat entry_bytes fs
    unfolding entries_size cat
    both =
        let size : length (entry_bytes f) + entries_size fs ≡ entries_size (f ∷ fs) = omega (arith, length-entry_bytes f) in
        ap (λ (k : ℕ). take k parts) size ∙ stands

    same_bytes : (appended s f).buffer ≡ s.buffer
    unfolding appended
    same_bytes =
        let fit : entries_end es + length (entry_bytes f) ≤ length s.buffer =
        omega (arith, (due_room mode repeats n es f due.0).0, entries_size-snoc es f, length-entry_bytes f, w.length_kept) in
        ap (λ (i : ℕ). sets s.buffer i (entry_bytes f)) w.end
        ∙ stored_same s.buffer (entry_bytes f) (entries_end es) fit (front_stands parts (entry_bytes f) (cat entry_bytes fs) (entries_size fs) both)

    later_stand : take (entries_size fs) (drop (entries_end (es ++ (f ∷ []))) (appended s f).buffer) ≡ cat entry_bytes fs
    later_stand =
        let end : entries_end (es ++ (f ∷ [])) ≡ entries_end es + length (entry_bytes f) = omega (arith, entries_size-snoc es f, length-entry_bytes f) in
        ap (λ (l : List ℕ). take (entries_size fs) (drop (entries_end (es ++ (f ∷ []))) l)) same_bytes
        ∙ ap (λ (k : ℕ). take (entries_size fs) (drop k s.buffer)) end
        ∙ ap (take (entries_size fs)) (sym (drop-drop (length (entry_bytes f)) (entries_end es) s.buffer))
        ∙ rest_stands parts (entry_bytes f) (cat entry_bytes fs) (entries_size fs) both

  pub puts_present : (es : List Entry) (s : State) (fs : List Entry) → Written mode repeats n es s → Again mode repeats n es fs → WordIds mode (put_all fs)
      → take (entries_size fs) (drop (entries_end es) s.buffer) ≡ cat entry_bytes fs → (after s (put_all fs)).buffer ≡ s.buffer
  unfolding after put_all
  puts_present es s [] w due word stands = refl
  puts_present es s (f ∷ fs) w due word stands =
      let none : put_refusal s f ≡ 0 = put_due_lem mode repeats n es s w f ∙ due.0 in
      let then = appended_written mode repeats n es s w f due.0 word.0 in
      ap (λ (t : State). (after t (put_all fs)).buffer) (sym (accepted_leaves s f none))
      ∙ puts_present (es ++ (f ∷ [])) (appended s f) fs then due.1 word.1 (later_stand es s f fs w due stands)
      ∙ same_bytes es s f fs w due stands

-- ---- one record for the same puts

module _ (mode : Mode) (repeats : Repeats) (n : ℕ) (es : List Entry) (s t : State) (w : Written mode repeats n es s) (v : Written mode repeats n es t) where
  same_writer : s.writer ≡ t.writer
  same_writer = λ i.
      record {
        mode = (w.mode_is ∙ sym v.mode_is) i;
        repeats = (w.repeats_is ∙ sym v.repeats_is) i;
        length = (w.length_is ∙ sym v.length_is) i;
        end = (w.end ∙ sym v.end) i;
        entries = (w.entries ∙ sym v.entries) i;
        back = (w.back_size_lem ∙ sym v.back_size_lem) i;
      }

  same_counts : s.counts ≡ t.counts
  same_counts =
      ext_get_or 0 s.counts t.counts (w.tables ∙ sym v.tables)
      (λ k h. w.counts k (omega (arith, w.tables)) ∙ sym (v.counts k (omega (arith, w.tables))))

  pub same_written : s.buffer ≡ t.buffer → s ≡ t
  same_written e = λ i. record { writer = same_writer i; counts = same_counts i; buffer = e i }

-- ---- the record in a longer buffer

module _ (mode : Mode) (repeats : Repeats) (n : ℕ) (es : List Entry) (s : State) (w : Written mode repeats n es s) (longer : List ℕ)
    (l : Longer longer s) where
  abbrev there : State
  there = state_with (with_length s.writer (length longer)) s.counts longer

  area_there : take (entries_size es) (drop head_size longer) ≡ cat entry_bytes es
  area_there =
      let size : entries_size es ≡ s.writer.end - head_size = omega (arith, w.end) in
      ap (λ (k : ℕ). take k (drop head_size longer)) size ∙ l.same_entries ∙ written_area mode repeats n es s w

  pub written_there : Written mode repeats (length longer) es there
  written_there =
      record {
        mode_is = w.mode_is;
        repeats_is = w.repeats_is;
        length_is = refl;
        length_kept = refl;
        end = w.end;
        entries = w.entries;
        back_size_lem = w.back_size_lem;
        tables = w.tables;
        counts = w.counts;
        area = area_there;
        within = omega (arith, w.within, w.length_is, l.long);
        below = w.below;
        ids = w.ids;
      }

-- ---- the theorem

module _ (mode : Mode) (repeats : Repeats) (buffer longer : List ℕ) (cs : List Call) (room : head_size ≤ length buffer) (word : WordIds mode cs)
    (l : Longer longer (after_list mode repeats buffer cs)) where
  abbrev es : List Entry
  es = accepted mode repeats (length buffer) cs

  abbrev s : State
  s = after_list mode repeats buffer cs

  abbrev m : ℕ
  m = length longer

  w : Written mode repeats (length buffer) es s
  w = list_written mode repeats buffer room cs word

  long : length buffer ≤ m
  long = omega (arith, w.length_is, l.long)

  room_there : head_size ≤ m
  room_there = omega (arith, long)

  words : WordIds mode (put_all es)
  words = words_again mode es w.ids

  again_longer : Again mode repeats m [] es
  again_longer =
      again_there mode repeats repeats (length buffer) m (due_longer mode repeats (length buffer) m long) [] es (again mode repeats (length buffer) cs)

  accepted_there : accepted mode repeats m (put_all es) ≡ es
  accepted_there = again_accepted mode repeats m es again_longer

  left_there : Written mode repeats m es (after_list mode repeats longer (put_all es))
  left_there =
      subst (λ (fs : List Entry). Written mode repeats m fs (after_list mode repeats longer (put_all es))) accepted_there
      (list_written mode repeats longer room_there (put_all es) words)

  bytes_there : (after_list mode repeats longer (put_all es)).buffer ≡ longer
  unfolding fresh entries_size
  bytes_there =
      puts_present mode repeats m [] (fresh mode repeats longer) es (fresh_written mode repeats longer room_there) again_longer words
      (area_there mode repeats (length buffer) es s w longer l)

  moved : moved_to longer s ≡ there mode repeats (length buffer) es s w longer l
  moved = ap (λ (x : CQDBWriter). state_with x s.counts longer) (sym (longer_accepted s.writer m l.long).1)

  state_there : moved_to longer s ≡ after_list mode repeats longer (put_all es)
  state_there =
      moved
      ∙ same_written mode repeats m es (there mode repeats (length buffer) es s w longer l) (after_list mode repeats longer (put_all es))
      (written_there mode repeats (length buffer) es s w longer l) left_there (sym bytes_there)

  pub grown_there : GrownList mode repeats buffer longer cs
  grown_there =
      let are = list_accepted mode repeats buffer room cs word in
      let same : moved_to longer s ≡ after_list mode repeats longer (put_all (accepted_puts mode repeats buffer cs)) =
      state_there ∙ ap (λ (fs : List Entry). after_list mode repeats longer (put_all fs)) (sym are) in
      record {
        taken = sym (longer_accepted s.writer m l.long).0;
        same_puts =
            ap (λ (fs : List Entry). accepted_puts mode repeats longer (put_all fs)) are
            ∙ list_accepted mode repeats longer room_there (put_all es) words
            ∙ accepted_there
            ∙ sym are;
        same_state = same;
        goes_on = λ more.
            ap (λ (t : State). after t more) same ∙ sym (after_append (fresh mode repeats longer) (put_all (accepted_puts mode repeats buffer cs)) more);
      }

pub longer_buffer : LongerBuffer
longer_buffer = record { grows = grown_there }

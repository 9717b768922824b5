-- Making an index: its refusals, and the slots entry by entry: after each they are those of the entries passed. Assumes nothing.
use Prim.Native.Nat.{ℕ, suc, ◌+◌, ◌*◌, ◌-◌, ◌≤◌, ◌<◌}
use native.Mathlib.Omega.{arith}
use mathlib.Core.Path.{◌≡◌, refl, sym, ap, subst, ◌∙◌}
use mathlib.Core.Bool.{Bool, true, ◌&&◌}
use mathlib.Core.List.{List, [], ◌∷◌, ◌++◌, append_assoc, append-nil}
use mathlib.Core.Logic.{inl, inr}
use borrow.Author.Tests.{eq-eqb, ne_eqb, lt-ltb, le-ltb}
use lib.ListN.{length, get_or, take, drop, length-append}
use lib.Dec.{eqb}
use Rattle.jhash.specs.NameHash.{hash_of}
use Rattle.image.specs.Tables.{Bucket, insert_all, filled}
use Rattle.image.specs.Image.{Entry, head_size, entry_size, entries_size, placed, back_in, back_size}
use Rattle.image.specs.Stored.{first_entry, after_first, whole, entries_in, between}
use Rattle.image.specs.Steps.EntryLength.{whole_length}
use Rattle.image.proofs.Between.{Front, front, not_whole, length_between}
use Rattle.image.proofs.Bools.{false_not_true, and_first}
use Rattle.image.proofs.Buckets.{get_or_empties}
use Rattle.image.proofs.EntryWalk.{whole_rest, first_name_lem, entries_rest}
use Rattle.image.proofs.Sizes.{entries_size-append}
use Rattle.lookup_laws.proofs.SlotSearch.{none_empty}
use Rattle.writer.specs.declared.CQDBWriter.{CQDBWriter}
use Rattle.writer.specs.State.{State, state_with, finished_size, counts_agree}
use Rattle.writer.specs.Close.{entry_area, recorded, close_refusal}
use Rattle.writer.proofs.Fits.{fitting, not_too_large}
use Rattle.writer.proofs.Closes.{accepted}
use Rattle.index.specs.Index.{slot_count, slot_at, slot_stored, slot_sequence, first_empty_slot, entry_buckets, FilledWith, Right, index_refusal}
use Rattle.index.specs.Probe.{probe_slots}
use Rattle.index.specs.Steps.Fill.{FillPre, SlotsFilled}
use Rattle.index.specs.Promise.{Indexed}
use Rattle.index.proofs.Probing.{Result, EmptyFound, result, never, never_matches}
use Rattle.index.proofs.Insert.{buckets_snoc, length_buckets, buckets_occupied, filled_stored, same_slot, length_stored, stored_other}

-- the loop's invariant: `left` entries are not yet passed, from offset `at` on
pub record Filling (buf : List ℕ) (end entries : ℕ) (words₀ : List ℕ) (at left : ℕ) (words : List ℕ) : Type 0 where
  pub inside : at ≤ end
  pub entire : whole left (between buf at end) ≡ true
  pub done : List Entry
  pub split : entries_in entries (between buf 2072 end) ≡ done ++ entries_in left (between buf at end)
  pub number : length done + left ≡ entries
  pub place : at ≡ head_size + entries_size done
  pub slots : FilledWith words (entry_buckets done)
  pub long : length words ≡ length words₀
  pub last : (i : ℕ) → 2 * slot_count words₀ ≤ i → get_or words i 0 ≡ get_or words₀ i 0

-- an entry that was read: the length of its name plus 1, its name and its hash
pub record EntryRead (buf : List ℕ) (at end n : ℕ) (name : List ℕ) (h : ℕ) : Type 0 where
  pub is : n ≡ whole_length (between buf at end)
  pub named : name ≡ take (n - 1) (drop (at + 8) buf)
  pub sized : length name ≡ n - 1
  pub hash : h ≡ hash_of name

module _ {buf : List ℕ} {end entries : ℕ} {words₀ : List ℕ} (pre : FillPre buf end entries words₀) where
  pub filling_start : {left : ℕ} → left ≡ entries → Filling buf end entries words₀ 2072 left words₀
  unfolding entries_size filled insert_all placed
  filling_start all =
      record {
        inside = pre.low;
        entire = ap (λ (q : ℕ). whole q (between buf 2072 end)) all ∙ pre.entire;
        done = [];
        split = sym (ap (λ (q : ℕ). entries_in q (between buf 2072 end)) all);
        number = omega (arith, all);
        place = omega arith;
        slots =
            record {
              each =
                  λ k h. same_slot (pre.cleared (2 * k) (omega arith)) (pre.cleared (2 * k + 1) (omega arith)) ∙ sym (get_or_empties (slot_count words₀) k);
            };
        long = refl;
        last = λ i h. refl;
      }

  module _ {at left : ℕ} {words : List ℕ} (f : Filling buf end entries words₀ at left words) (more : 0 < left) where
    l : left ≡ suc (left - 1)
    l = omega arith

    -- the entry is whole
    pub not_broken : whole_length (between buf at end) ≡ 0 → ⊥
    unfolding whole
    not_broken z =
        false_not_true
        (sym (ap (λ (b : Bool). b && whole (left - 1) (after_first (between buf at end))) (not_whole (between buf at end) (sym z)))
        ∙ sym (ap (λ (q : ℕ). whole q (between buf at end)) l)
        ∙ f.entire)

    -- a slot is empty, and the probe ends at the first one
    pub empty_slot : (k h : ℕ) → probe_slots words h never ≡ k → (k < slot_count words) × (k ≡ first_empty_slot words h)
    empty_slot k h e = let o = not_full (result words h never) in (omega (arith, e, o.below), sym e ∙ o.is)
      where
        fewer : length (entry_buckets f.done) < slot_count words
        fewer = omega (arith, pre.capacity, f.number, f.long, more, length_buckets f.done)

        not_full : Result words h never (slot_sequence words h) → EmptyFound words h never (slot_sequence words h)
        not_full (inl o) = absurd (false_not_true (sym (never_matches (slot_at words) h (slot_sequence words h)) ∙ o.matching))
        not_full (inr (inl o)) = o
        not_full (inr (inr o)) =
            absurd (omega (arith, fewer, none_empty f.slots (omega (arith, fewer)) (buckets_occupied f.done) h o.full))

    module _ {n : ℕ} {name : List ℕ} {h : ℕ} (x : EntryRead buf at end n name h) where
      fr : Front (between buf at end) n
      fr = front (between buf at end) n x.is (λ z. not_broken (sym x.is ∙ z))

      abbrev first : Entry
      first = first_entry (between buf at end)

      is_name_lem : (first_entry (between buf at end)).name ≡ name
      is_name_lem = first_name_lem buf at end n (left - 1) f.inside pre.inside fr ∙ sym x.named

      size_is : entry_size (first_entry (between buf at end)) ≡ 8 + n
      size_is = omega (arith, ap length is_name_lem, x.sized, fr.some)

      slots_more : {k : ℕ} → probe_slots words h never ≡ k
          → FilledWith (slot_stored words k h at) (entry_buckets (f.done ++ (first_entry (between buf at end) ∷ [])))
      slots_more {k} e =
          subst (FilledWith (slot_stored words k h at))
          (ap (λ (b : Bucket). entry_buckets f.done ++ (b ∷ [])) (same_slot (x.hash ∙ ap hash_of (sym is_name_lem)) f.place)
          ∙ sym (buckets_snoc f.done first))
          (filled_stored words f.slots (record { hash = h; at = at }) k (empty_slot k h e).0 (empty_slot k h e).1)

      turn : {k : ℕ} → probe_slots words h never ≡ k → Filling buf end entries words₀ (at + (8 + n)) (left - 1) (slot_stored words k h at)
      unfolding entries_size
      turn {k} e =
          record {
            inside = omega (arith, fr.inside, length_between buf at end f.inside pre.inside, f.inside);
            entire =
                sym (whole_rest buf at end n (left - 1) f.inside pre.inside fr)
                ∙ ap (λ (q : ℕ). whole q (between buf at end)) (sym l)
                ∙ f.entire;
            done = f.done ++ (first ∷ []);
            split =
                f.split
                ∙ ap (λ (es : List Entry). f.done ++ es)
                (ap (λ (q : ℕ). entries_in q (between buf at end)) l ∙ entries_rest buf at end n (left - 1) f.inside pre.inside fr)
                ∙ sym (append_assoc f.done (first ∷ []) (entries_in (left - 1) (between buf (at + (8 + n)) end)));
            number = omega (arith, f.number, length-append f.done (first ∷ []), more);
            place = omega (arith, f.place, entries_size-append f.done (first ∷ []), one_size, size_is);
            slots = slots_more e;
            long = length_stored words k h at ∙ f.long;
            last =
                λ i above. let below = (empty_slot k h e).0 in
                stored_other words k h at i (λ z. omega (arith, z, above, below, f.long)) (λ z. omega (arith, z, above, below, f.long))
                ∙ f.last i above;
          }
        where
          one_size : entries_size (first_entry (between buf at end) ∷ []) ≡ entry_size (first_entry (between buf at end)) + 0
          one_size = refl

      pub filling_turn : {k left' : ℕ} {words' : List ℕ} → probe_slots words h never ≡ k → left' ≡ left - 1 → words' ≡ slot_stored words k h at
          → Filling buf end entries words₀ (at + (8 + n)) left' words'
      filling_turn {k} {left'} e fewer to =
          subst (Filling buf end entries words₀ (at + (8 + n)) left') (sym to)
          (subst (λ (q : ℕ). Filling buf end entries words₀ (at + (8 + n)) q (slot_stored words k h at)) (sym fewer) (turn e))

  -- no entry is left
  pub filling_end : {at left : ℕ} {words : List ℕ} → Filling buf end entries words₀ at left words → left ≡ 0 → SlotsFilled buf end entries words₀ words
  unfolding entries_in
  filling_end {at} {left} {words} f z =
      record {
        slots =
            subst (λ (es : List Entry). FilledWith words (entry_buckets es))
            (sym (f.split ∙ ap (λ (q : ℕ). f.done ++ entries_in q (between buf at end)) z ∙ append-nil f.done)) f.slots;
        long = f.long;
        last = f.last;
      }

-- ---- the whole

module _ (s : State) (words : List ℕ) where
  -- a refusal leaves the words
  unchanged : {k : ℕ} → k ≡ index_refusal s words → (k ≡ 0 → ⊥) → Indexed s words k words
  unchanged is some = record { answer = is; refused = λ z. refl; right = λ z. absurd (some z); long = refl; last = λ i h. refl }

  pub index_refused : {r : ℕ} → r ≡ close_refusal s → (r ≡ 0 → ⊥) → Indexed s words r words
  unfolding index_refusal
  index_refused answer some = unchanged (rw (ne_eqb (close_refusal s) 0 (λ z. some (answer ∙ z))) answer) some

  module _ (closes : close_refusal s ≡ 0) where
    pub index_full : slot_count words < s.writer.entries → Indexed s words 24 words
    unfolding index_refusal
    index_full l = unchanged (rw (eq-eqb (close_refusal s) 0 closes, lt-ltb (slot_count words) s.writer.entries l) refl) (λ z. omega (arith, z))

    -- cleared, then filled with the entries
    module _ (cleared words' : List ℕ) (long : length cleared ≡ length words)
        (last : (i : ℕ) → 2 * slot_count words ≤ i → get_or cleared i 0 ≡ get_or words i 0)
        (fills : SlotsFilled s.buffer s.writer.end s.writer.entries cleared words') (room : s.writer.entries ≤ slot_count words) where
      is_made : 0 ≡ index_refusal s words
      unfolding index_refusal
      is_made = rw (eq-eqb (close_refusal s) 0 closes, le-ltb (slot_count words) s.writer.entries room) (sym closes)

      is_right : length s.counts ≡ 256 → Right s words'
      is_right tables = record { closes = closes; tables = tables; capacity = λ off. omega (arith, room, fills.long, long); slots = λ off. fills.slots }

      pub index_made : Indexed s words 0 words'
      index_made =
          record {
            answer = is_made;
            refused = λ n. absurd (n refl);
            right = λ z. is_right;
            long = fills.long ∙ long;
            last = λ i h. fills.last i (omega (arith, h, long)) ∙ last i h;
          }

-- what filling asks for
pub fillable : (w : CQDBWriter) (counts buf words : List ℕ) → close_refusal (state_with w counts buf) ≡ 0 → w.entries ≤ slot_count words
    → ((i : ℕ) → i < 2 * slot_count words → get_or words i 0 ≡ 0) → FillPre buf w.end w.entries words
fillable w counts buf words closes room cleared =
    let s = state_with w counts buf in
    let a = accepted s closes in
    let f = fitting w counts buf a.fit in
    record {
      low = f.low;
      inside = omega (arith, f.high, f.same_length);
      small = omega (arith, (not_too_large w.length (finished_size w) a.fine).1);
      entire =
          and_first (whole w.entries (entry_area s)) (counts_agree counts (recorded s))
          (and_first (whole w.entries (entry_area s) && counts_agree counts (recorded s)) (eqb w.back (back_in w.mode (back_size (recorded s)))) a.all);
      capacity = room;
      cleared = cleared;
    }

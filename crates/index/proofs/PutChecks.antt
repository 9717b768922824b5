-- What the checks of a put come to, for whatever is lent. Assumes nothing.
use Prim.Native.Nat.{ℕ, ◌+◌, ◌^◌, ◌≤◌, ◌<◌}
use native.Mathlib.Omega.{arith}
use native.Mathlib.Decide.{ℕ_discrete}
use mathlib.Core.Path.{◌≡◌, refl, sym, ap, ◌∙◌}
use mathlib.Core.Bool.{Bool, true, false, cond, not}
use mathlib.Core.List.{List}
use Rattle.std.specs.Prelude.{Option, Some, None, is_some, Ok}
use borrow.Author.Tests.{eq-eqb, ne_eqb, lt-ltb, le-ltb, ltb-false}
use lib.Dec.{eqb, ltb}
use lib.ListN.{length, take, get_or}
use Rattle.jhash.specs.NameHash.{hash_of}
use Rattle.image.specs.Image.{Entry}
use Rattle.image.specs.Tables.{table_of}
use Rattle.image.specs.Zero.{has_zero}
use Rattle.image.proofs.Bools.{false_not_true}
use Rattle.writer.specs.declared.CQDBWriter.{CQDBWriter}
use Rattle.writer.specs.State.{State, finished_size, too_large, in_buffer}
use Rattle.writer.specs.Put.{writer_after_put}
use Rattle.writer.specs.Steps.Storing.{AppendPre}
use Rattle.writer.proofs.Fits.{not_too_large, InBuffer, buffer_of}
use Rattle.writer.proofs.Closes.{accepted}
use Rattle.index.specs.Steps.Probed.{Probed, NameProbed}
use Rattle.index.specs.Index.{slot_count, seeks}
use Rattle.index.specs.Probe.{has_name_at}
use Rattle.index.specs.Refusals.{early_of, late_of, probed_for, refusal_after, refusal_by_slots, early_refusal, late_refusal}
use Rattle.index.specs.Steps.Decided.{SlotTaken, Decided}
use Rattle.index.proofs.Probing.{probe_first}

-- ---- what a check that is passed says

-- the checks before the search
pub record EarlyPassed (w : CQDBWriter) (buf name : List ℕ) : Type 0 where
  pub buffer : InBuffer w buf
  pub short : length name < 4294967295

pub early_passed : (w : CQDBWriter) (buf name : List ℕ) → early_refusal w buf name ≡ 0 → EarlyPassed w buf name
unfolding early_refusal
early_passed w buf name h = by_checks (in_buffer w buf) (has_zero name) (ltb 4294967294 (length name)) refl refl h
  where
    by_checks : (b z l : Bool) → in_buffer w buf ≡ b → ltb 4294967294 (length name) ≡ l → ◌≡◌ {A = ℕ} (cond (not b) 2 (cond z 13 (cond l 3 0))) 0
        → EarlyPassed w buf name
    by_checks true false false p q h = let long = ltb-false 4294967294 (length name) q in record { buffer = buffer_of w buf p; short = omega (arith, long) }
    by_checks true false true p q h = absurd (omega arith)
    by_checks true true l p q h = absurd (omega arith)
    by_checks false z l p q h = absurd (omega arith)

-- those after it
pub record LatePassed (w : CQDBWriter) (counts : List ℕ) (n id h : ℕ) : Type 0 where
  pub fine : too_large w.length (finished_size (writer_after_put w n id)) ≡ false
  pub count : get_or counts (table_of h) 0 < 4294967295

pub late_passed : (w : CQDBWriter) (counts : List ℕ) (n id h : ℕ) → late_refusal w counts n id h ≡ 0 → LatePassed w counts n id h
unfolding late_refusal
late_passed w counts n id h e =
    by_checks (too_large w.length (finished_size (writer_after_put w n id))) (ltb 4294967294 (get_or counts (table_of h) 0)) refl refl e
  where
    by_checks : (t c : Bool) → too_large w.length (finished_size (writer_after_put w n id)) ≡ t → ltb 4294967294 (get_or counts (table_of h) 0) ≡ c
        → ◌≡◌ {A = ℕ} (cond t 3 (cond c 2 0)) 0 → LatePassed w counts n id h
    by_checks false false p q e =
        let small = ltb-false 4294967294 (get_or counts (table_of h) 0) q in
        record { fine = p; count = omega (arith, small) }
    by_checks false true p q e = absurd (omega arith)
    by_checks true c p q e = absurd (omega arith)

-- an entry whose image has room has room
entry_room : (w : CQDBWriter) (n id len : ℕ) → w.length ≡ len → too_large w.length (finished_size (writer_after_put w n id)) ≡ false → w.end + (n + 9) ≤ len
unfolding writer_after_put
entry_room w n id len e t = omega (arith, e, (not_too_large w.length (finished_size (writer_after_put w n id)) t).0)

-- and its offset is a word
pub end_word : (w : CQDBWriter) (n id : ℕ) → finished_size (writer_after_put w n id) ≤ 4294967295 → w.end < 2 ^ 32
unfolding writer_after_put
end_word w n id l = omega arith

-- what passed all checks has room for its stores
pub append_pre : {s : State} {e : Entry} {h : ℕ} → EarlyPassed s.writer s.buffer e.name
    → LatePassed s.writer s.counts (length e.name) e.id h → h ≡ hash_of e.name → AppendPre s e h
append_pre {s} {e} early late hash =
    record {
      hash = hash;
      count = late.count;
      entry = entry_room s.writer (length e.name) e.id (length s.buffer) early.buffer.same_length late.fine;
      short = early.short;
      size = (not_too_large s.writer.length (finished_size (writer_after_put s.writer (length e.name) e.id)) late.fine).1;
    }

module _ (s : State) (words : List ℕ) (e : Entry) where
  abbrev k : ℕ
  k = probed_for s words e

  abbrev m : ℕ
  m = slot_count words

  abbrev late : ℕ
  late = late_of s e

  pub slots_early : (early_of s e ≡ 0 → ⊥) → early_of s e ≡ refusal_by_slots s words e
  unfolding refusal_by_slots
  slots_early some = rw (ne_eqb (early_of s e) 0 some) refl

  -- p is the number of the search, or that of the slots where no name is sought; r is the code's answer
  module _ (passed : early_of s e ≡ 0) {p : ℕ} (is : p ≡ cond (seeks s) (probed_for s words e) (slot_count words)) where
    behind : cond (ltb m p) 16 (cond (eqb late 0) (cond (eqb p m) (cond (seeks s) 24 0) 0) late) ≡ refusal_by_slots s words e
    unfolding refusal_by_slots
    behind = rw (eq-eqb (early_of s e) 0 passed) (by_choice (seeks s) is)
      where
        zero_or : Dec (late ≡ 0) → cond (eqb late 0) 0 late ≡ late
        zero_or (yes z) = rw (eq-eqb late 0 z) (sym z)
        zero_or (no z) = rw (ne_eqb late 0 z) refl

        by_choice : (b : Bool) → p ≡ cond b k m
            → cond (ltb m p) 16 (cond (eqb late 0) (cond (eqb p m) (cond b 24 0) 0) late) ≡ cond b (refusal_after s words e k) late
        by_choice true at = ap (refusal_after s words e) at
        by_choice false at = rw (le-ltb m p (omega (arith, at)), eq-eqb p m at) (zero_or (ℕ_discrete late 0))

    -- an entry has the name
    pub search_duplicate : {refusal : ℕ} → NameProbed (slot_count words) p refusal → refusal ≡ refusal_by_slots s words e
    search_duplicate met = met.number ∙ (rw (lt-ltb m p (omega (arith, met.is))) at behind)

    -- none has it
    new_name : (r : Option ℕ) → Probed (slot_count words) p (Ok r) → p ≤ slot_count words
    new_name None at = omega (arith, at)
    new_name (Some i) at = omega (arith, at.is, at.below)

    module _ (r : Option ℕ) (at : Probed (slot_count words) p (Ok r)) where
      pub search_late : (late_of s e ≡ 0 → ⊥) → late_of s e ≡ refusal_by_slots s words e
      search_late some = rw (le-ltb m p (new_name r at), ne_eqb late 0 some) at behind

      module _ (none : late_of s e ≡ 0) where
        number_is : cond (eqb p m) (cond (seeks s) 24 0) 0 ≡ refusal_by_slots s words e
        number_is = rw (le-ltb m p (new_name r at), eq-eqb late 0 none) at behind

    -- no slot is empty
    pub search_full : (r : Option ℕ) → Probed (slot_count words) p (Ok r) → is_some r ≡ false → late_of s e ≡ 0 → seeks s ≡ true
        → 24 ≡ refusal_by_slots s words e
    search_full None at empty none off = rw (eq-eqb p m at, off) at (number_is None at none)
    search_full (Some i) at empty none off = absurd (false_not_true (sym empty))

    -- a slot below their number is the first empty one, and is found by a search alone
    pub search_slot : {h : ℕ} (r : Option ℕ) → Probed (slot_count words) p (Ok r) → late_of s e ≡ 0 → AppendPre s e h
        → (seeks s ≡ true → is_some r ≡ true) → Decided s words e h (Ok r)
    search_slot None at none stores given =
        record {
          number = by_choice (seeks s) refl;
          bounds = record { taken = not_sought (seeks s) refl; stores = stores };
        }
      where
        not_sought : (b : Bool) → seeks s ≡ b → seeks s ≡ false
        not_sought true off = absurd (false_not_true (given off))
        not_sought false on = on

        by_choice : (b : Bool) → seeks s ≡ b → 0 ≡ refusal_by_slots s words e
        by_choice true off = absurd (false_not_true (given off))
        by_choice false on = rw (eq-eqb p m at, on) at (number_is None at none)
    search_slot {h} (Some i) at none stores given =
        record {
          number = rw (ne_eqb p m (λ z. omega (arith, z, at.is, at.below))) at (number_is (Some i) at none);
          bounds = record { taken = by_choice (seeks s) refl is; stores = stores };
        }
      where
        by_choice : (b : Bool) → seeks s ≡ b → p ≡ cond b k m → SlotTaken s words e i
        by_choice true off from =
            record {
              sought = off;
              inside = at.below;
              first = sym at.is
                  ∙ from
                  ∙ probe_first words (hash_of e.name) (has_name_at (take s.writer.end s.buffer) e.name) (omega (arith, from, at.is, at.below));
            }
        by_choice false on from = absurd (omega (arith, from, at.is, at.below))

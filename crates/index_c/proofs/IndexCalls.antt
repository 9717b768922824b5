-- The calls of the index as C has them: a mode or a choice of repeats above 1 changes nothing; with modes of 01's and 02's, what the
-- index's own calls promise. Assumes nothing.
use Prim.Native.Nat.{ℕ}
use native.Mathlib.Omega.{arith}
use mathlib.Core.Path.{◌≡◌, refl, sym, ap, subst, ◌∙◌}
use mathlib.Core.Bool.{Bool, true, false, cond}
use mathlib.Core.List.{List}
use lib.Dec.{eqb}
use borrow.Author.Tests.{eqb-true, eqb-false}
use Rattle.std.specs.Prelude.{Result, Ok, Err}
use Rattle.jhash.specs.declared.refusals.Refusal.{Refusal}
use Rattle.jhash.specs.declared.refusals.Refusal.TheVariants.{Unfit}
use Rattle.jhash.specs.Refusals.{number_of}
use Rattle.image.specs.Image.{Entry}
use Rattle.image.proofs.Bools.{false_not_true}
use Rattle.writer.specs.declared.CQDBWriter.{CQDBWriter}
use Rattle.writer.specs.State.{State, state_with}
use Rattle.writer.specs.Put.{writer_after_entry, appended}
use Rattle.writer.specs.Close.{after_close}
use Rattle.writer.specs.declared.c_record.Record.{Record}
use Rattle.writer.specs.Numbers.{valid_numbers}
use Rattle.writer.specs.CRecord.{writer_of, writer_read, record_of, CState, c_state, known_in, state_in, c_state_of}
use Rattle.writer.proofs.CRecords.{back_and_forth, forth_and_back, c_state_known, record_after, Stay, whole_stored}
use Rattle.lists.specs.Theorems.LongerBuffer.{moved_to}
use Rattle.index.specs.Index.{Right}
use Rattle.index.specs.Promise.{PutIndexed, Indexed}
use Rattle.index.proofs.RightKept.{kept_right}
use Rattle.index_c.specs.IndexC.{RightHeld, put_by_slots_number, put_indexed_number, left_by_put_indexed, PutIndexedHeld, index_number, IndexedHeld}
use Rattle.index_c.specs.Theorems.KeptRightHeld.{KeptRightHeld}

-- 01's state with a right index, as C has it
held_right : (s : State) (words : List ℕ) → Right s words → RightHeld (c_state_of s) words
held_right s words right =
    record {
      known = c_state_known s;
      index = subst (λ (t : State). Right t words) (sym (forth_and_back s)) right;
    }

-- ---- the record that is lent in place, read

read_unknown : (r : Record) {e : Refusal} → Err e ≡ writer_read r → (valid_numbers r.mode r.repeats ≡ false) × (number_of e ≡ 2)
read_unknown r {e} is = by_choice (valid_numbers r.mode r.repeats) refl is
  where
    by_choice : (b : Bool) → valid_numbers r.mode r.repeats ≡ b → ◌≡◌ {A = Result CQDBWriter Refusal} (Err e) (cond b (Ok (writer_of r)) (Err Unfit))
        → (valid_numbers r.mode r.repeats ≡ false) × (number_of e ≡ 2)
    by_choice true x is = cc
    by_choice false x is = let same : e ≡ Unfit = cc in (x, ap number_of same)

pub read_known : (r : Record) {w : CQDBWriter} → Ok w ≡ writer_read r → (valid_numbers r.mode r.repeats ≡ true) × (w ≡ writer_of r)
read_known r {w} is = by_choice (valid_numbers r.mode r.repeats) refl is
  where
    by_choice : (b : Bool) → valid_numbers r.mode r.repeats ≡ b → ◌≡◌ {A = Result CQDBWriter Refusal} (Ok w) (cond b (Ok (writer_of r)) (Err Unfit))
        → (valid_numbers r.mode r.repeats ≡ true) × (w ≡ writer_of r)
    by_choice true x is = let same : w ≡ writer_of r = cc in (x, same)
    by_choice false x is = cc

-- ---- the put

put_unknown : (h : CState) (words : List ℕ) (e : Entry) → known_in h ≡ false → PutIndexedHeld h words e 2 h words
unfolding put_by_slots_number
put_unknown h words e over =
    record {
      number = is;
      refused = λ n. (refl, refl);
      accepted = λ z. absurd (omega (arith, z));
      answer = λ right. absurd (false_not_true (sym over ∙ right.known));
      leaves = λ right. absurd (false_not_true (sym over ∙ right.known));
      right = λ right. right;
    }
  where
    is : 2 ≡ put_by_slots_number h words e
    is = rw over refl

-- the record is none of 01
pub put_unread : (h : CState) (words : List ℕ) (e : Entry) {r : Refusal} → Err r ≡ writer_read h.writer
    → PutIndexedHeld h words e (number_of r) h words
put_unread h words e is =
    let u = read_unknown h.writer is in
    subst (λ (k : ℕ). PutIndexedHeld h words e k h words) (sym u.1) (put_unknown h words e u.0)

module _ (h : CState) {words : List ℕ} {e : Entry} {v w' : CQDBWriter} {counts buffer words' : List ℕ} {k : ℕ} (fine : known_in h ≡ true)
    (is : v ≡ writer_of h.writer) (given : PutIndexed (state_with v h.counts h.buffer) words e k (state_with w' counts buffer) words')
    {r : Record} (back : r ≡ record_of w') where
  p : PutIndexed (state_in h) words e k (state_with w' counts buffer) words'
  p = subst (λ (w : CQDBWriter). PutIndexed (state_with w h.counts h.buffer) words e k (state_with w' counts buffer) words') is given

  is_held : c_state r counts buffer ≡ c_state_of (state_with w' counts buffer)
  is_held = ap (λ (x : Record). c_state x counts buffer) back

  number_is : k ≡ put_by_slots_number h words e
  unfolding put_by_slots_number
  number_is = rw fine p.number

  answer_is : RightHeld h words → k ≡ put_indexed_number h words e
  unfolding put_indexed_number
  answer_is right = rw fine (p.answer right.index)

  leaves_is : RightHeld h words → c_state r counts buffer ≡ left_by_put_indexed h words e
  unfolding left_by_put_indexed
  leaves_is right = rw fine (is_held ∙ ap c_state_of (p.leaves right.index))

  right_is : RightHeld h words → RightHeld (c_state r counts buffer) words'
  right_is right =
      subst (λ (x : CState). RightHeld x words') (sym is_held)
      (held_right (state_with w' counts buffer) words' (p.right right.index))

  put_known : PutIndexedHeld h words e k (c_state r counts buffer) words'
  put_known =
      record {
        number = number_is;
        refused = λ n. (is_held ∙ ap c_state_of (p.refused n).0 ∙ back_and_forth h fine, (p.refused n).1);
        accepted = λ z. (fine, is_held ∙ ap c_state_of (p.accepted z).0, (p.accepted z).1);
        answer = answer_is;
        leaves = leaves_is;
        right = right_is;
      }

module _ (h : CState) {words : List ℕ} {e : Entry} {v w' : CQDBWriter} {counts buffer words' : List ℕ} {k : ℕ} (fine : known_in h ≡ true)
    (is : v ≡ writer_of h.writer) (given : PutIndexed (state_with v h.counts h.buffer) words e k (state_with w' counts buffer) words') where
  kept : Stay v w'
  unfolding appended writer_after_entry
  kept = by_answer (eqb k 0) refl
    where
      stays : (s : State) → state_with w' counts buffer ≡ s → Stay v s.writer → Stay v w'
      stays s e = subst (λ (t : State). Stay v t.writer) (sym e)

      by_answer : (b : Bool) → eqb k 0 ≡ b → Stay v w'
      by_answer true x = stays _ (given.accepted (eqb-true k 0 x)).0 (record { modes = refl; choices = refl; lengths = refl })
      by_answer false x = stays _ (given.refused (eqb-false k 0 x)).0 (record { modes = refl; choices = refl; lengths = refl })

  pub put_stored : {r : Record} → r ≡ record_after h.writer w' → PutIndexedHeld h words e k (c_state r counts buffer) words'
  put_stored back =
      put_known h fine is given (back ∙ whole_stored h.writer w' fine (subst (λ (x : CQDBWriter). Stay x w') is kept))

-- ---- making the index

index_unknown : (h : CState) (words : List ℕ) → known_in h ≡ false → IndexedHeld h words 2 words
unfolding index_number
index_unknown h words over =
    record {
      answer = is;
      refused = λ n. refl;
      right = λ z. absurd (omega (arith, z));
      long = refl;
      last = λ i l. refl;
    }
  where
    is : 2 ≡ index_number h words
    is = rw over refl

pub index_unread : (h : CState) (words : List ℕ) {r : Refusal} → Err r ≡ writer_read h.writer → IndexedHeld h words (number_of r) words
index_unread h words is =
    let u = read_unknown h.writer is in
    subst (λ (k : ℕ). IndexedHeld h words k words) (sym u.1) (index_unknown h words u.0)

module _ (h : CState) {words words' : List ℕ} {v : CQDBWriter} {k : ℕ} (fine : known_in h ≡ true) (is : v ≡ writer_of h.writer)
    (given : Indexed (state_with v h.counts h.buffer) words k words') where
  q : Indexed (state_in h) words k words'
  q = subst (λ (w : CQDBWriter). Indexed (state_with w h.counts h.buffer) words k words') is given

  index_is : k ≡ index_number h words
  unfolding index_number
  index_is = rw fine q.answer

  pub index_known : IndexedHeld h words k words'
  index_known =
      record {
        answer = index_is;
        refused = q.refused;
        right = λ z tables. record { known = fine; index = q.right z tables };
        long = q.long;
        last = q.last;
      }

-- ---- an index stays right

pub kept_right_held : KeptRightHeld
kept_right_held =
    record {
      made = λ h words words' tables p. p.right refl tables;
      put = λ h h' words words' e refusal p right. p.right right;
      closed = λ h words bytes right. held_right (after_close (state_in h)) words (kept_right.close_right (state_in h) words bytes right.index);
      longer =
          λ h words longer bytes l right. held_right (moved_to longer (state_in h)) words
          (kept_right.longer_right (state_in h) words longer bytes l right.index);
    }

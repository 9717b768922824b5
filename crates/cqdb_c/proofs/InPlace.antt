-- The writing calls on a record that is lent in place: what they store in it is what the rules leave. Assumes nothing.
use Prim.Native.Nat.{ℕ}
use mathlib.Core.Path.{◌≡◌, refl, sym, ap, subst, ◌∙◌}
use mathlib.Core.Bool.{Bool, true, false, cond}
use mathlib.Core.List.{List}
use lib.Dec.{eqb, ltb}
use Rattle.jhash.specs.Outcome.{Outcome}
use Rattle.image.specs.Image.{Entry}
use Rattle.writer.specs.declared.CQDBWriter.{CQDBWriter}
use Rattle.writer.specs.State.{State, state_with}
use Rattle.writer.specs.Put.{put_refusal, writer_after_entry, appended, after_put}
use Rattle.writer.specs.Close.{closing, after_close}
use Rattle.writer.specs.Grown.{with_length, grown_refusal, grown_writer}
use Rattle.writer.specs.declared.c_record.Record.{Record}
use Rattle.writer.specs.Numbers.{valid_numbers}
use Rattle.writer.specs.CRecord.{writer_of, record_of, CState, c_state, known_in}
use Rattle.writer.proofs.CRecords.{known_back, record_after, Stay, whole_stored, record_longer}
use Rattle.cqdb_c.specs.Writing.{put_number, left_by_put, closing_of, refusal_in, size_in, left_by_close}
use Rattle.cqdb_c.specs.Grown.{grown_number, record_grown}
use Rattle.cqdb_c.proofs.CCalls.{put_known, close_known, close_keeps}
use Rattle.cqdb_c.proofs.GrownCalls.{grown_known}

-- ---- put: entries, back size and end are stored

stay : (s : State) (e : Entry) → Stay s.writer (after_put s e).writer
unfolding after_put appended writer_after_entry
stay s e = by_answer (eqb (put_refusal s e) 0)
  where
    by_answer : (b : Bool) → Stay s.writer (cond b (appended s e) s).writer
    by_answer true = record { modes = refl; choices = refl; lengths = refl }
    by_answer false = record { modes = refl; choices = refl; lengths = refl }

module _ (h : CState) (e : Entry) {v w' : CQDBWriter} {counts buffer : List ℕ} {k : ℕ} (fine : known_in h ≡ true)
    (is : v ≡ writer_of h.writer)
    (put : (k ≡ put_refusal (state_with v h.counts h.buffer) e)
    × (state_with w' counts buffer ≡ after_put (state_with v h.counts h.buffer) e)) where
  stays : Stay (writer_of h.writer) w'
  stays =
      subst (λ (x : CQDBWriter). Stay x w') is
      (subst (λ (t : State). Stay v t.writer) (sym put.1) (stay (state_with v h.counts h.buffer) e))

  pub put_answered : k ≡ put_number h e
  put_answered = (put_known h e v w' (record_of w') counts buffer k fine is put refl).0

  pub put_stored : {r : Record} → r ≡ record_after h.writer w' → c_state r counts buffer ≡ left_by_put h e
  put_stored {r} back = (put_known h e v w' r counts buffer k fine is put (back ∙ whole_stored h.writer w' fine stays)).1

-- ---- close: nothing is stored

pub close_in_place : (h : CState) (v w' : CQDBWriter) (buffer : List ℕ) (d : Outcome ℕ) (k n : ℕ) →
    known_in h ≡ true → v ≡ writer_of h.writer →
    (d ≡ closing (state_with v h.counts h.buffer))
    × (state_with w' h.counts buffer ≡ after_close (state_with v h.counts h.buffer)) →
    k ≡ refusal_in d → n ≡ size_in d →
    (k ≡ refusal_in (closing_of h)) × ((n ≡ size_in (closing_of h)) × (c_state h.writer h.counts buffer ≡ left_by_close h))
close_in_place h v w' buffer d k n fine is close number told =
    let all = close_known h v w' (record_of w') buffer d k n fine is close number told refl in
    let same : record_of w' ≡ h.writer = ap (λ (x : CState). x.writer) all.1.1 ∙ (close_keeps h).0 in
    (all.0, (all.1.0, ap (λ (x : Record). c_state x h.counts buffer) (sym same) ∙ all.1.1))

-- ---- grown: the length is stored

module _ (r : Record) (n : ℕ) {v w : CQDBWriter} {k : ℕ} (fine : valid_numbers r.mode r.repeats ≡ true) (is : v ≡ writer_of r)
    (grown : (k ≡ grown_refusal v n) × (w ≡ grown_writer v n)) where
  longer_is : record_longer r (grown_writer (writer_of r) n).length ≡ record_of (grown_writer (writer_of r) n)
  longer_is = by_length (ltb n r.length)
    where
      by_length : (b : Bool) → record_longer r (cond b (writer_of r) (with_length (writer_of r) n)).length
          ≡ record_of (cond b (writer_of r) (with_length (writer_of r) n))
      by_length true = sym (known_back r fine)
      by_length false = ap (λ (x : Record). record_longer x n) (sym (known_back r fine))

  pub grown_answered : k ≡ grown_number r n
  grown_answered = (grown_known r n v w (record_of w) k fine is grown refl).0

  pub grown_stored : {left : Record} → left ≡ record_longer r w.length → left ≡ record_grown r n
  grown_stored {left} back =
      let w-is : w ≡ grown_writer (writer_of r) n = grown.1 ∙ ap (λ (x : CQDBWriter). grown_writer x n) is in
      (grown_known r n v w left k fine is grown
      (back
      ∙ ap (λ (x : CQDBWriter). record_longer r x.length) w-is
      ∙ longer_is
      ∙ ap record_of (sym w-is))).1

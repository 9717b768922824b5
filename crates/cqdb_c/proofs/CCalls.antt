-- The writing calls as C has them: a mode or a choice of repeats above 1 changes nothing; with modes of 01's and 02's,
-- what the writer's calls promise. Assumes nothing.
use Prim.Native.Nat.{ℕ}
use mathlib.Core.Path.{◌≡◌, refl, ap, ap₂, ◌∙◌}
use mathlib.Core.Bool.{Bool, true, false, cond}
use mathlib.Core.List.{List}
use lib.ListN.{replicate}
use lib.Dec.{eqb}
use borrow.Author.Tests.{ne_eqb}
use Rattle.jhash.specs.Outcome.{Outcome, value, refusal}
use Rattle.image.specs.Image.{Entry}
use Rattle.image.specs.declared.Mode.{Mode}
use Rattle.writer.specs.declared.Repeats.{Repeats}
use Rattle.writer.specs.declared.CQDBWriter.{CQDBWriter}
use Rattle.writer.specs.State.{State, state_with, beginning, begin_refusal, fresh_writer, counts_begun}
use Rattle.writer.specs.Put.{put_refusal, appended, after_put}
use Rattle.writer.specs.Close.{closing, close_refusal, closed_size, closed, after_close}
use Rattle.writer.specs.declared.c_record.Record.{Record}
use Rattle.writer.specs.Numbers.{valid_numbers, mode_of, repeats_of}
use Rattle.writer.specs.CRecord.{writer_of, record_of, CState, c_state, known_in, state_in, c_state_of}
use Rattle.writer.proofs.CRecords.{back_and_forth}
use Rattle.cqdb_c.specs.Writing.{LentWriter, lent_writer, numbers_of, sizes_of, beginning_of, number_in, lent_in, left_by_begin}
use Rattle.cqdb_c.specs.Writing.{put_number, left_by_put, closing_of, refusal_in, size_in, left_by_close}

-- begin with a mode or a choice of repeats above 1
pub begin_unknown : (mode repeats n : ℕ) (l : LentWriter) → valid_numbers mode repeats ≡ false
    → (2 ≡ number_in (beginning_of mode repeats n)) × (l ≡ left_by_begin mode repeats n l)
unfolding beginning_of left_by_begin
begin_unknown mode repeats n l over = rw over (refl, refl)

-- what the code leaves where the writer's begin answers b and leaves the counts after
abbrev pub stored : Outcome CQDBWriter → LentWriter → List ℕ → LentWriter
stored (value w) l after = lent_writer (numbers_of (record_of w)) (sizes_of (record_of w)) after
stored (refusal k) l after = lent_writer l.numbers l.sizes after

-- begin with known ones: b is what the writer's begin answers, and after the counts that it leaves
pub begin_known : (mode repeats n : ℕ) (l : LentWriter) (after : List ℕ) (m : Mode) (r : Repeats) (b : Outcome CQDBWriter) →
    valid_numbers mode repeats ≡ true → m ≡ mode_of mode → r ≡ repeats_of repeats → (b ≡ beginning m r n) × (after ≡ counts_begun n l.counts) →
    (number_in b ≡ number_in (beginning_of mode repeats n)) × (stored b l after ≡ left_by_begin mode repeats n l)
unfolding beginning_of left_by_begin beginning counts_begun
begin_known mode repeats n l after m r b fine f g begun =
    let is : b ≡ beginning (mode_of mode) (repeats_of repeats) n = begun.0 ∙ ap₂ (λ (x : Mode) (y : Repeats). beginning x y n) f g in
    rw fine (
      ap number_in is,
      ap₂ (λ (x : Outcome CQDBWriter) (cs : List ℕ). stored x l cs) is begun.1 ∙ same (eqb (begin_refusal n) 0),
    )
  where
    rule : (b : Bool) → Outcome CQDBWriter
    rule b = cond b (value (fresh_writer (mode_of mode) (repeats_of repeats) n)) (refusal (begin_refusal n))

    same : (b : Bool) → stored (rule b) l (cond b (replicate 256 0) l.counts) ≡ lent_in (rule b) l
    same true = refl
    same false = refl

-- put with a record that is no record of 01
pub put_unknown : (h : CState) (e : Entry) → known_in h ≡ false → (2 ≡ put_number h e) × (h ≡ left_by_put h e)
unfolding put_number left_by_put
put_unknown h e over = rw over (refl, refl)

-- put with one of 01's: the writer's record v goes in, w' comes back
pub put_known : (h : CState) (e : Entry) (v w' : CQDBWriter) (r : Record) (counts buffer : List ℕ) (k : ℕ) →
    known_in h ≡ true → v ≡ writer_of h.writer →
    (k ≡ put_refusal (state_with v h.counts h.buffer) e)
    × (state_with w' counts buffer ≡ after_put (state_with v h.counts h.buffer) e) →
    r ≡ record_of w' →
    (k ≡ put_number h e) × (c_state r counts buffer ≡ left_by_put h e)
unfolding put_number left_by_put
put_known h e v w' r counts buffer k fine is put back =
    let same : state_with v h.counts h.buffer ≡ state_in h = ap (λ (w : CQDBWriter). state_with w h.counts h.buffer) is in
    rw fine (
      put.0 ∙ ap (λ (s : State). put_refusal s e) same,
      ap (λ (x : Record). c_state x counts buffer) back ∙ ap c_state_of (put.1 ∙ ap (λ (s : State). after_put s e) same),
    )

-- close with a record that is no record of 01
pub close_unknown : (h : CState) → known_in h ≡ false →
    (2 ≡ refusal_in (closing_of h)) × ((0 ≡ size_in (closing_of h)) × (h ≡ left_by_close h))
unfolding closing_of left_by_close
close_unknown h over = rw over (refl, (refl, refl))

-- close with one of 01's: the writer's record v goes in, w' comes back, and d is what the writer's close answers
pub close_known : (h : CState) (v w' : CQDBWriter) (r : Record) (buffer : List ℕ) (d : Outcome ℕ) (k n : ℕ) →
    known_in h ≡ true → v ≡ writer_of h.writer →
    (d ≡ closing (state_with v h.counts h.buffer))
    × (state_with w' h.counts buffer ≡ after_close (state_with v h.counts h.buffer)) →
    k ≡ refusal_in d → n ≡ size_in d → r ≡ record_of w' →
    (k ≡ refusal_in (closing_of h)) × ((n ≡ size_in (closing_of h)) × (c_state r h.counts buffer ≡ left_by_close h))
unfolding closing_of left_by_close
close_known h v w' r buffer d k n fine is close number told back =
    let same : state_with v h.counts h.buffer ≡ state_in h = ap (λ (w : CQDBWriter). state_with w h.counts h.buffer) is in
    let d-is : d ≡ closing (state_in h) = close.0 ∙ ap closing same in
    rw fine (
      number ∙ ap refusal_in d-is,
      (told ∙ ap size_in d-is, ap (λ (x : Record). c_state x h.counts buffer) back ∙ ap c_state_of (close.1 ∙ ap after_close same)),
    )

-- no refusal changes the record, the counts or a byte: begin
pub begin_refused : (mode repeats n : ℕ) (l : LentWriter) → (number_in (beginning_of mode repeats n) ≡ 0 → ⊥) → left_by_begin mode repeats n l ≡ l
unfolding left_by_begin
begin_refused mode repeats n l = lent_kept (beginning_of mode repeats n)
  where
    lent_kept : (b : Outcome CQDBWriter)
        → (number_in b ≡ 0 → ⊥)
        → lent_in b l ≡ l
    lent_kept (value w) refused = absurd (refused refl)
    lent_kept (refusal k) refused = refl

-- put
pub put_refused : (h : CState) (e : Entry) → (put_number h e ≡ 0 → ⊥) → left_by_put h e ≡ h
unfolding put_number left_by_put after_put
put_refused h e = state_kept (known_in h) refl
  where
    state_kept : (t : Bool) → known_in h ≡ t → (cond t (put_refusal (state_in h) e) 2 ≡ 0 → ⊥) → cond t (c_state_of (after_put (state_in h) e)) h ≡ h
    state_kept true fine refused =
        ap (λ (b : Bool). c_state_of (cond b (appended (state_in h) e) (state_in h))) (ne_eqb (put_refusal (state_in h) e) 0 refused)
        ∙ back_and_forth h fine
    state_kept false over refused = refl

-- and close
pub close_refused : (h : CState) → (refusal_in (closing_of h) ≡ 0 → ⊥) → left_by_close h ≡ h
unfolding closing_of left_by_close closing after_close
close_refused h = state_kept (known_in h) refl
  where
    state_kept : (t : Bool) → known_in h ≡ t → (refusal_in (cond t (closing (state_in h)) (refusal 2)) ≡ 0 → ⊥)
        → cond t (c_state_of (after_close (state_in h))) h ≡ h
    state_kept true fine refused = by (eqb (close_refusal (state_in h)) 0) refused ∙ back_and_forth h fine
      where
        by : (b : Bool) → (refusal_in (cond b (value (closed_size (state_in h))) (refusal (close_refusal (state_in h)))) ≡ 0 → ⊥) →
            c_state_of (cond b (closed (state_in h)) (state_in h)) ≡ c_state_of (state_in h)
        by true never = absurd (never refl)
        by false never = refl
    state_kept false over refused = refl

-- close hands back the record that it was lent, and the counts
pub close_keeps : (h : CState) → ((left_by_close h).writer ≡ h.writer) × ((left_by_close h).counts ≡ h.counts)
unfolding left_by_close after_close closed
close_keeps h = both_kept (known_in h) refl
  where
    kept : known_in h ≡ true → (b : Bool) →
        ((c_state_of (cond b (closed (state_in h)) (state_in h))).writer ≡ h.writer)
        × ((c_state_of (cond b (closed (state_in h)) (state_in h))).counts ≡ h.counts)
    kept fine true = (ap (λ (x : CState). x.writer) (back_and_forth h fine), refl)
    kept fine false = (ap (λ (x : CState). x.writer) (back_and_forth h fine), refl)

    both_kept : (t : Bool) → known_in h ≡ t →
        ((cond t (c_state_of (after_close (state_in h))) h).writer ≡ h.writer) × ((cond t (c_state_of (after_close (state_in h))) h).counts ≡ h.counts)
    both_kept true fine = kept fine (eqb (close_refusal (state_in h)) 0)
    both_kept false over = (refl, refl)

-- Lists of calls of every length: each call's answer is the one due, and what the list leaves is written. Assumes nothing.
use Prim.Native.Nat.{ℕ, ◌≤◌}
use mathlib.Core.Path.{◌≡◌, refl, sym, ap, ap₂, ◌∙◌}
use mathlib.Core.List.{List, [], ◌∷◌, ◌++◌, append_assoc, append-nil}
use lib.ListN.{length}
use borrow.Author.Tests.{le-ltb}
use Rattle.jhash.specs.Outcome.{value}
use Rattle.image.specs.declared.Mode.{Mode}
use Rattle.image.specs.declared.Mode.TheVariants.{Twoway}
use Rattle.image.specs.Image.{Entry, head_size}
use Rattle.writer.specs.declared.Repeats.{Repeats}
use Rattle.writer.specs.State.{State, fresh, begin_refusal, beginning, counts_begun}
use Rattle.lists.specs.Calls.{Call, put, close, after_call, answer, after, answers, accepted_one, accepted_by, accepted_after, due_to}
use Rattle.lists.specs.Calls.{accepted_from, due_from, accepted, due, Permitted, AllPermitted, WordId, WordIds}
use Rattle.lists.specs.Demand3.{answers_of, after_list, accepted_puts}
use Rattle.lists.proofs.ListWritten.{Written}
use Rattle.lists.proofs.ListPuts.{put_due_lem, due_number, put_written, fresh_written}
use Rattle.lists.proofs.ListCloses.{close_accepted, close_written}

-- ---- one call

module _ (mode : Mode) (repeats : Repeats) (n : ℕ) (es : List Entry) (s : State) (w : Written mode repeats n es s) where
  pub call_due : (c : Call) → answer s c ≡ due_to mode repeats n es c
  call_due (put e) = put_due_lem mode repeats n es s w e
  call_due close = close_accepted mode repeats n es s w

  pub call_written : (c : Call) → WordId mode c → Written mode repeats n (accepted_after mode repeats n es c) (after_call s c)
  call_written (put e) word = put_written mode repeats n es s w e word
  call_written close word = rw (append-nil es) (close_written mode repeats n es s w)

-- ---- every list

pub answers_due : (mode : Mode) (repeats : Repeats) (n : ℕ) (es : List Entry) (s : State) → Written mode repeats n es s → (cs : List Call) → WordIds mode cs
    → answers s cs ≡ due_from mode repeats n es cs
unfolding answers due_from
answers_due mode repeats n es s w [] word = refl
answers_due mode repeats n es s w (c ∷ cs) word =
    ap₂ {C = List ℕ} (λ (r : ℕ) (rs : List ℕ). r ∷ rs) (call_due mode repeats n es s w c)
    (answers_due mode repeats n (accepted_after mode repeats n es c) (after_call s c) (call_written mode repeats n es s w c word.0) cs word.1)

pub after_written : (mode : Mode) (repeats : Repeats) (n : ℕ) (es : List Entry) (s : State) → Written mode repeats n es s → (cs : List Call) → WordIds mode cs
    → Written mode repeats n (accepted_from mode repeats n es cs) (after s cs)
unfolding after accepted_from
after_written mode repeats n es s w [] word = w
after_written mode repeats n es s w (c ∷ cs) word =
    after_written mode repeats n (accepted_after mode repeats n es c) (after_call s c) (call_written mode repeats n es s w c word.0) cs word.1

-- one list after another: what both leave, and the puts that are accepted
pub after_append : (s : State) (cs ds : List Call) → after s (cs ++ ds) ≡ after (after s cs) ds
unfolding after
after_append s [] ds = refl
after_append s (c ∷ cs) ds = after_append (after_call s c) cs ds

pub accepted_append : (mode : Mode) (repeats : Repeats) (n : ℕ) (es : List Entry) (cs ds : List Call)
    → accepted_from mode repeats n es (cs ++ ds) ≡ accepted_from mode repeats n (accepted_from mode repeats n es cs) ds
unfolding accepted_from
accepted_append mode repeats n es [] ds = refl
accepted_append mode repeats n es (c ∷ cs) ds = accepted_append mode repeats n (accepted_after mode repeats n es c) cs ds

-- a close accepts no put
pub accepted_after_close : (mode : Mode) (repeats : Repeats) (n : ℕ) (cs ds : List Call)
    → accepted mode repeats n (cs ++ (close ∷ ds)) ≡ accepted_from mode repeats n (accepted mode repeats n cs) ds
unfolding accepted accepted_from
accepted_after_close mode repeats n cs ds =
    accepted_append mode repeats n [] cs (close ∷ ds)
    ∙ ap (λ (l : List Entry). accepted_from mode repeats n l ds) (append-nil (accepted_from mode repeats n [] cs))

-- ---- what is due

-- 0, 13, 16 or 3 to a put, 0 to a close
one_permitted : (mode : Mode) (repeats : Repeats) (n : ℕ) (es : List Entry) (c : Call) → Permitted c (due_to mode repeats n es c)
one_permitted mode repeats n es (put e) = due_number mode repeats n es e
one_permitted mode repeats n es close = refl

permitted_from : (mode : Mode) (repeats : Repeats) (n : ℕ) (es : List Entry) (cs : List Call) → AllPermitted cs (due_from mode repeats n es cs)
unfolding due_from
permitted_from mode repeats n es [] = tt
permitted_from mode repeats n es (c ∷ cs) = (one_permitted mode repeats n es c, permitted_from mode repeats n (accepted_after mode repeats n es c) cs)

pub due_permitted : (mode : Mode) (repeats : Repeats) (n : ℕ) (cs : List Call) → AllPermitted cs (due mode repeats n cs)
unfolding due
due_permitted mode repeats n cs = permitted_from mode repeats n [] cs

-- the accepted puts are those whose answer is no refusal
accepted_from_lem : (mode : Mode) (repeats : Repeats) (n : ℕ) (es : List Entry) (cs : List Call)
    → accepted_from mode repeats n es cs ≡ es ++ accepted_by cs (due_from mode repeats n es cs)
unfolding accepted_from accepted_by due_from
accepted_from_lem mode repeats n es [] = sym (append-nil es)
accepted_from_lem mode repeats n es (c ∷ cs) =
    let next : List Entry = accepted_after mode repeats n es c in
    accepted_from_lem mode repeats n next cs
    ∙ append_assoc es (accepted_one c (due_to mode repeats n es c)) (accepted_by cs (due_from mode repeats n next cs))

pub accepted_by_due : (mode : Mode) (repeats : Repeats) (n : ℕ) (cs : List Call) → accepted_by cs (due mode repeats n cs) ≡ accepted mode repeats n cs
unfolding accepted due
accepted_by_due mode repeats n cs = sym (accepted_from_lem mode repeats n [] cs)

-- ---- from a fresh record

-- a two-way list needs no premise
pub two_way_lem : (cs : List Call) → WordIds Twoway cs
two_way_lem [] = tt
two_way_lem (c ∷ cs) = (tt, two_way_lem cs)

pub begin_accepts : (n : ℕ) → head_size ≤ n → begin_refusal n ≡ 0
begin_accepts n room = rw (le-ltb n head_size room)

-- begin gives the record of a fresh state, and clears what was lent for its counts
pub list_begins : (mode : Mode) (repeats : Repeats) (buffer : List ℕ) → head_size ≤ length buffer
    → beginning mode repeats (length buffer) ≡ value (fresh mode repeats buffer).writer
unfolding beginning fresh
list_begins mode repeats buffer room = rw (begin_accepts (length buffer) room)

pub list_counts : (mode : Mode) (repeats : Repeats) (buffer : List ℕ) → head_size ≤ length buffer
    → (given : List ℕ) → counts_begun (length buffer) given ≡ (fresh mode repeats buffer).counts
unfolding counts_begun fresh
list_counts mode repeats buffer room given = rw (begin_accepts (length buffer) room)

module _ (mode : Mode) (repeats : Repeats) (buffer : List ℕ) (room : head_size ≤ length buffer) (cs : List Call) (word : WordIds mode cs) where
  pub list_answers : answers_of mode repeats buffer cs ≡ due mode repeats (length buffer) cs
  unfolding due
  list_answers = answers_due mode repeats (length buffer) [] (fresh mode repeats buffer) (fresh_written mode repeats buffer room) cs word

  -- no call gives 2 or 4, and no close is refused
  pub list_permitted : AllPermitted cs (answers_of mode repeats buffer cs)
  list_permitted = rw list_answers (due_permitted mode repeats (length buffer) cs)

  pub list_accepted : accepted_puts mode repeats buffer cs ≡ accepted mode repeats (length buffer) cs
  unfolding accepted_puts
  list_accepted = ap (accepted_by cs) list_answers ∙ accepted_by_due mode repeats (length buffer) cs

  pub list_written : Written mode repeats (length buffer) (accepted mode repeats (length buffer) cs) (after_list mode repeats buffer cs)
  unfolding accepted
  list_written = after_written mode repeats (length buffer) [] (fresh mode repeats buffer) (fresh_written mode repeats buffer room) cs word

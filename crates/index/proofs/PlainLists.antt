-- Lists of demand 3 that a run by an index comes to: one call more, and a buffer that grows. Assumes nothing.
use Prim.Native.Nat.{ℕ, ◌≤◌}
use native.Mathlib.Omega.{arith}
use mathlib.Core.Path.{◌≡◌, refl, sym, ap, ap₂, subst, ◌∙◌}
use mathlib.Core.List.{List, [], ◌∷◌, ◌++◌}
use lib.ListN.{length, replicate}
use Rattle.image.specs.declared.Mode.{Mode}
use Rattle.image.specs.Image.{Entry, head_size}
use Rattle.writer.specs.declared.Repeats.{Repeats}
use Rattle.writer.specs.State.{State, fresh}
use Rattle.lists.specs.Calls.{Call, put, after_call, answer, after, answers, put_all, accepted_one, accepted_by, accepted_after, accepted_from}
use Rattle.lists.specs.Calls.{accepted, due, due_from, WordId, WordIds}
use Rattle.lists.specs.Demand3.{answers_of, after_list}
use Rattle.lists.specs.Theorems.LongerBuffer.{moved_to, Longer}
use Rattle.lists.proofs.ListWritten.{Written}
use Rattle.lists.proofs.CallLists.{after_append, accepted_append, accepted_by_due, list_answers, list_accepted, list_written}
use Rattle.lists.proofs.PutsAgain.{Again, again, again_accepted, again_there, due_longer, words_again}
use Rattle.lists.proofs.LongerBuffer.{longer_buffer}
use Rattle.index.specs.Theorems.ListsByIndex.{grow, Plain, plain_after}

abbrev pub cons : ℕ → List ℕ → List ℕ
cons r rs = r ∷ rs

-- ---- one call more, and a longer buffer

answers_append : (s : State) (cs ds : List Call) → answers s (cs ++ ds) ≡ answers s cs ++ answers (after s cs) ds
unfolding answers after
answers_append s [] ds = refl
answers_append s (c ∷ cs) ds = ap (λ (rs : List ℕ). answer s c ∷ rs) (answers_append (after_call s c) cs ds)

words_append : (mode : Mode) (cs ds : List Call) → WordIds mode cs → WordIds mode ds → WordIds mode (cs ++ ds)
words_append mode [] ds first second = second
words_append mode (c ∷ cs) ds first second = (first.0, words_append mode cs ds first.1 second)

-- puts that are accepted one after the other are due 0
zeros_due : (mode : Mode) (repeats : Repeats) (n : ℕ) (es fs : List Entry) → Again mode repeats n es fs
    → due_from mode repeats n es (put_all fs) ≡ replicate (length fs) 0
unfolding due_from put_all
zeros_due mode repeats n es [] h = refl
zeros_due mode repeats n es (f ∷ fs) h =
    ap₂ cons h.0
    (ap (λ (q : ℕ). due_from mode repeats n (es ++ accepted_one (put f) q) (put_all fs)) h.0 ∙ zeros_due mode repeats n (es ++ (f ∷ [])) fs h.1)

-- one call more
abbrev pub more : Plain → Call → ℕ → Plain
more l c r = record { buffer = l.buffer; calls = l.calls ++ (c ∷ []); answers = l.answers ++ (r ∷ []) }

module _ (mode : Mode) (repeats : Repeats) where
  -- a state is what a list of demand 3 leaves, whose accepted puts are es
  pub record Left (l : Plain) (es : List Entry) (s : State) : Type 0 where
    pub state : s ≡ after_list mode repeats l.buffer l.calls
    pub answers : answers_of mode repeats l.buffer l.calls ≡ l.answers
    pub room : head_size ≤ length l.buffer
    pub word : WordIds mode l.calls
    pub puts : accepted mode repeats (length l.buffer) l.calls ≡ es

  module _ {l : Plain} {es : List Entry} {s : State} (left : Left l es s) where
    abbrev n : ℕ
    n = length l.buffer

    pub left_written : Written mode repeats (length l.buffer) es s
    left_written =
        subst (Written mode repeats n es) (sym left.state)
        (subst (λ (fs : List Entry). Written mode repeats n fs (after_list mode repeats l.buffer l.calls)) left.puts
        (list_written mode repeats l.buffer left.room l.calls left.word))

    pub left_call : (c : Call) (r : ℕ) → r ≡ answer s c → WordId mode c
        → Left (more l c r) (accepted_after mode repeats (length l.buffer) es c) (after_call s c)
    unfolding after answers accepted accepted_from
    left_call c r is word =
        record {
          state = ap (λ (x : State). after_call x c) left.state ∙ sym (after_append (fresh mode repeats l.buffer) l.calls (c ∷ []));
          answers =
              answers_append (fresh mode repeats l.buffer) l.calls (c ∷ [])
              ∙ ap₂ (λ (rs qs : List ℕ). rs ++ qs) left.answers
              (ap (λ (q : ℕ). cons q []) (ap (λ (x : State). answer x c) (sym left.state) ∙ sym is));
          room = left.room;
          word = words_append mode l.calls (c ∷ []) left.word (word, tt);
          puts =
              accepted_append mode repeats n [] l.calls (c ∷ []) ∙ ap (λ (fs : List Entry). accepted_after mode repeats n fs c) left.puts;
        }

    accepted_are : accepted_by l.calls l.answers ≡ es
    accepted_are =
        ap (accepted_by l.calls) (sym left.answers ∙ list_answers mode repeats l.buffer left.room l.calls left.word)
        ∙ accepted_by_due mode repeats n l.calls
        ∙ left.puts

    module _ (longer : List ℕ) (at : Longer longer s) where
      long : length l.buffer ≤ length longer
      long = omega (arith, left_written.length_is, at.long)

      words : WordIds mode (put_all es)
      words = words_again mode es left_written.ids

      due_again : Again mode repeats (length longer) [] es
      due_again =
          again_there mode repeats repeats n (length longer) (due_longer mode repeats n (length longer) long) [] es
          (subst (Again mode repeats n []) left.puts (again mode repeats n l.calls))

      grown_state : moved_to longer s ≡ after_list mode repeats longer (put_all es)
      grown_state =
          let there = subst (Longer longer) left.state at in
          let grown = longer_buffer.grows mode repeats l.buffer longer l.calls left.room left.word there in
          ap (moved_to longer) left.state ∙ grown.same_state
          ∙ ap (λ (fs : List Entry). after_list mode repeats longer (put_all fs))
          (list_accepted mode repeats l.buffer left.room l.calls left.word ∙ left.puts)

      grown_left : Left (record { buffer = longer; calls = put_all es; answers = replicate (length es) 0 }) es (moved_to longer s)
      unfolding due
      grown_left =
          let room : head_size ≤ length longer = omega (arith, left.room, long) in
          record {
            state = grown_state;
            answers = list_answers mode repeats longer room (put_all es) words ∙ zeros_due mode repeats (length longer) [] es due_again;
            room = room;
            word = words;
            puts = again_accepted mode repeats (length longer) es due_again;
          }

      pub left_grown : Left (plain_after l (grow longer) 0) es (moved_to longer s)
      left_grown =
          subst (λ (fs : List Entry). Left (record { buffer = longer; calls = put_all fs; answers = replicate (length fs) 0 }) es (moved_to longer s))
          (sym accepted_are) grown_left

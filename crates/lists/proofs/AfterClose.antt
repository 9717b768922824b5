-- Reading from a close to the next put. Assumes nothing.
use Prim.Native.Nat.{ℕ, ◌≤◌}
use native.Mathlib.Omega.{arith}
use mathlib.Core.Path.{◌≡◌, refl, sym, ap, ap₂, ◌∙◌}
use mathlib.Core.Bool.{Bool, true, false, cond}
use mathlib.Core.List.{List, [], ◌∷◌, ◌++◌, append-nil}
use lib.ListN.{length, take, length-append}
use lib.Dec.{eqb}
use Rattle.jhash.specs.Outcome.{value}
use Rattle.jhash.proofs.ValueOrRefusal.{same_value}
use Rattle.image.specs.declared.Mode.{Mode}
use Rattle.image.specs.declared.Mode.TheVariants.{Twoway}
use Rattle.image.specs.Image.{Entry, head_size}
use Rattle.writer.specs.declared.Repeats.{Repeats}
use Rattle.writer.specs.State.{State, fresh}
use Rattle.writer.specs.Put.{after_put}
use Rattle.writer.specs.Close.{closing, closed_size, after_close}
use Rattle.lists.specs.Calls.{Call, put, close, after, accepted_one, put_due, due_to, accepted_from, accepted}
use Rattle.lists.specs.Demand3.{after_list, accepted_puts, image_of}
use Rattle.lists.specs.Theorems.AfterClose.{AfterClose, CloseReadable}
use Rattle.lists.proofs.ListWritten.{Written}
use Rattle.lists.proofs.ListPuts.{put_due_lem}
use Rattle.lists.proofs.ListCloses.{close_written}
use Rattle.lists.proofs.CallLists.{two_way_lem, after_append, accepted_after_close, list_accepted, list_written}
use Rattle.lists.proofs.OneMoreClose.{list_gives, list_twice}
use Rattle.lists.proofs.Theorem.{calls_imaged, list_answered}

module _ (repeats : Repeats) (buffer : List ℕ) (cs : List Call) (size : ℕ) (room : head_size ≤ length buffer)
    (gave : closing (after_list Twoway repeats buffer cs) ≡ value size) where
  -- the size that the close gave is that of the image
  size_is : size ≡ closed_size (after_list Twoway repeats buffer cs)
  size_is = same_value _ _ (sym gave ∙ list_gives Twoway repeats buffer room cs (two_way_lem cs))

  -- so the bytes that stand are the image of the one more close after cs
  bytes_are : take size (after_list Twoway repeats buffer (cs ++ (close ∷ []))).buffer ≡ image_of Twoway repeats buffer cs
  unfolding image_of after
  bytes_are = ap₂ take size_is (ap (λ (s : State). s.buffer) (after_append (fresh Twoway repeats buffer) cs (close ∷ [])))

  same_puts : accepted_puts Twoway repeats buffer (cs ++ (close ∷ [])) ≡ accepted_puts Twoway repeats buffer cs
  unfolding accepted_from
  same_puts =
      list_accepted Twoway repeats buffer room (cs ++ (close ∷ [])) (two_way_lem (cs ++ (close ∷ [])))
      ∙ accepted_after_close Twoway repeats (length buffer) cs []
      ∙ sym (list_accepted Twoway repeats buffer room cs (two_way_lem cs))

  after_close_lem : AfterClose repeats buffer cs size
  after_close_lem =
      record {
        same_puts = same_puts;
        stands = bytes_are ∙ calls_imaged Twoway repeats buffer cs room (two_way_lem cs);
        answered = rw bytes_are (list_answered repeats buffer cs room);
      }

-- ---- calls of which no put is accepted

accepted_grows : (mode : Mode) (repeats : Repeats) (n : ℕ) (es : List Entry) (cs : List Call) → length es ≤ length (accepted_from mode repeats n es cs)
unfolding accepted_from
accepted_grows mode repeats n es [] = omega arith
accepted_grows mode repeats n es (c ∷ cs) =
    let one = accepted_one c (due_to mode repeats n es c) in
    omega (arith, accepted_grows mode repeats n (es ++ one) cs, length-append es one)

-- they leave a closed state as it is
module _ (mode : Mode) (repeats : Repeats) (n : ℕ) (es : List Entry) (s : State) (w : Written mode repeats n es s) (closed : after_close s ≡ s) where
  none_changes : (cs : List Call) → accepted_from mode repeats n es cs ≡ es → after s cs ≡ s
  unfolding after accepted_from after_put
  none_changes [] h = refl
  none_changes (close ∷ cs) h =
      let same : es ++ [] ≡ es = append-nil es in
      ap (λ (x : State). after x cs) closed ∙ none_changes cs (ap (λ (l : List Entry). accepted_from mode repeats n l cs) (sym same) ∙ h)
  none_changes (put e ∷ cs) h = put_changes_none (eqb (put_due mode repeats n es e) 0) refl h (none_changes cs)
    where
      put_changes_none : (b : Bool) → eqb (put_due mode repeats n es e) 0 ≡ b → accepted_from mode repeats n (es ++ cond b (e ∷ []) []) cs ≡ es
          → (accepted_from mode repeats n es cs ≡ es → after s cs ≡ s) → after (after_put s e) cs ≡ s
      put_changes_none true d k rest =
          absurd (omega (arith, accepted_grows mode repeats n (es ++ (e ∷ [])) cs, length-append es (e ∷ []), ap length k))
      put_changes_none false d k rest = rw (put_due_lem mode repeats n es s w e, d) (rest (rw (append-nil es) at k))

module _ (repeats : Repeats) (buffer : List ℕ) (cs more : List Call) (room : head_size ≤ length buffer) where
  -- record and buffer after the close
  there : State
  there = after_close (after_list Twoway repeats buffer cs)

  there_written : Written Twoway repeats (length buffer) (accepted Twoway repeats (length buffer) cs) there
  unfolding there
  there_written =
      close_written Twoway repeats (length buffer) (accepted Twoway repeats (length buffer) cs) (after_list Twoway repeats buffer cs)
      (list_written Twoway repeats buffer room cs (two_way_lem cs))

  no_more : accepted_puts Twoway repeats buffer (cs ++ (close ∷ more)) ≡ accepted_puts Twoway repeats buffer cs
      → accepted_from Twoway repeats (length buffer) (accepted Twoway repeats (length buffer) cs) more ≡ accepted Twoway repeats (length buffer) cs
  no_more h =
      sym (accepted_after_close Twoway repeats (length buffer) cs more)
      ∙ sym (list_accepted Twoway repeats buffer room (cs ++ (close ∷ more)) (two_way_lem (cs ++ (close ∷ more))))
      ∙ h
      ∙ list_accepted Twoway repeats buffer room cs (two_way_lem cs)

  kept : accepted_puts Twoway repeats buffer (cs ++ (close ∷ more)) ≡ accepted_puts Twoway repeats buffer cs
      → after_list Twoway repeats buffer (cs ++ (close ∷ more)) ≡ after_list Twoway repeats buffer (cs ++ (close ∷ []))
  unfolding after there
  kept h =
      after_append (fresh Twoway repeats buffer) cs (close ∷ more)
      ∙ none_changes Twoway repeats (length buffer) (accepted Twoway repeats (length buffer) cs) there there_written
      (list_twice Twoway repeats buffer room cs (two_way_lem cs)) more (no_more h)
      ∙ sym (after_append (fresh Twoway repeats buffer) cs (close ∷ []))

pub close_readable : CloseReadable
close_readable =
    record { after_close_lem = after_close_lem; kept = kept; repaired = λ repeats buffer cs more. after_close_lem repeats buffer (cs ++ (close ∷ more)) }

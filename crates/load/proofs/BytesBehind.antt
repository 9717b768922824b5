-- What stands behind the entries of a load keeps its content while they are put. Assumes nothing.
use Prim.Native.Nat.{ℕ, zero, suc, ◌+◌, ◌*◌, ◌-◌, ◌≤◌}
use native.Mathlib.Omega.{arith}
use mathlib.Core.Path.{◌≡◌, refl, sym, ap, ◌∙◌}
use mathlib.Core.List.{List}
use lib.ListN.{length, drop}
use lib.Seq.{drop-drop}
use Rattle.image.specs.declared.Mode.TheVariants.{Twoway}
use Rattle.image.specs.Image.{Entry, head_size, entry_size, entries_size}
use Rattle.writer.specs.declared.Repeats.TheVariants.{On}
use Rattle.writer.specs.State.{State, fresh}
use Rattle.writer.specs.Put.{after_put}
use Rattle.writer.proofs.Kept.{put_keeps_behind}
use Rattle.lists.specs.Calls.{after, accepted}
use Rattle.lists.specs.Demand3.{after_list}
use Rattle.lists.proofs.CallLists.{two_way_lem, list_written}
use Rattle.load.specs.States.{load_entry}
use Rattle.load.specs.Theorems.Rebuilt.{first_puts, room_for}
use Rattle.load.proofs.AcceptedEntries.{entry_bytes, first_bytes, accepted_first, after_next}

-- bytes that are the same from a place on are the same from every later one
further : (a m : ℕ) (l r : List ℕ) → a ≤ m → drop a l ≡ drop a r → drop m l ≡ drop m r
further a m l r h e =
    let sum : a + (m - a) ≡ m = omega arith in
    ap (λ (k : ℕ). drop k l) (sym sum) ∙ sym (drop-drop (m - a) a l) ∙ ap (drop (m - a)) e ∙ drop-drop (m - a) a r ∙ ap (λ (k : ℕ). drop k r) sum

module _ (seed : ℕ) (buffer : List ℕ) (room : head_size ≤ length buffer) (m : ℕ) where
  abbrev left : ℕ → State
  left k = after_list Twoway On buffer (first_puts seed k)

  end_is : (k : ℕ) → k ≤ room_for (length buffer) → (left k).writer.end ≡ head_size + 18 * k
  end_is k h =
      let w = list_written Twoway On buffer room (first_puts seed k) (two_way_lem (first_puts seed k)) in
      let size : entries_size (accepted Twoway On (length buffer) (first_puts seed k)) ≡ 18 * k =
      ap entries_size (accepted_first seed buffer room k h) ∙ first_bytes seed k in
      omega (arith, w.end)

  pub puts_behind : (k : ℕ) → k ≤ room_for (length buffer) → head_size + 18 * k ≤ m
      → drop m (after_list Twoway On buffer (first_puts seed k)).buffer ≡ drop m buffer
  unfolding first_puts after fresh
  puts_behind zero low h = refl
  puts_behind (suc k) low h =
      let e : Entry = load_entry seed k in
      ap (λ (s : State). drop m s.buffer) (after_next seed buffer room k)
      ∙ further ((left k).writer.end + entry_size e) m (after_put (left k) e).buffer (left k).buffer
      (omega (arith, end_is k (omega arith), entry_bytes seed k)) (put_keeps_behind (left k) e)
      ∙ puts_behind k (omega arith) (omega arith)

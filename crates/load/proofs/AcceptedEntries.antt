-- The load as a list of calls: which entries are accepted follows from the buffer's length alone. Assumes nothing.
use Prim.Native.Nat.{ℕ, zero, suc, ◌+◌, ◌*◌, ◌<◌, ◌≤◌}
use native.Mathlib.Omega.{arith}
use native.Mathlib.Decide.{dec_lt}
use mathlib.Core.Path.{◌≡◌, refl, sym, ap, ◌∙◌}
use mathlib.Core.Bool.{cond, and-false}
use mathlib.Core.List.{List, [], ◌∷◌, ◌++◌}
use lib.ListN.{length, length-append}
use borrow.Author.Tests.{lt-ltb, le-ltb}
use Rattle.image.specs.declared.Mode.TheVariants.{Twoway}
use Rattle.image.specs.Image.{Entry, head_size, entry_size, entries_size, back_size, contains_name}
use Rattle.writer.specs.declared.Repeats.TheVariants.{On}
use Rattle.writer.specs.State.{fresh, too_large}
use Rattle.writer.specs.Put.{put_refusal, after_put}
use Rattle.lists.specs.Calls.{put, after, put_due, accepted, accepted_after, accepted_from, accepted_one, size_of}
use Rattle.lists.specs.Demand3.{after_list}
use Rattle.lists.proofs.Appended.{entries_size-snoc, back_size-snoc, size_of_is}
use Rattle.lists.proofs.ListPuts.{put_due_lem}
use Rattle.lists.proofs.CallLists.{two_way_lem, after_append, accepted_append, list_written}
use Rattle.lists.proofs.RepeatsOff.{put_all-append}
use Rattle.load.specs.States.{state_after, load_entry}
use Rattle.load.specs.Load.{put_from}
use Rattle.load.specs.Theorems.Rebuilt.{first_entries, first_puts, room_for}
use Rattle.load.proofs.StateNames.{name_free, nine_bytes}
use Rattle.load.proofs.PutTurns.{put_accepted, put_refused}

-- ---- sizes

module _ (seed : ℕ) where
  pub entry_bytes : (k : ℕ) → entry_size (load_entry seed k) ≡ 18
  unfolding load_entry
  entry_bytes k = omega (arith, nine_bytes (state_after seed (suc k)))

  pub first_bytes : (k : ℕ) → entries_size (first_entries seed k) ≡ 18 * k
  unfolding first_entries entries_size
  first_bytes zero = refl
  first_bytes (suc k) = omega (arith, entries_size-snoc (first_entries seed k) (load_entry seed k), entry_bytes k, first_bytes k)

  pub first_number : (k : ℕ) → length (first_entries seed k) ≡ k
  unfolding first_entries
  first_number zero = refl
  first_number (suc k) = omega (arith, length-append (first_entries seed k) (load_entry seed k ∷ []), first_number k)

  first_back : (k : ℕ) → back_size (first_entries seed k) ≡ k
  unfolding first_entries back_size load_entry
  first_back zero = refl
  first_back (suc k) = omega (arith, back_size-snoc (first_entries seed k) (load_entry seed k), first_back k)

  -- each entry takes 38 bytes of the image
  pub first_size : (k : ℕ) → size_of Twoway (first_entries seed k) ≡ head_size + 38 * k
  first_size k = omega (arith, size_of_is Twoway (first_entries seed k), first_bytes k, first_number k, first_back k)

-- ---- what is due to the next entry

next_due : (n seed k : ℕ) → put_due Twoway On n (first_entries seed k) (load_entry seed k) ≡ cond (too_large n (head_size + 38 * suc k)) 3 0
unfolding put_due first_entries load_entry
next_due n seed k =
    rw (name_free (state_after seed (suc k)), and-false (contains_name (load_entry seed k).name (first_entries seed k)), first_size seed (suc k))

pub due_none : (n seed k : ℕ) → head_size + 38 * suc k ≤ n → k < 4096 → put_due Twoway On n (first_entries seed k) (load_entry seed k) ≡ 0
due_none n seed k room few =
    let size : ℕ = head_size + 38 * suc k in
    let small : size ≤ 4294967295 = omega arith in
    next_due n seed k ∙ rw (le-ltb n size room, le-ltb 4294967295 size small)

pub due_three : (n seed k : ℕ) → n < head_size + 38 * suc k → put_due Twoway On n (first_entries seed k) (load_entry seed k) ≡ 3
due_three n seed k full = next_due n seed k ∙ rw (lt-ltb n (head_size + 38 * suc k) full)

-- ---- the accepted puts

module _ (seed : ℕ) (buffer : List ℕ) (room : head_size ≤ length buffer) where
  abbrev most : ℕ
  most = room_for (length buffer)

  puts_next : (k : ℕ) → first_puts seed (suc k) ≡ first_puts seed k ++ (put (load_entry seed k) ∷ [])
  unfolding first_puts
  puts_next k = put_all-append (first_entries seed k) (load_entry seed k ∷ [])

  accepted_next : (k : ℕ) → put_due Twoway On (length buffer) (first_entries seed k) (load_entry seed k) ≡ 0
      → accepted Twoway On (length buffer) (first_puts seed k) ≡ first_entries seed k
      → accepted Twoway On (length buffer) (first_puts seed (suc k)) ≡ first_entries seed (suc k)
  unfolding accepted first_puts first_entries accepted_from
  accepted_next k due before =
      ap (accepted_from Twoway On (length buffer) []) (puts_next k)
      ∙ accepted_append Twoway On (length buffer) [] (first_puts seed k) (put (load_entry seed k) ∷ [])
      ∙ ap (λ (es : List Entry). accepted_after Twoway On (length buffer) es (put (load_entry seed k))) before
      ∙ ap (λ (r : ℕ). first_entries seed k ++ accepted_one (put (load_entry seed k)) r) due

  pub accepted_first : (k : ℕ) → k ≤ room_for (length buffer) → accepted Twoway On (length buffer) (first_puts seed k) ≡ first_entries seed k
  unfolding accepted first_puts first_entries accepted_from
  accepted_first zero h = refl
  accepted_first (suc k) h =
      accepted_next k (due_none (length buffer) seed k (omega arith) (omega arith)) (accepted_first k (omega arith))

  -- what the next entry is answered after the first k
  answered : (k : ℕ) → k ≤ room_for (length buffer)
      → put_refusal (after_list Twoway On buffer (first_puts seed k)) (load_entry seed k)
      ≡ put_due Twoway On (length buffer) (first_entries seed k) (load_entry seed k)
  answered k h =
      put_due_lem Twoway On (length buffer) (accepted Twoway On (length buffer) (first_puts seed k)) (after_list Twoway On buffer (first_puts seed k))
      (list_written Twoway On buffer room (first_puts seed k) (two_way_lem (first_puts seed k))) (load_entry seed k)
      ∙ ap (λ (es : List Entry). put_due Twoway On (length buffer) es (load_entry seed k)) (accepted_first k h)

  pub after_next : (k : ℕ) → after_list Twoway On buffer (first_puts seed (suc k))
      ≡ after_put (after_list Twoway On buffer (first_puts seed k)) (load_entry seed k)
  unfolding after
  after_next k = ap (after_list Twoway On buffer) (puts_next k) ∙ after_append (fresh Twoway On buffer) (first_puts seed k) (put (load_entry seed k) ∷ [])

  -- fewer than 4,096 are accepted only where the next has no room
  pub stops_at : room_for (length buffer) < 4096
      → put_refusal (after_list Twoway On buffer (first_puts seed (room_for (length buffer)))) (load_entry seed (room_for (length buffer))) ≡ 3
  stops_at few = answered most (omega arith) ∙ due_three (length buffer) seed most (omega arith)

  -- from the first i on, m more at most
  pub reached : (m i : ℕ) → i + m ≡ 4096 → i ≤ room_for (length buffer)
      → put_from seed m i (after_list Twoway On buffer (first_puts seed i)) ≡ after_list Twoway On buffer (first_puts seed (room_for (length buffer)))
  unfolding put_from
  reached zero i h low = let e : i ≡ most = omega arith in ap (λ (k : ℕ). after_list Twoway On buffer (first_puts seed k)) e
  reached (suc m) i h low =
      elim (dec_lt i most) [
        | yes less ↦
            put_accepted seed m i (after_list Twoway On buffer (first_puts seed i))
            (answered i low ∙ due_none (length buffer) seed i (omega arith) (omega arith))
            ∙ ap (put_from seed m (suc i)) (sym (after_next i))
            ∙ reached m (suc i) (omega arith) (omega arith)
        | no more ↦
            (let e : i ≡ most = omega arith in
            put_refused seed m i (after_list Twoway On buffer (first_puts seed i))
            (λ z. let three = sym z ∙ answered i low ∙ due_three (length buffer) seed i (omega arith) in omega arith)
            ∙ ap (λ (k : ℕ). after_list Twoway On buffer (first_puts seed k)) e)
      ]

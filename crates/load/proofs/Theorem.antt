-- What is proved of the load: 02 (xiii). Assumes nothing.
use Prim.Native.Nat.{ℕ, ◌+◌, ◌*◌, ◌≤◌}
use native.Mathlib.Omega.{arith}
use mathlib.Core.Path.{◌≡◌, refl, sym, ap, ap₂, ◌∙◌}
use mathlib.Core.Bool.{true}
use mathlib.Core.List.{List, ◌++◌}
use lib.ListN.{length, take, drop}
use lib.Seq.{drop_at}
use lib.Dec.{eqb}
use borrow.Author.Tests.{lt-ltb}
use Rattle.jhash.specs.Outcome.{value}
use Rattle.image.specs.declared.Mode.TheVariants.{Twoway}
use Rattle.image.specs.Image.{Entry, head_size, image_size, image}
use Rattle.image.proofs.Sizes.{length_image}
use Rattle.writer.specs.declared.Repeats.TheVariants.{On}
use Rattle.writer.specs.State.{State, begin_refusal}
use Rattle.writer.specs.Put.{put_refusal}
use Rattle.writer.specs.Close.{closing, closed_size, after_close}
use Rattle.lists.specs.Calls.{after, accepted, size_of}
use Rattle.lists.specs.Demand3.{after_list, accepted_puts, image_of}
use Rattle.lists.proofs.ListWritten.{Written}
use Rattle.lists.proofs.Appended.{size_of_is}
use Rattle.lists.proofs.ListCloses.{close_closed, closed_buffer}
use Rattle.lists.proofs.CallLists.{two_way_lem, list_accepted, list_written, begin_accepts}
use Rattle.lists.proofs.Theorem.{one_list, calls_answered}
use Rattle.load.specs.States.{load_entry}
use Rattle.load.specs.Load.{load_put, loading, after_load}
use Rattle.load.specs.Theorems.Rebuilt.{first_entries, first_puts, room_for, LoadHolds, Rebuilt}
use Rattle.load.proofs.StateNames.{nine_bytes, state_word, digits_read}
use Rattle.load.proofs.BeginAnswers.{accepted_load}
use Rattle.load.proofs.AcceptedEntries.{first_size, first_number, accepted_first, stops_at, reached}
use Rattle.load.proofs.BytesBehind.{puts_behind}

module _ (seed : ℕ) (buffer : List ℕ) (room : head_size ≤ length buffer) where
  abbrev k : ℕ
  k = room_for (length buffer)

  abbrev left : State
  left = after_list Twoway On buffer (first_puts seed k)

  stands : Written Twoway On (length buffer) (accepted Twoway On (length buffer) (first_puts seed k)) left
  stands = list_written Twoway On buffer room (first_puts seed k) (two_way_lem (first_puts seed k))

  listed : load_put seed buffer ≡ left
  unfolding load_put first_puts after
  listed = reached seed buffer room 4096 0 refl (omega arith)

  all_accepted : accepted_puts Twoway On buffer (first_puts seed k) ≡ first_entries seed k
  all_accepted = list_accepted Twoway On buffer room (first_puts seed k) (two_way_lem (first_puts seed k)) ∙ accepted_first seed buffer room k (omega arith)

  sized : closed_size left ≡ head_size + 38 * k
  sized =
      (calls_answered Twoway On buffer (first_puts seed k) room (two_way_lem (first_puts seed k))).sized
      ∙ ap (size_of Twoway) all_accepted
      ∙ first_size seed k

  begins : eqb (begin_refusal (length buffer)) 0 ≡ true
  begins = rw (begin_accepts (length buffer) room)

  bytes_left : after_load seed buffer ≡ (after_close left).buffer
  bytes_left = sym (accepted_load seed buffer begins).leaves ∙ ap (λ (s : State). (after_close s).buffer) listed

  entries_left : left.writer.entries ≡ k
  entries_left = stands.entries ∙ ap length (accepted_first seed buffer room k (omega arith)) ∙ first_number seed k

  imaged : take (head_size + 38 * k) (after_load seed buffer) ≡ image_of Twoway On buffer (first_puts seed k)
  unfolding image_of
  imaged = ap₂ take (sym sized) bytes_left

  -- the close keeps what stands behind the image, and no put came there
  behind : drop (head_size + 38 * k) (after_load seed buffer) ≡ drop (head_size + 38 * k) buffer
  behind =
      let es : List Entry = accepted Twoway On (length buffer) (first_puts seed k) in
      let size : image_size Twoway es ≡ head_size + 38 * k =
      sym (size_of_is Twoway es) ∙ ap (size_of Twoway) (accepted_first seed buffer room k (omega arith)) ∙ first_size seed k in
      let bytes : after_load seed buffer ≡ image Twoway es ++ drop (image_size Twoway es) left.buffer =
      bytes_left
      ∙ ap (λ (s : State). s.buffer) (close_closed Twoway On (length buffer) es left stands)
      ∙ closed_buffer Twoway On (length buffer) es left stands in
      ap₂ drop (sym size) bytes
      ∙ drop_at (image Twoway es) (drop (image_size Twoway es) left.buffer) (image_size Twoway es) (length_image Twoway es)
      ∙ ap (λ (m : ℕ). drop m left.buffer) size
      ∙ puts_behind seed buffer room (head_size + 38 * k) k (omega arith) (omega arith)

  pub loaded : LoadHolds seed buffer (room_for (length buffer))
  loaded =
      record {
        given =
            sym (accepted_load seed buffer begins).gives
            ∙ ap (λ (s : State). value s.writer.entries) listed
            ∙ ap (λ (n : ℕ). value n) entries_left;
        listed = listed;
        all_accepted = all_accepted;
        demand3 = one_list On buffer (first_puts seed k) room;
        closes =
            ap closing listed
            ∙ (calls_answered Twoway On buffer (first_puts seed k) room (two_way_lem (first_puts seed k))).closes
            ∙ ap (λ (n : ℕ). value n) sized;
        imaged = imaged;
        kept = behind;
        stops = λ few. ap (λ (s : State). put_refusal s (load_entry seed k)) listed ∙ stops_at seed buffer room few;
      }

pub rebuilt : Rebuilt
unfolding loading after_load
rebuilt =
    record {
      state_word = state_word;
      digits_read = digits_read;
      nine_bytes = nine_bytes;
      loaded = loaded;
      all_loaded = λ seed buffer large.
          let full : room_for (length buffer) ≡ 4096 = omega arith in
          let room : head_size ≤ length buffer = omega arith in
          rw (← full) (loaded seed buffer room);
      full_size = refl;
      too_short = λ seed buffer short. rw (lt-ltb (length buffer) head_size short);
      untouched = λ seed buffer short. rw (lt-ltb (length buffer) head_size short);
    }

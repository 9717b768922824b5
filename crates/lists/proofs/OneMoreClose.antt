-- One more close after a list of calls from a fresh record, and what follows of lists without puts and of closing twice. Assumes nothing.
use Prim.Native.Nat.{ℕ, ◌≤◌}
use native.Mathlib.Omega.{arith}
use mathlib.Core.Path.{◌≡◌, refl, sym, ◌∙◌}
use mathlib.Core.List.{List, [], ◌∷◌, append-nil}
use lib.ListN.{length}
use Rattle.jhash.specs.Outcome.{value}
use Rattle.image.specs.declared.Mode.{Mode}
use Rattle.image.specs.Image.{Entry, head_size, image_size, image}
use Rattle.writer.specs.declared.Repeats.{Repeats}
use Rattle.writer.specs.State.{State}
use Rattle.writer.specs.Close.{close_refusal, closed_size, closed_image, closing, after_close}
use Rattle.lists.specs.Calls.{Call, put, close, accepted_from, accepted, size_of, puts, WordIds}
use Rattle.lists.specs.Demand3.{after_list}
use Rattle.lists.proofs.ListWritten.{Written}
use Rattle.lists.proofs.Appended.{size_of_is}
use Rattle.lists.proofs.WrittenRecord.{written_size}
use Rattle.lists.proofs.ListCloses.{close_accepted, close_image, close_again}
use Rattle.lists.proofs.CallLists.{list_written}

module _ (mode : Mode) (repeats : Repeats) (buffer : List ℕ) (room : head_size ≤ length buffer) (cs : List Call) (word : WordIds mode cs) where
  -- what the list leaves, and the puts that were accepted
  abbrev left : State
  left = after_list mode repeats buffer cs

  abbrev entered : List Entry
  entered = accepted mode repeats (length buffer) cs

  stands : Written mode repeats (length buffer) entered left
  stands = list_written mode repeats buffer room cs word

  -- one more close is accepted
  list_closes : close_refusal left ≡ 0
  list_closes = close_accepted mode repeats (length buffer) entered left stands

  pub list_gives : closing (after_list mode repeats buffer cs) ≡ value (closed_size (after_list mode repeats buffer cs))
  unfolding closing
  list_gives = rw list_closes

  -- the size that it gives
  pub list_formula : closed_size (after_list mode repeats buffer cs) ≡ size_of mode (accepted mode repeats (length buffer) cs)
  list_formula = written_size mode repeats (length buffer) entered left stands ∙ sym (size_of_is mode entered)

  -- its image is that of the accepted puts
  pub list_image : closed_image (after_list mode repeats buffer cs) ≡ image mode (accepted mode repeats (length buffer) cs)
  list_image = close_image mode repeats (length buffer) entered left stands

  -- whose size is a word
  pub list_below : image_size mode (accepted mode repeats (length buffer) cs) ≤ 4294967295
  list_below = stands.below

  -- closing twice leaves what closing once leaves
  pub list_twice : after_close (after_close (after_list mode repeats buffer cs)) ≡ after_close (after_list mode repeats buffer cs)
  list_twice = close_again mode repeats (length buffer) entered left stands

-- ---- a list without puts

none_from : (mode : Mode) (repeats : Repeats) (n : ℕ) (es : List Entry) (cs : List Call) → puts cs ≡ [] → accepted_from mode repeats n es cs ≡ es
unfolding accepted_from puts
none_from mode repeats n es [] h = refl
none_from mode repeats n es (put e ∷ cs) h = absurd (let z : ◌≡◌ {A = ℕ} 0 1 = cc in omega arith)
none_from mode repeats n es (close ∷ cs) h = rw (append-nil es) (none_from mode repeats n es cs h)

pub none_accepted : (mode : Mode) (repeats : Repeats) (n : ℕ) (cs : List Call) → puts cs ≡ [] → accepted mode repeats n cs ≡ []
unfolding accepted
none_accepted mode repeats n cs h = none_from mode repeats n [] cs h

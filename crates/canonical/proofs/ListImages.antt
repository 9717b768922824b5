-- Lists of calls close to canonical images, and a canonical image is what the list of its puts closes to. Assumes nothing.
use Prim.Native.Nat.{ℕ, ◌^◌, ◌≤◌, ◌<◌}
use native.Mathlib.Omega.{arith}
use mathlib.Core.Path.{◌≡◌, sym, ap, ◌∙◌}
use mathlib.Core.Bool.{false, and-false}
use mathlib.Core.List.{List, [], ◌∷◌, ◌++◌, append_assoc, append-nil}
use lib.ListN.{length, length-append}
use borrow.Author.Tests.{le-ltb}
use Rattle.image.specs.Image.{Entry, head_size, back_size, image_size, image, contains_name}
use Rattle.image.specs.Zero.{has_zero}
use Rattle.image.specs.declared.Mode.{Mode}
use Rattle.image.specs.declared.Mode.TheVariants.{Twoway, Oneway}
use Rattle.image.proofs.AllOfList.{All}
use Rattle.image.proofs.Sizes.{entries_size-append, length_image}
use Rattle.writer.specs.declared.Repeats.{Repeats}
use Rattle.writer.specs.declared.Repeats.TheVariants.{On}
use Rattle.lists.specs.Calls.{Call, put, accepted_one, size_of, put_due, accepted_from, accepted, WordIds, put_all}
use Rattle.lists.specs.Demand3.{accepted_puts, image_of}
use Rattle.lists.proofs.Appended.{size_of_is}
use Rattle.lists.proofs.Capacity.{back_rises}
use Rattle.lists.proofs.CallLists.{list_written, list_accepted}
use Rattle.lists.proofs.OneMoreClose.{list_image, list_below}
use Rattle.lists.proofs.Readings.{accepted_free}
use Rattle.canonical.specs.Steps.Made.{Storable, Made}
use Rattle.canonical.specs.Canonical.{puts_in, mode_in}
use Rattle.canonical.proofs.ReadBack.{word_ids, storables, puts_image, flag_of_image}

-- ---- the image of every list is canonical, and its puts are the accepted ones

module _ (mode : Mode) (repeats : Repeats) (buffer : List ℕ) (room : head_size ≤ length buffer) (cs : List Call) (word : WordIds mode cs) where
  ids : All (λ (e : Entry). e.id < 2 ^ 32) (accepted mode repeats (length buffer) cs)
  ids =
      let w = list_written mode repeats buffer room cs word in
      word_ids (accepted mode repeats (length buffer) cs) (2 ^ 32) w.ids (omega arith)

  of_accepted : image_of mode repeats buffer cs ≡ image mode (accepted mode repeats (length buffer) cs)
  unfolding image_of
  of_accepted = list_image mode repeats buffer room cs word

  pub list_made : Made (image_of mode repeats buffer cs)
  list_made = record {
    mode = mode;
    puts = accepted mode repeats (length buffer) cs;
    each = storables (accepted mode repeats (length buffer) cs) (accepted_free mode repeats (length buffer) cs) ids;
    fits = list_below mode repeats buffer room cs word;
    is = sym of_accepted;
  }

  pub list_puts : puts_in (image_of mode repeats buffer cs) ≡ accepted_puts mode repeats buffer cs
  list_puts =
      ap puts_in of_accepted
      ∙ puts_image mode (accepted mode repeats (length buffer) cs) ids (list_below mode repeats buffer room cs word)
      ∙ sym (list_accepted mode repeats buffer room cs word)

  pub list_mode : mode_in (image_of mode repeats buffer cs) ≡ mode
  list_mode = ap mode_in of_accepted ∙ flag_of_image mode (accepted mode repeats (length buffer) cs) ids (list_below mode repeats buffer room cs word)

-- two lists that close to the same image have the same accepted puts
pub lists_injective : (mode : Mode) (repeats₁ : Repeats) (buffer₁ : List ℕ) (room₁ : head_size ≤ length buffer₁) (cs₁ : List Call) (word₁ : WordIds mode cs₁)
    (repeats₂ : Repeats) (buffer₂ : List ℕ) (room₂ : head_size ≤ length buffer₂) (cs₂ : List Call) (word₂ : WordIds mode cs₂)
    → image_of mode repeats₁ buffer₁ cs₁ ≡ image_of mode repeats₂ buffer₂ cs₂ → accepted_puts mode repeats₁ buffer₁ cs₁
    ≡ accepted_puts mode repeats₂ buffer₂ cs₂
lists_injective mode repeats₁ buffer₁ room₁ cs₁ word₁ repeats₂ buffer₂ room₂ cs₂ word₂ e =
    sym (list_puts mode repeats₁ buffer₁ room₁ cs₁ word₁) ∙ ap puts_in e ∙ list_puts mode repeats₂ buffer₂ room₂ cs₂ word₂

-- ---- a canonical image is that of the list of its puts

back_size_more : (xs ys : List Entry) → back_size xs ≤ back_size (xs ++ ys)
unfolding back_size
back_size_more [] ys = omega arith
back_size_more (e ∷ xs) ys = let h = back_size_more xs ys in omega arith

size_of_more : (mode : Mode) (xs ys : List Entry) → size_of mode xs ≤ size_of mode (xs ++ ys)
size_of_more mode xs ys =
    let back = back_rises mode (back_size xs) (back_size (xs ++ ys)) (back_size_more xs ys) in
    omega (arith, size_of_is mode xs, size_of_is mode (xs ++ ys), entries_size-append xs ys, length-append xs ys)

-- in the repeats mode nothing is due to a put whose name has no zero byte, where its size exceeds neither limit
none_due : (mode : Mode) (n : ℕ) (done : List Entry) (e : Entry) → has_zero e.name ≡ false → size_of mode (done ++ (e ∷ [])) ≤ n
    → size_of mode (done ++ (e ∷ [])) ≤ 4294967295 → put_due mode On n done e ≡ 0
unfolding put_due
none_due mode n done e free h k =
    rw (free, and-false (contains_name e.name done), le-ltb n (size_of mode (done ++ (e ∷ []))) h, le-ltb 4294967295 (size_of mode (done ++ (e ∷ []))) k)

all_accepted : (mode : Mode) (n : ℕ) (done es : List Entry) → All Storable es → size_of mode (done ++ es) ≤ n → size_of mode (done ++ es) ≤ 4294967295
    → accepted_from mode On n done (put_all es) ≡ done ++ es
unfolding accepted_from put_all
all_accepted mode n done [] a h k = sym (append-nil done)
all_accepted mode n done (e ∷ es) a h k =
    let g : (done ++ (e ∷ [])) ++ es ≡ done ++ e ∷ es = append_assoc done (e ∷ []) es in
    let s = ap (size_of mode) g in
    let m = size_of_more mode (done ++ (e ∷ [])) es in
    ap (λ (r : ℕ). accepted_from mode On n (done ++ accepted_one (put e) r) (put_all es)) (none_due mode n done e a.0.free (omega arith) (omega arith))
    ∙ all_accepted mode n (done ++ (e ∷ [])) es a.1 (omega arith) (omega arith)
    ∙ g

pub words : (mode : Mode) (es : List Entry) → All Storable es → WordIds mode (put_all es)
unfolding put_all
words mode [] a = tt
words Twoway (e ∷ es) a = (tt, words Twoway es a.1)
words Oneway (e ∷ es) a = (a.0.id_word, words Oneway es a.1)

module _ (img : List ℕ) (m : Made img) (buffer : List ℕ) (long : length img ≤ length buffer) where
  pub made_size : length img ≡ image_size m.mode m.puts
  made_size = sym (ap length m.is) ∙ length_image m.mode m.puts

  pub made_room : head_size ≤ length buffer
  made_room = omega (arith, made_size)

  pub accepted_all : accepted m.mode On (length buffer) (put_all m.puts) ≡ m.puts
  unfolding accepted
  accepted_all =
      let e = size_of_is m.mode m.puts in
      let f = m.fits in
      all_accepted m.mode (length buffer) [] m.puts m.each (omega (arith, made_size)) (omega arith)

  pub made_accepted : accepted_puts m.mode On buffer (put_all m.puts) ≡ m.puts
  made_accepted = list_accepted m.mode On buffer made_room (put_all m.puts) (words m.mode m.puts m.each) ∙ accepted_all

  pub made_closes : image_of m.mode On buffer (put_all m.puts) ≡ img
  made_closes =
      of_accepted m.mode On buffer made_room (put_all m.puts) (words m.mode m.puts m.each)
      ∙ ap (image m.mode) accepted_all
      ∙ m.is

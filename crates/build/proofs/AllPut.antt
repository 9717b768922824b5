-- A list of puts of which none is refused: the entries are all names with their ids, and one close leaves their image. Assumes nothing.
use Prim.Native.Nat.{ℕ, suc, ◌+◌, ◌*◌, ◌^◌, ◌≤◌, ◌<◌}
use native.Mathlib.Omega.{arith}
use mathlib.Core.Path.{◌≡◌, refl, sym, ap, ap₂, ◌∙◌}
use mathlib.Core.Bool.{Bool, true, false, cond, ◌||◌, ◌&&◌, and-false, or-false, or_assoc}
use mathlib.Core.List.{List, [], ◌∷◌, ◌++◌, map, append_assoc, append-nil}
use borrow.Author.Tests.{le-ltb}
use lib.ListN.{length, get_or, take, replicate, length-append}
use lib.Seq.{length-take-le}
use Rattle.image.specs.declared.Mode.{Mode}
use Rattle.image.specs.declared.Mode.TheVariants.{Twoway, Oneway}
use Rattle.image.specs.Bytes.{same}
use Rattle.image.specs.Image.{Entry, head_size, entries_end, back_size, back_in, back_size_of, image_size}
use Rattle.image.specs.Image.{has_name, contains_name}
use Rattle.image.specs.Zero.{has_zero}
use Rattle.image.proofs.Sizes.{entries_size-append}
use Rattle.image.specs.PackedNames.{names, invalid_ends, nth, begin_of}
use Rattle.image.proofs.NameEnds.{length_names}
use Rattle.writer.specs.declared.Repeats.{Repeats}
use Rattle.writer.specs.declared.Repeats.TheVariants.{Off, On}
use Rattle.writer.specs.State.{refuses_repeats, too_large}
use Rattle.writer.specs.Put.{entry_of}
use Rattle.lists.specs.Calls.{Call, put, accepted_after, due_from, accepted_from, accepted, due, size_of, put_due, WordId, WordIds, puts}
use Rattle.lists.specs.Demand3.{answers_of, accepted_puts}
use Rattle.lists.proofs.Appended.{size_of_is}
use Rattle.lists.proofs.CallLists.{list_answers, list_accepted}
use Rattle.build.specs.Build.{calls_of, listed}
use Rattle.build.specs.Needs.{at_most, ids_back, bytes_needed}
use Rattle.build.specs.Steps.Capacity.{bytes_for_all, RoomForAll}
use Rattle.build.specs.Steps.Steps.{entries_listed}
use Rattle.build.proofs.Offsets.{size_all as size-entries}
use Rattle.lists.proofs.Capacity.{back_rises}
use Rattle.build.proofs.Listed.{length_listed, names_listed, back_listed}

-- ---- the entries of all names

module _ (bytes ends ids : List ℕ) (good : invalid_ends (length bytes) 0 ends ≡ false) (many : length ends ≤ length ids) where
  pub number_all : length (entries_listed (names bytes ends) ids) ≡ length ends
  number_all = let n = length_names bytes ends in length_listed (names bytes ends) ids (omega arith) ∙ n

  pub names_all : map (λ (e : Entry). e.name) (entries_listed (names bytes ends) ids) ≡ names bytes ends
  names_all = let n = length_names bytes ends in names_listed (names bytes ends) ids (omega arith)

  pub end_all : entries_end (entries_listed (names bytes ends) ids) ≡ head_size + begin_of ends (length ends) + 9 * length ends
  end_all = size-entries bytes ends good (entries_listed (names bytes ends) ids) names_all

-- ---- the size of their image

module _ (mode : Mode) (bytes ends ids : List ℕ) (good : invalid_ends (length bytes) 0 ends ≡ false) (many : length ends ≤ length ids) where
  pub back_is : back_size_of mode (entries_listed (names bytes ends) ids) ≡ back_in mode (ids_back (take (length ends) ids))
  back_is =
      let n = length_names bytes ends in
      ap (back_in mode) (back_listed (names bytes ends) ids (omega arith) ∙ ap (λ (k : ℕ). ids_back (take k ids)) n)

  bytes_are : bytes_for_all mode ends ids ≡ at_most (image_size mode (entries_listed (names bytes ends) ids))
  unfolding bytes_needed
  bytes_are = omega (arith, end_all bytes ends ids good many, number_all bytes ends ids good many, back_is, length-take-le (length ends) ids many)

  pub size_within : {room : ℕ} → RoomForAll mode ends ids room → image_size mode (entries_listed (names bytes ends) ids) ≤ room
  size_within fits = omega (arith, bytes_are, fits.within, fits.small)

  pub size_small : {room : ℕ} → RoomForAll mode ends ids room → image_size mode (entries_listed (names bytes ends) ids) ≤ 4294967295
  size_small fits = omega (arith, bytes_are, fits.small)

-- ---- a name among the entries and one more

holds_more : (name : List ℕ) (es : List Entry) (e : Entry) → contains_name name (es ++ (e ∷ [])) ≡ (contains_name name es || same e.name name)
unfolding contains_name
holds_more name [] e = or-false (same e.name name)
holds_more name (x ∷ es) e =
    ap (λ (t : Bool). has_name name x || t) (holds_more name es e) ∙ sym (or_assoc (has_name name x) (contains_name name es) (same e.name name))

-- ---- what is due to each put

-- the first of some entries need no more room than all
back_front : (es more : List Entry) → back_size es ≤ back_size (es ++ more)
unfolding back_size
back_front [] more = omega arith
back_front (e ∷ es) more = omega (arith, back_front es more)

pub size_front : (mode : Mode) (es more : List Entry) → image_size mode es ≤ image_size mode (es ++ more)
size_front mode es more =
    omega (arith, entries_size-append es more, length-append es more, back_rises mode (back_size es) (back_size (es ++ more)) (back_front es more))

-- ids that are words
pub word_id : (mode : Mode) (x : List ℕ) (id : ℕ) → id < 2 ^ 32 → WordId mode (put (entry_of x id))
word_id Twoway x id h = tt
word_id Oneway x id h = h

pub word_ids : (mode : Mode) (xs : List (List ℕ)) (ids : List ℕ) → ((i : ℕ) → i < length xs → get_or ids i 0 < 2 ^ 32) → WordIds mode (calls_of xs ids)
unfolding calls_of
word_ids mode [] ids h = tt
word_ids mode (x ∷ xs) [] h = tt
word_ids mode (x ∷ xs) (id ∷ ids) h = (word_id mode x id (h 0 (omega arith)), word_ids mode xs ids (λ i k. h (suc i) (omega arith)))

-- after the puts es each of the names xs can be put: none has a zero byte or, with repeats off, stands before, and all have room
record Free (mode : Mode) (repeats : Repeats) (n : ℕ) (es : List Entry) (xs : List (List ℕ)) (ids : List ℕ) : Type 0 where
  many : length xs ≤ length ids
  within : image_size mode (es ++ entries_listed xs ids) ≤ n
  small : image_size mode (es ++ entries_listed xs ids) ≤ 4294967295
  words : (i : ℕ) → i < length xs → get_or ids i 0 < 2 ^ 32
  zeros : (i : ℕ) → i < length xs → has_zero (nth xs i) ≡ false
  new : refuses_repeats repeats ≡ true → (i : ℕ) → i < length xs → contains_name (nth xs i) es ≡ false
  apart : refuses_repeats repeats ≡ true → (i j : ℕ) → j < i → i < length xs → same (nth xs j) (nth xs i) ≡ false

module _ (mode : Mode) (repeats : Repeats) (n : ℕ) where
  module _ (es : List Entry) (x : List ℕ) (xs : List (List ℕ)) (id : ℕ) (ids : List ℕ) (f : Free mode repeats n es (x ∷ xs) (id ∷ ids)) where
    abbrev e : Entry
    e = entry_of x id

    abbrev next : List Entry
    next = es ++ (e ∷ [])

    all_same : next ++ entries_listed xs ids ≡ es ++ entries_listed (x ∷ xs) (id ∷ ids)
    unfolding calls_of puts
    all_same = append_assoc es (e ∷ []) (entries_listed xs ids)

    free_room : too_large n (size_of mode next) ≡ false
    free_room =
        let is = size_of_is mode next in
        let front = size_front mode next (entries_listed xs ids) in
        let whole = ap (image_size mode) all_same in
        ap₂ {C = Bool} (λ (a b : Bool). a || b) (le-ltb n (size_of mode next) (omega (arith, is, front, whole, f.within)))
        (le-ltb 4294967295 (size_of mode next) (omega (arith, is, front, whole, f.small)))

    free_new : (contains_name x es && refuses_repeats repeats) ≡ false
    free_new = unrefused repeats f.new
      where
        unrefused : (r : Repeats) → (refuses_repeats r ≡ true → (i : ℕ) → i < length (x ∷ xs) → contains_name (nth (x ∷ xs) i) es ≡ false)
            → (contains_name x es && refuses_repeats r) ≡ false
        unrefused Off h = ap (λ (b : Bool). b && true) (h refl 0 (omega arith))
        unrefused On h = and-false (contains_name x es)

    free_due : put_due mode repeats n es e ≡ 0
    unfolding put_due
    free_due =
        decided (has_zero x) (contains_name x es && refuses_repeats repeats) (too_large n (size_of mode next)) (f.zeros 0 (omega arith)) free_new
        free_room
      where
        decided : (z h t : Bool) → z ≡ false → h ≡ false → t ≡ false → ◌≡◌ {A = ℕ} (cond z 13 (cond h 16 (cond t 3 0))) 0
        decided z h t p q r = rw (p, q, r) refl

    free_accepted : accepted_after mode repeats n es (put e) ≡ next
    free_accepted = rw free_due refl

    free_next : Free mode repeats n next xs ids
    free_next =
        let whole = ap (image_size mode) all_same in
        record {
          many = omega (arith, f.many);
          within = omega (arith, whole, f.within);
          small = omega (arith, whole, f.small);
          words = λ i h. f.words (suc i) (omega arith);
          zeros = λ i h. f.zeros (suc i) (omega arith);
          new = λ off i h. holds_more (nth xs i) es e
              ∙ ap₂ {C = Bool} (λ (a b : Bool). a || b) (f.new off (suc i) (omega arith)) (f.apart off (suc i) 0 (omega arith) (omega arith));
          apart = λ off i j h k. f.apart off (suc i) (suc j) (omega arith) (omega arith);
        }

  none_due : (es : List Entry) (xs : List (List ℕ)) (ids : List ℕ) → Free mode repeats n es xs ids
      → due_from mode repeats n es (calls_of xs ids) ≡ replicate (length xs) 0
  unfolding due_from calls_of
  none_due es [] ids f = refl
  none_due es (x ∷ xs) [] f = absurd (omega (arith, f.many))
  none_due es (x ∷ xs) (id ∷ ids) f =
      ap₂ {C = List ℕ} (λ (r : ℕ) (rs : List ℕ). r ∷ rs) (free_due es x xs id ids f)
      (ap (λ (l : List Entry). due_from mode repeats n l (calls_of xs ids)) (free_accepted es x xs id ids f)
      ∙ none_due (es ++ (entry_of x id ∷ [])) xs ids (free_next es x xs id ids f))

  all_accepted : (es : List Entry) (xs : List (List ℕ)) (ids : List ℕ) → Free mode repeats n es xs ids
      → accepted_from mode repeats n es (calls_of xs ids) ≡ es ++ entries_listed xs ids
  unfolding accepted_from calls_of puts
  all_accepted es [] ids f = sym (append-nil es)
  all_accepted es (x ∷ xs) [] f = absurd (omega (arith, f.many))
  all_accepted es (x ∷ xs) (id ∷ ids) f =
      ap (λ (l : List Entry). accepted_from mode repeats n l (calls_of xs ids)) (free_accepted es x xs id ids f)
      ∙ all_accepted (es ++ (entry_of x id ∷ [])) xs ids (free_next es x xs id ids f)
      ∙ append_assoc es (entry_of x id ∷ []) (entries_listed xs ids)

-- ---- the list

module _ (mode : Mode) (repeats : Repeats) (buffer bytes ends ids : List ℕ) (good : invalid_ends (length bytes) 0 ends ≡ false)
    (many : length ends ≤ length ids)
    (room : head_size ≤ length buffer) (fits : RoomForAll mode ends ids (length buffer)) (words : (i : ℕ) → i < length ends → get_or ids i 0 < 2 ^ 32)
    (zeros : (i : ℕ) → i < length ends → has_zero (nth (names bytes ends) i) ≡ false)
    (apart : refuses_repeats repeats ≡ true → (i j : ℕ) → j < i → i < length ends → same (nth (names bytes ends) j) (nth (names bytes ends) i) ≡ false) where
  abbrev n : ℕ
  n = length buffer

  abbrev xs : List (List ℕ)
  xs = names bytes ends

  abbrev es : List Entry
  es = entries_listed xs ids

  abbrev cs : List Call
  cs = listed bytes ends ids

  free_all : Free mode repeats n [] xs ids
  unfolding contains_name
  free_all =
      let all = length_names bytes ends in
      record {
        many = omega (arith, all, many);
        within = size_within mode bytes ends ids good many fits;
        small = size_small mode bytes ends ids good many fits;
        words = λ i h. words i (omega arith);
        zeros = λ i h. zeros i (omega arith);
        new = λ off i h. refl;
        apart = λ off i j h k. apart off i j h (omega arith);
      }

  word : WordIds mode cs
  word = word_ids mode xs ids free_all.words

  accepted_is : accepted mode repeats n cs ≡ es
  unfolding accepted
  accepted_is = all_accepted mode repeats n [] xs ids free_all

  -- every put is accepted, and answered by none
  pub accepted_all : accepted_puts mode repeats buffer (listed bytes ends ids) ≡ entries_listed (names bytes ends) ids
  accepted_all = list_accepted mode repeats buffer room cs word ∙ accepted_is

  pub answers_none : answers_of mode repeats buffer (listed bytes ends ids) ≡ replicate (length ends) 0
  unfolding due
  answers_none =
      list_answers mode repeats buffer room cs word
      ∙ none_due mode repeats n [] xs ids free_all
      ∙ ap (λ (k : ℕ). replicate k 0) (length_names bytes ends)

-- The examples C1 to C7 and C11 hold: one theorem says what is computed of a row, from the calls and the buffer's length alone, and that it holds then of
-- begin, put, close and the reader on every buffer of that length. Assumes nothing.
use Prim.Native.Nat.{ℕ, zero, suc, ◌+◌, ◌*◌, ◌^◌, ◌≤◌, ◌<◌}
use native.Mathlib.Omega.{arith}
use mathlib.Core.Path.{◌≡◌, refl, ap, ap₂, ◌∙◌}
use mathlib.Core.Bool.{Bool, true, false, cond}
use mathlib.Core.List.{List, [], ◌∷◌, map}
use lib.ListN.{length}
use lib.Dec.{eqb, lit≤, lit<}
use borrow.Author.Tests.{ne_eqb}
use Rattle.jhash.specs.Outcome.{value}
use Rattle.image.specs.declared.Mode.{Mode}
use Rattle.image.specs.Bytes.{word, filter, range, same}
use Rattle.image.specs.Image.{Entry, Placed, head_size, entry_size, entries_size, placed, has_id, placed_of_id, last_from, back_word}
use Rattle.image.specs.Image.{back_size, back_size_of, back_offset, image_size, contains_name, image}
use Rattle.image.specs.Head.{back_offset_at}
use Rattle.image.specs.Zero.{has_zero}
use Rattle.lookup_laws.specs.Answer.{of_name, first_id, is_named, of_id}
use Rattle.image.proofs.At.{at_word}
use Rattle.image.proofs.Parts.{back_word_at}
use Rattle.lookup_laws.proofs.ImageOpening.{back_size_at_image, back_offset_at_image}
use Rattle.writer.specs.declared.Repeats.{Repeats}
use Rattle.lists.specs.Calls.{accepted_from, due_from, accepted, due, put_due, puts_size, size_of, WordIds}
use Rattle.lists.proofs.ImageRead.{named_in, Read}
use Rattle.lists.specs.Demand3.{image_of}
use Rattle.lists.specs.Examples.Rows.{NameGives, IdGives, ListRow, Each, back_array, ImageHolds, RowHolds, HoldsInAny, example_rows, named_rows}
use Rattle.lists.proofs.CallLists.{list_answers}
use Rattle.lists.proofs.OneMoreClose.{list_gives, list_formula, list_image, list_below}
use Rattle.lists.proofs.ReadingAnswered.{list_read}

each_map : {A : Type 0} {P Q : A → Type 0} → ((x : A) → P x → Q x) → (xs : List A) → Each P xs → Each Q xs
each_map f [] h = tt
each_map f (x ∷ xs) h = (f x h.0, each_map f xs h.1)

-- ---- the back array of an image

map_range : (f g : ℕ → ℕ) (s n : ℕ) → ((i : ℕ) → i < s + n → f i ≡ g i) → map f (range s n) ≡ map g (range s n)
unfolding range
map_range f g s zero h = refl
map_range f g s (suc n) h =
    ap₂ {C = List ℕ} (λ (x : ℕ) (xs : List ℕ). x ∷ xs) (h s (omega arith)) (map_range f g (suc s) n (λ i p. h i (omega arith)))

-- the back words of the entries from o on, in offsets below k
module _ (i k : ℕ) where
  of_it : ℕ → List Entry → List Placed
  of_it o es = filter (λ (p : Placed). has_id i p.entry) (placed o es)

  last_small : (d o : ℕ) (es : List Entry) → d < k → o + entries_size es < k → last_from d (of_it o es) < k
  unfolding of_it last_from filter placed entries_size
  last_small d o [] h room = h
  last_small d o (e ∷ es) h room =
      small_with_first (eqb e.id i) (last_small d (o + entry_size e) es h (omega arith)) (last_small o (o + entry_size e) es (omega arith) (omega arith))
    where
      rest : List Placed
      rest = of_it (o + entry_size e) es

      small_with_first : (b : Bool) → last_from d rest < k → last_from o rest < k → last_from d (cond b (record { entry = e; at = o } ∷ rest) rest) < k
      small_with_first true p q = q
      small_with_first false p q = p

module _ (mode : Mode) (es : List Entry) (small : image_size mode es ≤ 4294967295) where
  back_word_small : (i : ℕ) → back_word (placed head_size es) i < 2 ^ 32
  unfolding back_word placed_of_id of_it
  back_word_small i = last_small i (2 ^ 32) 0 head_size es (omega arith) (omega arith)

  back_word_read : (i : ℕ) → i < back_size_of mode es → word (image mode es) (back_offset mode es + 4 * i) ≡ back_word (placed head_size es) i
  unfolding back_offset
  back_word_read i h =
      rw (ne_eqb (back_size_of mode es) 0 (λ z. omega arith)) (at_word (back_word (placed head_size es) i) (back_word_at mode es small i h)
      (back_word_small i))

  back_array_lem : back_array (image mode es) ≡ map (back_word (placed head_size es)) (range 0 (back_size_of mode es))
  back_array_lem =
      rw (back_offset_at_image mode es small, back_size_at_image mode es small)
      (map_range (λ (i : ℕ). word (image mode es) (back_offset mode es + 4 * i)) (back_word (placed head_size es)) 0 (back_size_of mode es)
      (λ i p. back_word_read i (omega arith)))

-- ---- what is computed of a row

abbrev entries : ListRow → List Entry
entries r = accepted r.mode r.repeats r.bytes r.calls

-- room for a head, the ids, each call's refusal, size, num, back offset, back array, what names give, what ids give and whether they are home
abbrev Computed : ListRow → Type 0
Computed r =
    (head_size ≤ r.bytes)
    × WordIds r.mode r.calls
    × (due r.mode r.repeats r.bytes r.calls ≡ r.refusals)
    × (size_of r.mode (entries r) ≡ r.size)
    × (length (entries r) ≡ r.number)
    × (back_offset r.mode (entries r) ≡ r.back_offset)
    × (map (back_word (placed head_size (entries r))) (range 0 (back_size_of r.mode (entries r))) ≡ r.back_words)
    × Each (λ (a : NameGives). first_id (of_name a.name (entries r)) ≡ a.gives) r.names
    × Each (λ (a : IdGives). (named_in r.mode (entries r) a.id ≡ a.gives) × (is_named (named_in r.mode (entries r) a.id) ≡ a.is_home)) r.ids

-- it holds of every buffer of that length
module _ (r : ListRow) (c : Computed r) where
  room : head_size ≤ r.bytes
  room = c.0

  words : WordIds r.mode r.calls
  words = c.1

  image_holds : (img : List ℕ) → img ≡ image r.mode (entries r) → image_size r.mode (entries r) ≤ 4294967295
      → Read r.mode (entries r) img → ImageHolds r img
  image_holds img is small read =
      record {
        opened = read.names.opened ∙ ap value c.4;
        back_start = ap back_offset_at is ∙ back_offset_at_image r.mode (entries r) small ∙ c.5;
        back_array_lem = ap back_array is ∙ back_array_lem r.mode (entries r) small ∙ c.6;
        named = each_map (λ a h. read.names.name_gives a.name ∙ h) r.names c.7;
        placed = each_map (λ a h. (read.id_gives a.id ∙ h.0, read.id_home a.id ∙ h.1)) r.ids c.8;
      }

  holds_in : (buffer : List ℕ) → length buffer ≡ r.bytes → RowHolds r buffer
  unfolding image_of
  holds_in buffer long =
      let fits : head_size ≤ length buffer = omega (arith, room) in
      let same_entries : accepted r.mode r.repeats (length buffer) r.calls ≡ entries r =
      ap (λ (n : ℕ). accepted r.mode r.repeats n r.calls) long in
      record {
        answered =
            list_answers r.mode r.repeats buffer fits r.calls words
            ∙ ap (λ (n : ℕ). due r.mode r.repeats n r.calls) long
            ∙ c.2;
        closes = list_gives r.mode r.repeats buffer fits r.calls words
            ∙ ap value (list_formula r.mode r.repeats buffer fits r.calls words ∙ ap (size_of r.mode) same_entries ∙ c.3);
        imaged =
            image_holds (image_of r.mode r.repeats buffer r.calls)
            (list_image r.mode r.repeats buffer fits r.calls words ∙ ap (image r.mode) same_entries)
            (rw same_entries at (list_below r.mode r.repeats buffer fits r.calls words))
            (rw same_entries at (list_read r.mode r.repeats buffer fits r.calls words));
      }

-- ---- the rows

computed : (repeats : Repeats) → Each Computed (example_rows repeats)
unfolding accepted accepted_from due due_from put_due has_zero contains_name size_of puts_size back_size entries_size back_offset placed
    placed_of_id of_id filter back_word
    last_from range of_name same
computed repeats = (
  (lit≤ tt, tt, refl, refl, refl, refl, refl, (refl, tt), ((refl, refl), tt)),
  (
    (lit≤ tt, (tt, tt), refl, refl, refl, refl, refl, (refl, tt), ((refl, refl), tt)),
    (
      (lit≤ tt, (tt, tt), refl, refl, refl, refl, refl, (refl, tt), ((refl, refl), tt)),
      (
        (lit≤ tt, (tt, (tt, tt)), refl, refl, refl, refl, refl, (refl, (refl, tt)), ((refl, refl), ((refl, refl), ((refl, refl), tt)))),
        (
          (lit≤ tt, (lit< tt, (lit< tt, tt)), refl, refl, refl, refl, refl, (refl, (refl, tt)), ((refl, refl), tt)),
          (
            (lit≤ tt, (tt, (tt, tt)), refl, refl, refl, refl, refl, (refl, (refl, tt)), ((refl, refl), tt)),
            (
              (lit≤ tt, (tt, tt), refl, refl, refl, refl, refl, (refl, tt), ((refl, refl), tt)),
              (
                (lit≤ tt, (lit< tt, tt), refl, refl, refl, refl, refl, (refl, tt), ((refl, refl), tt)),
                tt,
              ),
            ),
          ),
        ),
      ),
    ),
  ),
)

-- C6, and C6 without the repeats mode
computed_named : Each Computed named_rows
unfolding accepted accepted_from due due_from put_due has_zero contains_name size_of puts_size back_size entries_size back_offset placed
    placed_of_id of_id filter back_word
    last_from range of_name same
computed_named = (
  (lit≤ tt, (tt, (tt, tt)), refl, refl, refl, refl, refl, (refl, tt), ((refl, refl), ((refl, refl), tt))),
  (
    (lit≤ tt, (tt, (tt, tt)), refl, refl, refl, refl, refl, (refl, tt), ((refl, refl), ((refl, refl), tt))),
    tt,
  ),
)

pub rows_hold : (repeats : Repeats) → Each HoldsInAny (example_rows repeats)
rows_hold repeats = each_map holds_in (example_rows repeats) (computed repeats)

pub named_hold : Each HoldsInAny named_rows
named_hold = each_map holds_in named_rows computed_named

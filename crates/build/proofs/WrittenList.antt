-- The image of all names, written straight into the buffer: what holds before each turn, and at the end. Assumes nothing.
use Prim.Native.Nat.{ℕ, suc, ◌+◌, ◌*◌, ◌-◌, ◌^◌, ◌≤◌, ◌<◌}
use native.Mathlib.Omega.{arith}
use mathlib.Core.Path.{◌≡◌, refl, sym, ap, ap₂, subst, ◌∙◌}
use mathlib.Core.Bool.{Bool, true, false, ◌&&◌}
use mathlib.Core.List.{List, [], ◌∷◌, ◌++◌, append-nil}
use lib.ListN.{length, get_or, take, drop, replicate, length-append, length-drop}
use lib.Seq.{sets, take_all, take-append_seam, drop_at}
use Rattle.jhash.specs.NameHash.{hash_of}
use Rattle.image.specs.declared.Mode.{Mode}
use Rattle.image.specs.Stored.{between}
use Rattle.image.specs.Bytes.{cat, range}
use Rattle.image.specs.Image.{Entry, head_size, entry_bytes, entries_size, back_in, back_size, back_size_of, back_offset, entries_end, image_size, image}
use Rattle.image.specs.Image.{head_words, table_rows, back_words}
use Rattle.image.proofs.AllOfList.{All}
use Rattle.image.proofs.Between.{length_between}
use Rattle.image.proofs.Parts.{placed_in}
use Rattle.image.proofs.Sizes.{entries_size-append, length_placed, length-back_words, back_in_twice}
use Rattle.image.specs.PackedNames.{names, nth, invalid_ends, begin_of}
use Rattle.image.proofs.NameEnds.{length_names, nth_name, placed, begin_later, begin_next, begins_rise}
use Rattle.serialize.specs.Steps.Partition.{table_offsets_from, EntryPartitioned}
use Rattle.serialize.specs.Steps.Written.{begun_image}
use Rattle.serialize.specs.Steps.Meeting.{AllDone, Distinct}
use Rattle.serialize.proofs.Cleared.{Numbers, size_is, begun_is}
use Rattle.serialize.proofs.PartialImage.{up_to_entries, length_up_to_entries}
use Rattle.serialize.proofs.TablesFilled.{filling, filled_to, tables_long}
use Rattle.serialize.proofs.WrittenImage.{all_imaged, all_told}
use Rattle.writer.specs.Put.{entry_of}
use Rattle.lists.specs.Calls.{puts}
use Rattle.build.specs.Build.{calls_of}
use Rattle.build.specs.Needs.{ids_back}
use Rattle.build.specs.Steps.Steps.{entries_listed, KeptBehind}
use Rattle.build.specs.Steps.Stores.{list_entries, WriteListPre, ListWritten}
use Rattle.build.proofs.AllPut.{number_all, end_all, back_is, size_within, size_small}
use Rattle.build.proofs.StoredAll.{next_entry, split_there, StoringTo, storing_first, storing_last, storing_step}

-- names of a list that has room are short
pub names_short : (bytes ends : List ℕ) → invalid_ends (length bytes) 0 ends ≡ false → begin_of ends (length ends) < 4294967295
    → (j : ℕ) → j < length ends → length (nth (names bytes ends) j) < 4294967295
names_short bytes ends good small j h =
    let p = placed (length bytes) ends j good h in
    let size = ap length (nth_name bytes ends j h) ∙ length_between bytes (begin_of ends j) (get_or ends j 0) p.rises p.inside in
    omega (arith, size, begin_next ends j, begins_rise (length bytes) ends good (length ends) (j + 1) (omega arith) (omega arith))

ids_listed : (xs : List (List ℕ)) (ids : List ℕ) → ((i : ℕ) → i < length xs → get_or ids i 0 < 2 ^ 32)
    → All (λ (e : Entry). e.id < 2 ^ 32) (entries_listed xs ids)
unfolding calls_of puts
ids_listed [] ids h = tt
ids_listed (x ∷ xs) [] h = tt
ids_listed (x ∷ xs) (id ∷ ids) h = (h 0 (omega arith), ids_listed xs ids (λ i k. h (suc i) (omega arith)))

-- bytes put back before what was behind them
pub length_back : (a b : List ℕ) (n : ℕ) → length a ≡ n → n ≤ length b → length (a ++ drop n b) ≡ length b
length_back a b n e h = omega (arith, length-append a (drop n b), length-drop n b)

-- an image whose tables hold their pairs, before what is behind it
image_parts : (mode : Mode) (es : List Entry) (X tail : List ℕ) → length X ≡ 16 * length (placed_in es) → (n : ℕ) → n ≡ image_size mode es
    → (take n (filled_to mode es X 0 tail) ≡ filled_to mode es X 0 []) × (drop n (filled_to mode es X 0 tail) ≡ tail)
unfolding filled_to
image_parts mode es X tail long n size =
    let U = up_to_entries mode es in
    let R = cat (filling (placed_in es) X 0) (range 0 256) in
    let L = back_words (placed_in es) (back_size_of mode es) in
    let type_size = tables_long mode es X tail long 0 in
    let words = length-back_words (placed_in es) (back_size_of mode es) in
    let whole : length (U ++ R ++ L) ≡ n =
    omega (arith, size, length-append (U ++ R) L, length-append U R, length_up_to_entries mode es, type_size, words) in (
      ap (λ (k : ℕ). take k (U ++ R ++ L ++ tail)) (sym whole) ∙ take-append_seam (U ++ R ++ L) tail ∙ sym (append-nil (U ++ R ++ L)),
      drop_at (U ++ R ++ L) tail n whole,
    )

-- an image of es that was begun: what stands in the place of the entries, of the tables, and behind the image
pub record Begun (mode : Mode) (es : List Entry) (b0 E X tail : List ℕ) : Type 0 where
  pub room : length E ≡ entries_size es
  pub area : length X ≡ 16 * length (placed_in es)
  pub is : b0 ≡ head_words mode es ++ table_rows (entries_end es) (placed_in es) ++ E ++ X ++ back_words [] (back_size_of mode es) ++ tail

-- the tables are filled in an image of `size` bytes
pub record TablesDone (stop : Bool) (mode : Mode) (buffer bytes ends ids : List ℕ) (size : ℕ) (met : Bool) (bufferThen : List ℕ) : Type 0 where
  pub sized : size ≡ image_size mode (list_entries bytes ends ids)
  pub leaves : (stop && met) ≡ false
      → bufferThen ≡ image mode (list_entries bytes ends ids) ++ drop (image_size mode (list_entries bytes ends ids)) buffer
  pub behind : KeptBehind mode bytes ends ids buffer bufferThen
  pub distinct : met ≡ false → Distinct (list_entries bytes ends ids)

-- the search for equal names did not end early
pub written : {stop : Bool} {mode : Mode} {buffer bytes ends ids : List ℕ} {size : ℕ} {met : Bool} {bufferThen : List ℕ}
    → TablesDone stop mode buffer bytes ends ids size met bufferThen → (stop && met) ≡ false
    → ListWritten stop mode buffer bytes ends ids bufferThen size
written {met = met} t on =
    record {
      sized = t.sized;
      leaves = t.leaves on;
      behind = t.behind;
      distinct = λ off. t.distinct (sym (ap (λ (b : Bool). b && met) off) ∙ on);
    }

-- before the turn of the i-th name, whose entry goes to `at`; b0 is the image as it was begun
pub record Turn (mode : Mode) (b0 bytes ends ids buf places : List ℕ) (at i : ℕ) : Type 0 where
  pub inside : i ≤ length ends
  pub long : length buf ≡ length b0
  pub offset : at ≡ head_size + entries_size (take i (list_entries bytes ends ids))
  pub storing : (E X tail : List ℕ) → Begun mode (list_entries bytes ends ids) b0 E X tail
      → StoringTo mode (list_entries bytes ends ids) E X tail (take i (list_entries bytes ends ids)) buf places at

module _ {mode : Mode} {counts hashes buffer bytes ends ids : List ℕ} (pre : WriteListPre mode counts hashes buffer bytes ends ids)
    (good : invalid_ends (length bytes) 0 ends ≡ false)
    (words : (i : ℕ) → i < length ends → get_or ids i 0 < 2 ^ 32) where
  abbrev es : List Entry
  es = list_entries bytes ends ids

  abbrev E : List ℕ
  E = between buffer head_size (entries_end es)

  abbrev X : List ℕ
  X = between buffer (entries_end es) (entries_end es + 16 * length es)

  abbrev tail : List ℕ
  tail = drop (image_size mode es) buffer

  pub small : image_size mode (list_entries bytes ends ids) ≤ 4294967295
  small = size_small mode bytes ends ids good pre.list.ids_long pre.capacity.fits

  pub within : image_size mode (list_entries bytes ends ids) ≤ length buffer
  within = size_within mode bytes ends ids good pre.list.ids_long pre.capacity.fits

  pub as_many : length ends ≡ length (list_entries bytes ends ids)
  as_many = sym (number_all bytes ends ids good pre.list.ids_long)

  pub end_is : head_size + 9 * length ends + get_or ends (length ends - 1) 0 ≡ entries_end (list_entries bytes ends ids)
  end_is =
      omega
      (arith, end_all bytes ends ids good pre.list.ids_long, begin_later ends (length ends) (λ z. omega (arith, z, pre.capacity.some)))

  pub back_of_all : back_in mode (ids_back (take (length ends) ids)) ≡ back_size_of mode (list_entries bytes ends ids)
  back_of_all = sym (back_is mode bytes ends ids good pre.list.ids_long)

  ids_all : All (λ (e : Entry). e.id < 2 ^ 32) es
  ids_all = ids_listed (names bytes ends) ids (λ i h. words i (omega (arith, length_names bytes ends)))

  room : length E ≡ entries_size es
  room = omega (arith, length_between buffer head_size (entries_end es) (omega arith) (omega (arith, within)))

  area : length X ≡ 16 * length (placed_in es)
  area =
      let end = entries_end es in
      omega (arith, length_between buffer end (end + 16 * length es) (omega arith) (omega (arith, within)), length_placed head_size es)

  pub numbers : {end entries back : ℕ} → end ≡ entries_end (list_entries bytes ends ids) → entries ≡ length (list_entries bytes ends ids)
      → back ≡ back_size_of mode (list_entries bytes ends ids) → Numbers mode end entries back counts buffer (list_entries bytes ends ids)
  numbers ee en eb =
      record {
        ends = ee;
        number = en;
        backs = eb;
        tallies = pre.tallies;
        inside = omega (arith, ee, en, ap (back_in mode) eb ∙ back_in_twice mode (back_size es), within);
      }

  begun : {end entries back : ℕ} → end ≡ entries_end es → entries ≡ length es → back ≡ back_size_of mode es → {b0 : List ℕ}
      → b0 ≡ begun_image mode end entries back counts buffer → Begun mode es b0 E X tail
  begun {end} {entries} {back} ee en eb e0 =
      let N = numbers {end = entries_end es} {entries = length es} {back = back_size_of mode es} refl refl refl in
      record {
        room = room;
        area = area;
        is =
            e0
            ∙ ap (λ (k : ℕ). begun_image mode k entries back counts buffer) ee
            ∙ ap₂ (λ (k j : ℕ). begun_image mode (entries_end es) k j counts buffer) en eb
            ∙ begun_is mode (entries_end es) (length es) (back_size_of mode es) counts buffer es N
            ∙ ap
            (λ (k : ℕ). head_words mode es ++ table_rows (entries_end es) (placed_in es) ++ E ++ X ++ back_words [] (back_size_of mode es) ++ drop k buffer)
            (size_is mode (entries_end es) (length es) (back_size_of mode es) counts buffer es N);
      }

  pub turn_first : (b0 : List ℕ) {end : ℕ} → end ≡ entries_end (list_entries bytes ends ids) → {places : List ℕ}
      → places ≡ sets (replicate 256 0) 0 (table_offsets_from counts end 0 256) → Turn mode b0 bytes ends ids b0 places 2072 0
  unfolding entries_size
  turn_first b0 ee ep =
      let where-tables = ep ∙ ap (λ (k : ℕ). sets (replicate 256 0) 0 (table_offsets_from counts k 0 256)) ee in
      record {
        inside = omega arith;
        long = refl;
        offset = refl;
        storing = λ F Y rest b. subst (λ (q : List ℕ). StoringTo mode es F Y rest [] b0 q 2072) (sym where-tables)
            (storing_first mode es F Y rest b.room b.area b.is counts pre.tallies small);
      }

  module _ {b0 buf places : List ℕ} {at i : ℕ} (g : Turn mode b0 bytes ends ids buf places at i) where
    module _ (below : i < length ends) {name : List ℕ} (named : name ≡ nth (names bytes ends) i) where
      abbrev e : Entry
      e = entry_of name (get_or ids i 0)

      split : es ≡ take i es ++ e ∷ drop (suc i) es
      split = split_there bytes ends ids pre.list.ids_long i below name named

      -- the entry ends where the entries end, or before
      pub turn_room : at + (length name + 9) ≤ entries_end (list_entries bytes ends ids)
      unfolding entries_size
      turn_room = omega (arith, g.offset, ap entries_size split ∙ entries_size-append (take i es) (e ∷ drop (suc i) es))

      pub turn_step : {b1 b2 places' : List ℕ} → b1 ≡ sets buf at (entry_bytes (entry_of name (get_or ids i 0))) → {l h : ℕ}
          → l ≡ back_offset mode (list_entries bytes ends ids) → h ≡ get_or hashes i 0 → EntryPartitioned mode l at (get_or ids i 0) h places b1 places' b2
          → length b2 ≡ length b0 → Turn mode b0 bytes ends ids b2 places' (at + (9 + length name)) (i + 1)
      unfolding entries_size
      turn_step {b1} {b2} {places'} e1 el eh done same =
          let next = next_entry bytes ends ids pre.list.ids_long i below name named in
          record {
            inside = omega arith;
            long = same;
            offset = omega (arith, g.offset, ap entries_size next ∙ entries_size-append (take i es) (e ∷ []));
            storing = λ F Y rest b. subst (λ (qs : List Entry). StoringTo mode es F Y rest qs b2 places' (at + (9 + length name))) (sym next)
                (storing_step mode es F Y rest b.room b.area (take i es) (drop (suc i) es) e split small ids_all (g.storing F Y rest b) e1 el refl
                (eh ∙ pre.hashed i below ∙ ap hash_of (sym named)) done);
          }

    -- the tables are filled in the bytes of the image
    pub turn_last : length ends ≤ i → {stop : Bool} {l end entries back n : ℕ} {after : List ℕ} {met : Bool}
        → l ≡ back_offset mode (list_entries bytes ends ids) → end ≡ entries_end (list_entries bytes ends ids)
        → entries ≡ length (list_entries bytes ends ids) → back ≡ back_size_of mode (list_entries bytes ends ids)
        → n ≡ image_size mode (list_entries bytes ends ids) → b0 ≡ begun_image mode end entries back counts buffer
        → AllDone stop mode l end entries n counts (take n buf) after met → length after ≡ n
        → TablesDone stop mode buffer bytes ends ids n met (after ++ drop n buf)
    turn_last last {n = n} {after} el ee en eb size e0 done long =
        let all = take_all i es (omega (arith, as_many)) in
        let is = storing_last mode es E X tail room area
        (subst (λ (qs : List Entry). StoringTo mode es E X tail qs buf places at) all (g.storing E X tail (begun ee en eb e0))) in
        let parts = image_parts mode es X tail area n size in
        let made = all_imaged mode es [] small ids_all X counts area pre.tallies (ap (take n) is ∙ parts.0)
        (all_told el ee en size done) in
        let rest = ap (drop n) is ∙ parts.1 in
        record {
          sized = size;
          leaves = λ on. ap₂ (λ (x y : List ℕ). x ++ y) (made.is on ∙ append-nil (image mode es)) rest;
          behind = drop_at after (drop n buf) (image_size mode es) (long ∙ size) ∙ rest;
          distinct = made.distinct;
        }

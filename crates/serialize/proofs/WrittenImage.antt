-- All that is written is the image of the entries that stand in the buffer. Assumes nothing.
use Rattle.std.proofs.Common.{◌≡◌, ℕ, ◌+◌, ◌-◌, ◌*◌, ◌^◌, ◌<◌, ◌≤◌, Bool, true, false, cond, ◌&&◌, eqb, List, [], ◌∷◌, ◌++◌, length, take, drop, replicate}
use Rattle.std.proofs.Common.{sym, refl, ap, ◌∙◌, subst, ⊎_elim, append_assoc, append-nil, arith, length-append, length-drop, length-take, ne_eqb}
use lib.Seq.{sets}
use Rattle.image.specs.Bytes.{cat, range}
use Rattle.image.specs.Image.{Entry, head_size, entry_bytes, entries_size, head_words, table_rows, back_words, back_size_of, back_offset, entries_end}
use Rattle.image.specs.Image.{image_size, image}
use Rattle.image.specs.declared.Mode.{Mode}
use Rattle.image.proofs.Sizes.{length_entries, length_placed, length-back_words}
use Rattle.image.proofs.Between.{length_between}
use Rattle.image.proofs.Parts.{placed_in}
use Rattle.image.proofs.AllOfList.{All}
use Rattle.image.specs.Stored.{whole, between}
use Rattle.image.proofs.EntryArea.{AllBytes, bytes_drop, bytes_take, length-entries_in, whole_bytes, ids_words}
use Rattle.serialize.specs.Serialize.{stored_entries}
use Rattle.serialize.specs.Record.{finished_of}
use Rattle.serialize.specs.Steps.Preconditions.{ClosePrecondition}
use Rattle.serialize.specs.Steps.Insertion.{entry_inserted, inserted_from}
use Rattle.serialize.specs.Steps.Partition.{table_offsets_from, partitioned_from, tables_from}
use Rattle.serialize.specs.Steps.Written.{back_offset_of, zeroed, begun_image}
use Rattle.serialize.specs.Steps.Meeting.{Distinct, UnmetFrom, TablesApart, TablesDone, SinglyDone, AllDone, ImageWritten}
use Rattle.serialize.proofs.HeadRows.{Counts, counts_agree_lem}
use Rattle.serialize.proofs.PartialImage.{up_to_entries, partial, partial_all}
use Rattle.serialize.proofs.Cleared.{Numbers, size_is, back_offset_is, begun_is, cleared_partial}
use Rattle.serialize.proofs.InsertStep.{next_at, length_found, step}
use Rattle.serialize.proofs.TablesFilled.{filling, filled_to, tables_long, parted_is, tables_image}
use Rattle.serialize.proofs.Distinct.{singly_distinct, by_tables_distinct}

-- the image of the entries, and if none of equal name met, no two have equal names
pub record Imaged (stop : Bool) (mode : Mode) (es : List Entry) (tail after : List ℕ) (met : Bool) : Type 0 where
  pub is : (stop && met) ≡ false → after ≡ image mode es ++ tail
  pub distinct : met ≡ false → Distinct es

-- ---- the walk, from any entry on

module _ (mode : Mode) (es : List Entry) (tail : List ℕ) (small : image_size mode es ≤ 4294967295)
    (ids : All (λ (e : Entry). e.id < 2 ^ 32) es) where
  pub walked : (rest qs : List Entry) → es ≡ qs ++ rest
      → inserted_from mode (back_offset mode es) (entries_end es) (length rest) (head_size + entries_size qs) (partial mode es qs ++ tail)
      ≡ partial mode es es ++ tail
  unfolding inserted_from
  walked [] qs split = ap (λ (l : List Entry). partial mode es l ++ tail) (sym (split ∙ append-nil qs))
  walked (e ∷ rest) qs split =
      let at = head_size + entries_size qs in
      let B = partial mode es qs ++ tail in
      let o = back_offset mode es in
      let end = entries_end es in
      let n = length e.name + 1 in
      ap (λ (k : ℕ). cond (eqb k 0) B (inserted_from mode o end (length rest) (at + (8 + k)) (entry_inserted mode o B at k)))
      (length_found mode es qs rest e tail split small ids)
      ∙ ap (λ (b : Bool). cond b B (inserted_from mode o end (length rest) (at + (8 + n)) (entry_inserted mode o B at n)))
      (ne_eqb n 0 (λ z. omega arith))
      ∙ ap (λ (l : List ℕ). inserted_from mode o end (length rest) (at + (8 + n)) l) (step mode es qs rest e tail split small ids)
      ∙ ap (λ (k : ℕ). inserted_from mode o end (length rest) k (partial mode es (qs ++ e ∷ []) ++ tail)) (next_at qs e)
      ∙ walked rest (qs ++ e ∷ []) (split ∙ sym (append_assoc qs (e ∷ []) rest))

  -- one by one, from cleared tables and back array
  pub singly_imaged : (R L : List ℕ) → length (R ++ L) ≡ 16 * length es + 4 * back_size_of mode es → {stop : Bool} {buf after : List ℕ} {met : Bool}
      → buf ≡ up_to_entries mode es ++ R ++ L ++ tail
      → SinglyDone stop mode (back_offset mode es) (entries_end es) (length es) (image_size mode es) buf after met → Imaged stop mode es tail after met
  unfolding entries_size
  singly_imaged R L long e done =
      let cleared = ap (λ (b : List ℕ). zeroed b (entries_end es) (image_size mode es)) e ∙ cleared_partial mode es R L tail long in
      record {
        is = λ on.
            done.leaves on
            ∙ ap (inserted_from mode (back_offset mode es) (entries_end es) (length es) head_size) cleared
            ∙ walked es [] refl
            ∙ ap (λ (l : List ℕ). l ++ tail) (partial_all mode es);
        distinct = λ z. singly_distinct mode es tail small ids es [] refl tt
            (subst (UnmetFrom mode (back_offset mode es) (entries_end es) (length es) head_size) cleared (done.unmet z));
      }

  -- the tables from their pairs, or one by one
  pub all_imaged : (X counts : List ℕ) → length X ≡ 16 * length (placed_in es) → Counts counts (placed_in es)
      → {stop : Bool} {buf after : List ℕ} {met : Bool}
      → buf ≡ filled_to mode es X 0 tail
      → AllDone stop mode (back_offset mode es) (entries_end es) (length es) (image_size mode es) counts buf after met → Imaged stop mode es tail after met
  unfolding filled_to
  all_imaged X counts long tallies {stop} {buf} {after} {met} e done = ⊎_elim by_tables singly done
    where
      by_tables : TablesDone stop counts (entries_end es) buf after met → Imaged stop mode es tail after met
      by_tables d =
          record {
            is = λ on. d.leaves on ∙ ap (tables_from counts (entries_end es) 0 256) e ∙ tables_image mode es X tail counts long small tallies;
            distinct = λ z. by_tables_distinct mode es X tail long small counts tallies
                (subst (λ (b : List ℕ). TablesApart (take (entries_end es) b) counts (entries_end es) 0 256 b) e (d.apart z));
          }

      singly : SinglyDone stop mode (back_offset mode es) (entries_end es) (length es) (image_size mode es) buf after met → Imaged stop mode es tail after met
      singly d =
          let R = cat (filling (placed_in es) X 0) (range 0 256) in
          let L = back_words (placed_in es) (back_size_of mode es) in
          singly_imaged R L (omega (arith, length-append R L, tables_long mode es X tail long 0, length-back_words (placed_in es) (back_size_of mode es))) e d

-- what was done, told by other numbers that are the same
module _ {stop : Bool} {mode : Mode} {l l' end end' entries entries' n n' : ℕ} (el : l ≡ l') (ee : end ≡ end') (en : entries ≡ entries') (es : n ≡ n') where
  pub singly_told : (buf : List ℕ) {after : List ℕ} {met : Bool} → SinglyDone stop mode l end entries n buf after met
      → SinglyDone stop mode l' end' entries' n' buf after met
  singly_told buf done = rw (el, ee, en, es) at done

  pub all_told : {counts buf after : List ℕ} {met : Bool} → AllDone stop mode l end entries n counts buf after met
      → AllDone stop mode l' end' entries' n' counts buf after met
  all_told done = rw (el, ee, en, es) at done

-- ---- what is asked for before the image is written

-- whole entries
module _ (end entries : ℕ) (buf : List ℕ) (bytes : AllBytes buf) (entire : whole entries (between buf head_size end) ≡ true) where
  area_bytes : AllBytes (between buf head_size end)
  area_bytes = bytes_take (end - head_size) (drop head_size buf) (bytes_drop head_size buf bytes)

  -- the bytes of the entries are kept
  pub area_kept : between buf head_size end ≡ cat entry_bytes (stored_entries buf end entries)
  area_kept = whole_bytes entries (between buf head_size end) area_bytes entire

  pub stored_number : length (stored_entries buf end entries) ≡ entries
  stored_number = length-entries_in entries (between buf head_size end)

  stored_ids : All (λ (e : Entry). e.id < 2 ^ 32) (stored_entries buf end entries)
  stored_ids = ids_words entries (between buf head_size end) area_bytes

  pub stored_end : head_size ≤ end → end ≤ length buf → end ≡ entries_end (stored_entries buf end entries)
  stored_end low high =
      let area = length (between buf head_size end) in
      let n : area ≡ entries_size (stored_entries buf end entries) = ap length area_kept ∙ length_entries (stored_entries buf end entries) in
      let m : area ≡ end - head_size = simp (length-take, length-drop) (omega arith) in
      omega arith

-- and the numbers that belong to them
module _ (mode : Mode) (end entries back : ℕ) (counts buf : List ℕ) (bytes : AllBytes buf) (asked : ClosePrecondition mode end entries back counts buf) where
  es : List Entry
  es = stored_entries buf end entries

  abbrev size : ℕ
  size = finished_of mode end entries back

  abbrev tail : List ℕ
  tail = drop size buf

  abbrev X : List ℕ
  X = between buf end (end + 16 * entries)

  numbers : Numbers mode end entries back counts buf es
  unfolding es
  numbers = record {
    ends = stored_end end entries buf bytes asked.whole_entries asked.after_head (omega (arith, asked.fits_buffer));
    number = sym (stored_number end entries buf bytes asked.whole_entries);
    backs = asked.back_agrees;
    tallies = counts_agree_lem counts (stored_entries buf end entries) asked.counts_agree_lem;
    inside = asked.fits_buffer;
  }

  image_small : image_size mode es ≤ 4294967295
  image_small = rw (← size_is mode end entries back counts buf es numbers) asked.fits_word

  ids : All (λ (e : Entry). e.id < 2 ^ 32) es
  unfolding es
  ids = stored_ids end entries buf bytes asked.whole_entries

  area_long : length X ≡ 16 * length (placed_in es)
  area_long =
      let sum = length_between buf end (end + 16 * entries) (omega arith) (omega (arith, asked.fits_buffer)) in
      omega (arith, sum, numbers.number, length_placed head_size es)

  begun : begun_image mode end entries back counts buf ≡ up_to_entries mode es ++ X ++ back_words [] (back_size_of mode es) ++ tail
  unfolding up_to_entries es
  begun =
      let H = head_words mode es in
      let R = table_rows (entries_end es) (placed_in es) in
      begun_is mode end entries back counts buf es numbers
      ∙ ap (λ (l : List ℕ). H ++ R ++ l ++ X ++ back_words [] (back_size_of mode es) ++ tail) (area_kept end entries buf bytes asked.whole_entries)

  written : {after : List ℕ} {met : Bool} → Imaged false mode es tail after met → ImageWritten mode end entries back buf after met
  unfolding es
  written i = record { leaves = i.is refl; distinct = i.distinct }

  -- one by one
  pub written_singly : {b0 after : List ℕ} {n l : ℕ} {met : Bool} → n ≡ finished_of mode end entries back → l ≡ back_offset_of mode end entries back
      → b0 ≡ begun_image mode end entries back counts buf → SinglyDone false mode l end entries n b0 after met
      → ImageWritten mode end entries back buf after met
  written_singly {b0} en el eb done =
      let L = back_words [] (back_size_of mode es) in
      let long = length-back_words [] (back_size_of mode es) in
      written
      (singly_imaged mode es tail image_small ids X L (omega (arith, length-append X L, area_long, length_placed head_size es, long)) (eb ∙ begun)
      (singly_told (el ∙ back_offset_is mode end entries back counts buf es numbers) numbers.ends numbers.number
      (en ∙ size_is mode end entries back counts buf es numbers) b0 done))

  -- by tables
  pub written_by_tables : {b0 b1 places after : List ℕ} {n l : ℕ} {met : Bool} → n ≡ finished_of mode end entries back → l
      ≡ back_offset_of mode end entries back
      → b0 ≡ begun_image mode end entries back counts buf → places ≡ sets (replicate 256 0) 0 (table_offsets_from counts end 0 256)
      → b1 ≡ partitioned_from mode l end entries 2072 places b0 → AllDone false mode l end entries n counts b1 after met
      → ImageWritten mode end entries back buf after met
  written_by_tables {b0} {b1} {places} {after} {n} {l} en el eb ep e1 done =
      let offset = el ∙ back_offset_is mode end entries back counts buf es numbers in
      let o = back_offset mode es in
      let B = up_to_entries mode es ++ X ++ back_words [] (back_size_of mode es) ++ tail in
      let parted =
      e1
      ∙ ap (λ (b : List ℕ). partitioned_from mode l end entries head_size places b) (eb ∙ begun)
      ∙ ap (λ (k : ℕ). partitioned_from mode k end entries head_size places B) offset
      ∙ ap (λ (k : ℕ). partitioned_from mode o end k head_size places B) numbers.number
      ∙ ap (λ (q : List ℕ). partitioned_from mode o end (length es) head_size q B) ep
      ∙ ap (λ (k : ℕ). partitioned_from mode o k (length es) head_size (sets (replicate 256 0) 0 (table_offsets_from counts k 0 256)) B) numbers.ends
      ∙ parted_is mode es X tail counts area_long image_small numbers.tallies ids in
      written
      (all_imaged mode es tail image_small ids X counts area_long numbers.tallies parted
      (all_told offset numbers.ends numbers.number (en ∙ size_is mode end entries back counts buf es numbers) done))

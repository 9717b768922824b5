-- One step of close's walk: the entry is found whole, and is inserted into its table and the back array. Assumes nothing.
use Rattle.std.proofs.Common.{◌≡◌, ℕ, ◌+◌, ◌-◌, ◌*◌, ◌/◌, ◌^◌, ◌<◌, ◌≤◌, Bool, true, false, cond, leb, List, [], ◌∷◌, ◌++◌, map, length, get_or, take, drop}
use Rattle.std.proofs.Common.{sym, refl, ap, ◌∙◌, subst, ap₂, append_assoc, mod-lt, arith, lit<, length-append, eq-eqb, ne_eqb, le-leb}
use lib.ListN.{length-map}
use lib.Seq.{sets, get_or_at, take-append_seam}
use Rattle.jhash.specs.NameHash.{hash_of}
use Rattle.jhash.proofs.Outcomes.{hash_of_below}
use Rattle.image.specs.Bytes.{word, le32, cat, range}
use Rattle.image.specs.Tables.{Bucket, empty, table_of, start, probe_sequence, first_empty, at_of, Filled as TableIs}
use Rattle.image.specs.Image.{Entry, Placed, head_size, entry_bytes, entry_size, entries_size, placed, in_table, of_table, count, bucket_of, bucket_bytes}
use Rattle.image.specs.Image.{entries_before, table_offset, back_size, back_words, back_size_of, back_offset, entries_end, image_size}
use Rattle.image.specs.declared.Mode.{Mode}
use Rattle.image.specs.declared.Mode.TheVariants.{Twoway, Oneway}
use Rattle.image.proofs.Words.{length_le32}
use Rattle.image.proofs.Lists.{cat_cons}
use Rattle.image.proofs.Sizes.{length_entries, length-entry_bytes, entries_size-append, length_placed, placed_append}
use Rattle.image.proofs.Sizes.{count_append, count_cons, length-bucket_bytes, length-back_words}
use Rattle.image.proofs.Stores.{sets_left, sets_right_at}
use Rattle.image.proofs.AllOfList.{All, all_map, all_middle, all_filter, all_image}
use Rattle.image.proofs.Buckets.{filled_all, first_empty_ext}
use Rattle.image.proofs.At.{At, at_equal, at_left, at_take, at_fits}
use Rattle.image.proofs.Bools.{and_both}
use Rattle.image.proofs.Parts.{placed_in, before_most, offset_word, number_word, bucket_of_lem}
use Rattle.image.proofs.EntryAt.{id_word, length_word, name_bytes, ids_below}
use Rattle.image.specs.Stored.{between}
use Rattle.image.specs.Steps.EntryLength.{whole_length}
use Rattle.image.specs.Steps.Contracts.{offset_at}
use Rattle.lookup_laws.proofs.SlotSearch.{none_equal}
use Rattle.serialize.specs.Steps.Meeting.{same_names, bucket_at, Unmet, RowUnmet}
use Rattle.serialize.specs.Steps.Insertion.{holds_table, inserted, inserted_by_row, entry_hash, back_stored, entry_inserted}
use Rattle.image.proofs.Between.{is_whole}
use Rattle.serialize.proofs.PartialImage.{table_with, tables_with, length_table_with, length_tables_with, up_to_entries, length_up_to_entries, partial}
use Rattle.serialize.proofs.PartialImage.{rows_there, tables_there, entries_from}
use Rattle.serialize.proofs.EntryAdded.{place, place_below, tables_more, back_words_more, Words, bucket_read}

-- ---- the entry at the front of the bytes of entries is whole

module _ (e : Entry) (rest : List ℕ) (short : length e.name + 1 < 2 ^ 32) where
  front : At (entry_bytes e ++ rest) 0 (entry_bytes e)
  front = record { post = rest; stands = refl }

  front_length : word (entry_bytes e ++ rest) 4 ≡ length e.name + 1
  front_length = length_word e front short

  front_end : get_or (entry_bytes e ++ rest) (7 + (length e.name + 1)) 0 ≡ 0
  unfolding entry_bytes
  front_end =
      let before = le32 e.id ++ le32 (length e.name + 1) ++ e.name in
      let n : length before ≡ 7 + (length e.name + 1) = simp (length-append, length_le32) (omega arith) in
      ap (λ (l : List ℕ). get_or l (7 + (length e.name + 1)) 0) (append_assoc before (0 ∷ []) rest)
      ∙ get_or_at before 0 rest 0 (7 + (length e.name + 1)) n

  pub front_whole : whole_length (entry_bytes e ++ rest) ≡ length e.name + 1
  front_whole =
      let l = entry_bytes e ++ rest in
      let n = front_length in
      let size : length l ≡ length e.name + 9 + length rest =
      length-append (entry_bytes e) rest ∙ ap (λ (k : ℕ). k + length rest) (length-entry_bytes e) in
      sym
      (is_whole l (omega arith) (omega arith) (omega arith) (ap (λ (k : ℕ). get_or l (7 + k) 0) n ∙ front_end))
      ∙ n

-- entries in any bytes where they stand: the first of them as it is read
module _ {img : List ℕ} (at : ℕ) (e : Entry) (rest : List Entry) (there : At img at (cat entry_bytes (e ∷ rest))) where
  pub entry_there : At img at (entry_bytes e)
  entry_there = at_left (entry_bytes e) (cat entry_bytes rest) (at_equal (cat_cons entry_bytes e rest) there)

  pub length_there : (end : ℕ) → end ≡ at + length (cat entry_bytes (e ∷ rest)) → length e.name + 1 < 2 ^ 32
      → whole_length (between img at end) ≡ length e.name + 1
  length_there end h short =
      let n : end - at ≡ length (cat entry_bytes (e ∷ rest)) = omega arith in
      ap whole_length (ap (λ (k : ℕ). take k (drop at img)) n ∙ at_take there ∙ cat_cons entry_bytes e rest)
      ∙ front_whole e (cat entry_bytes rest) short

  pub name_there : take (length e.name + 1 - 1) (drop (at + 8) img) ≡ e.name
  name_there =
      let n : length e.name + 1 - 1 ≡ length e.name = omega arith in
      ap (λ (k : ℕ). take k (drop (at + 8) img)) n ∙ name_bytes e entry_there

-- ---- stores within one part

pub store_in : (a b c vs : List ℕ) (i j : ℕ) → i ≡ length a + j → j + length vs ≤ length b → sets (a ++ b ++ c) i vs ≡ a ++ sets b j vs ++ c
store_in a b c vs i j e h =
    ap (λ (l : List ℕ). sets l i vs) (append_assoc a b c)
    ∙ sets_right_at vs a (b ++ c) j i e
    ∙ ap (λ (l : List ℕ). a ++ l) (sets_left vs b c j h)
    ∙ sym (append_assoc a (sets b j vs) c)

-- the offset of an entry in the back array, behind what stands before it
pub linked : (mode : Mode) (es : List Entry) (rs : List Placed) (p : Placed) (front tail : List ℕ) → length front ≡ entries_end es + 16 * length es
    → p.entry.id < back_size es
    → back_stored mode (front ++ back_words rs (back_size_of mode es) ++ tail) (back_offset mode es) p.entry.id p.at
    ≡ front ++ back_words (rs ++ p ∷ []) (back_size_of mode es) ++ tail
unfolding back_offset back_words range cat
linked Twoway es rs p front tail n h =
    let i = p.entry.id in
    let size = back_size es in
    ap (λ (b : Bool). sets (front ++ back_words rs size ++ tail) (cond b 0 (entries_end es + 16 * length es) + 4 * i) (le32 p.at))
    (ne_eqb size 0 (λ z. omega arith))
    ∙ store_in front (back_words rs size) tail (le32 p.at) (entries_end es + 16 * length es + 4 * i) (4 * i) (omega arith)
    (omega (arith, length-back_words rs size, length_le32 p.at))
    ∙ ap (λ (l : List ℕ). front ++ l ++ tail) (back_words_more rs p size h)
linked Oneway es rs p front tail n h = refl

-- ---- the entry among the others

-- an entry that follows others
abbrev pub next_of : List Entry → Entry → Placed
next_of qs e = record { entry = e; at = head_size + entries_size qs }

pub placed_more : (qs : List Entry) (e : Entry) → placed_in (qs ++ e ∷ []) ≡ placed_in qs ++ next_of qs e ∷ []
unfolding placed
placed_more qs e = placed_append head_size qs (e ∷ [])

-- where the entry after it begins
pub next_at : (qs : List Entry) (e : Entry) → head_size + entries_size qs + (8 + (length e.name + 1)) ≡ head_size + entries_size (qs ++ e ∷ [])
unfolding entries_size
next_at qs e = omega (arith, entries_size-append qs (e ∷ []))

-- offsets of entries are at most where the entries end
pub offsets : (o n : ℕ) (es : List Entry) → o + entries_size es ≤ n → All (λ (p : Placed). p.at ≤ n) (placed o es)
unfolding placed entries_size
offsets o n [] h = tt
offsets o n (e ∷ es) h = (omega arith, offsets (o + entry_size e) n es (omega arith))

-- and at least where they begin
pub above : (o : ℕ) (es : List Entry) → All (λ (p : Placed). o ≤ p.at) (placed o es)
unfolding placed
above o [] = tt
above o (e ∷ es) = (omega arith, all_map (λ p h. omega (arith, h)) (placed (o + entry_size e) es) (above (o + entry_size e) es))

module _ (mode : Mode) (es qs rest : List Entry) (e : Entry) (tail : List ℕ) (split : es ≡ qs ++ e ∷ rest)
    (fits : image_size mode es ≤ 4294967295) (ids : All (λ (x : Entry). x.id < 2 ^ 32) es) where
  B : List ℕ
  B = partial mode es qs ++ tail

  ps : List Placed
  ps = placed_in es

  rs : List Placed
  rs = placed_in qs

  p : Placed
  p = next_of qs e

  u : ℕ
  u = table_of (hash_of e.name)

  pub own_below : table_of (hash_of e.name) < 256
  own_below = mod-lt (hash_of e.name) (lit< tt)

  u_below : u < 256
  unfolding u
  u_below = own_below

  pub sizes : entries_size es ≡ entries_size qs + (entry_size e + entries_size rest)
  unfolding entries_size
  sizes = ap entries_size split ∙ entries_size-append qs (e ∷ rest)

  pub id_small : e.id < 2 ^ 32
  id_small = all_middle (λ (x : Entry). x.id < 2 ^ 32) qs rest e (rw split at ids)

  pub id_below : e.id < back_size es
  id_below =
      all_middle (λ (x : Entry). x.id < back_size es) qs rest e
      (ids_below (qs ++ e ∷ rest) (back_size es) (omega (arith, ap back_size split)))

  pub one_there : count (table_of (hash_of e.name)) (placed_in qs) < count (table_of (hash_of e.name)) (placed_in es)
  unfolding placed
  one_there =
      let u = table_of (hash_of e.name) in
      let q = placed (head_size + entries_size qs + entry_size e) rest in
      let c : count u (placed_in es) ≡ count u (placed_in qs) + count u (next_of qs e ∷ q) =
      ap (λ (l : List Entry). count u (placed_in l)) split
      ∙ ap (count u) (placed_append head_size qs (e ∷ rest))
      ∙ count_append u (placed_in qs) (next_of qs e ∷ q) in
      let d : count u (next_of qs e ∷ q) ≡ 1 + count u q =
      count_cons u (next_of qs e) q ∙ ap (λ (b : Bool). cond b 1 0 + count u q) (eq-eqb u u refl) in
      omega arith

  some_there : 0 < count u ps
  unfolding u ps
  some_there = let o = one_there in omega arith

  -- ---- the entry as it is read

  from_here : At (partial mode es qs ++ tail) (head_size + entries_size qs) (cat entry_bytes (e ∷ rest))
  from_here = entries_from mode es qs (e ∷ rest) qs tail split

  here : At B (head_size + entries_size qs) (entry_bytes e)
  unfolding B
  here = entry_there (head_size + entries_size qs) e rest from_here

  pub name_short : length e.name + 1 < 2 ^ 32
  name_short = omega (arith, sizes)

  pub ends_there : entries_end es ≡ head_size + entries_size qs + length (cat entry_bytes (e ∷ rest))
  unfolding entries_size
  ends_there = omega (arith, sizes, length_entries (e ∷ rest))

  pub length_found : whole_length (between (partial mode es qs ++ tail) (head_size + entries_size qs) (entries_end es)) ≡ length e.name + 1
  length_found = length_there (head_size + entries_size qs) e rest from_here (entries_end es) ends_there name_short

  pub name_found : take (length e.name + 1 - 1) (drop (head_size + entries_size qs + 8) (partial mode es qs ++ tail)) ≡ e.name
  name_found = name_there (head_size + entries_size qs) e rest from_here

  -- ---- the bucket for it

  tables_fit : entries_end es + 16 * length ps ≤ 4294967295
  unfolding ps
  tables_fit = omega (arith, length_placed head_size es)

  table_there : word B (24 + 8 * u) ≡ entries_end es + 16 * entries_before u ps
  unfolding B ps table_offset
  table_there =
      offset_word (entries_end es) (placed_in es) (rows_there mode es qs tail) tables_fit u u_below
      ∙ ap (λ (b : Bool). cond b 0 (entries_end es + 16 * entries_before u (placed_in es)))
      (ne_eqb (count u (placed_in es)) 0 (λ z. let s = some_there in omega arith))

  number_there : word B (28 + 8 * u) ≡ 2 * count u ps
  unfolding B ps
  number_there = number_word (entries_end es) (placed_in es) (rows_there mode es qs tail) tables_fit u u_below

  words_small : (k : ℕ) → Words (get_or (table_with ps rs u) k empty)
  unfolding table_with rs of_table
  words_small k =
      filled_all Words (2 * count u ps) (map bucket_of (of_table u rs)) (omega arith, omega arith)
      (all_image Words bucket_of (λ q h. (hash_of_below q.entry.name, omega (arith, sizes))) (of_table u rs)
      (all_filter (λ (q : Placed). q.at ≤ entries_end es) (in_table u) rs (offsets head_size (entries_end es) qs (omega (arith, sizes))))) k

  bucket_there : (k : ℕ) → k < 2 * count u ps → bucket_at B (entries_end es + 16 * entries_before u ps) k ≡ get_or (table_with ps rs u) k empty
  unfolding B ps rs tables_with
  bucket_there k h =
      bucket_read (entries_end es + 16 * entries_before u ps) k (get_or (table_with ps rs u) k empty)
      (bucket_of_lem (placed_in es) (table_with ps rs) (length_table_with ps rs) (entries_end es) (tables_there mode es qs tail) u k u_below h)
      (words_small k)

  slot_there : first_empty (offset_at B (entries_end es + 16 * entries_before u ps))
      (probe_sequence (2 * count u ps) (2 * count u ps) (start (hash_of e.name) (2 * count u ps)))
      ≡ place ps rs p
  unfolding place u p
  slot_there =
      let o = entries_end es + 16 * entries_before u ps in
      let n = 2 * count u ps in
      let h = hash_of e.name in
      let seen : (k : ℕ) → k < n → offset_at B o k ≡ at_of (table_with ps rs u) k = λ k l. ap (λ (b : Bucket). b.at) (bucket_there k l) in
      first_empty_ext (offset_at B o) (at_of (table_with ps rs u)) n seen n (start h n) (mod-lt (h / 256) (let s = some_there in omega arith))

  holds_table_lem : holds_table B (entries_end es + 16 * entries_before u ps) (2 * count u ps) ≡ true
  unfolding B ps
  holds_table_lem =
      let o = entries_end es + 16 * entries_before u (placed_in es) in
      let n = 2 * count u (placed_in es) in
      let T = tables_with (placed_in es) (placed_in qs) in
      let long = length_tables_with (placed_in es) (placed_in qs) in
      let most = before_most (placed_in es) u u_below in
      let some = some_there in
      let inside : entries_end es + length T ≤ length B = at_fits (tables_there mode es qs tail) (omega arith) in
      and_both (leb 1 n) (leb (o + 8 * n) (length B)) (le-leb 1 n (omega arith)) (le-leb (o + 8 * n) (length B) (omega arith))

  -- the bytes up to the end of the entries
  front_there : take (entries_end es) B ≡ up_to_entries mode es
  unfolding B partial
  front_there =
      let U = up_to_entries mode es in
      let T = tables_with (placed_in es) (placed_in qs) in
      let L = back_words (placed_in qs) (back_size_of mode es) in
      ap₂ take (sym (length_up_to_entries mode es)) (append_assoc (U ++ T) L tail ∙ append_assoc U T (L ++ tail)) ∙ take-append_seam U (T ++ (L ++ tail))

  table_held : TableIs (2 * count u ps) (bucket_at B (entries_end es + 16 * entries_before u ps)) (map bucket_of (of_table u rs))
  unfolding table_with
  table_held = record { each = bucket_there }

  -- its search met no entry of equal name: no earlier entry of its table and hash has its name
  pub row_apart : RowUnmet (partial mode es qs ++ tail) (entries_end es) (hash_of e.name) (head_size + entries_size qs)
      → All (λ (x : Bucket). x.hash ≡ hash_of e.name → same_names (up_to_entries mode es) (head_size + entries_size qs) x.at ≡ false)
      (map bucket_of (of_table (table_of (hash_of e.name)) (placed_in qs)))
  unfolding B ps rs u of_table
  row_apart told =
      let h = hash_of e.name in
      let at = head_size + entries_size qs in
      let end = entries_end es in
      let o = entries_end es + 16 * entries_before u ps in
      let n = 2 * count u ps in
      let v : ℕ → Bool = same_names (take end B) at in
      let there : Unmet B end o n h at =
      subst (λ (y : ℕ). Unmet B end o y h at) number_there (subst (λ (x : ℕ). Unmet B end x (word B (28 + 8 * u)) h at) table_there told) in
      let some = some_there in
      let few = one_there in
      let size = length-map (of_table u rs) bucket_of in
      subst (λ (f : List ℕ). All (λ (x : Bucket). x.hash ≡ h → same_names f at x.at ≡ false) (map bucket_of (of_table u rs))) front_there
      (none_equal table_held (omega arith) h v (omega arith)
      (all_image (λ (b : Bucket). b.at ≡ 0 → ⊥) bucket_of (λ q l z. omega arith) (of_table u rs)
      (all_filter (λ (q : Placed). head_size ≤ q.at) (in_table u) rs (above head_size qs)))
      there)

  -- ---- the buffer with its pair, and with its offset in the back array

  U : List ℕ
  U = up_to_entries mode es

  with_pair : inserted_by_row B (hash_of e.name) (head_size + entries_size qs) ≡ U ++ tables_with ps (rs ++ p ∷ [])
      ++ back_words rs (back_size_of mode es) ++ tail
  unfolding inserted_by_row inserted bucket_bytes partial B U ps rs u p
  with_pair =
      let h = hash_of e.name in
      let at = head_size + entries_size qs in
      let o = entries_end es + 16 * entries_before u ps in
      let n = 2 * count u ps in
      ap₂ (λ (x : ℕ) (y : ℕ). cond (holds_table B x y) (inserted B x y h at) B) table_there number_there
      ∙ ap (λ (b : Bool). cond b (inserted B o n h at) B) holds_table_lem
      ∙ ap (λ (k : ℕ). sets B (o + 8 * k) (le32 h ++ le32 at)) slot_there
      ∙ bucket_stored
    where
      inside : 16 * entries_before u ps + 8 * place ps rs p + length (bucket_bytes (bucket_of p)) ≤ length (tables_with ps rs)
      inside =
          omega (arith, length-bucket_bytes (bucket_of p), length_tables_with ps rs, before_most ps u u_below, place_below ps rs p some_there)

      bucket_stored : sets B (entries_end es + 16 * entries_before u ps + 8 * place ps rs p) (bucket_bytes (bucket_of p))
          ≡ U ++ tables_with ps (rs ++ p ∷ []) ++ back_words rs (back_size_of mode es) ++ tail
      bucket_stored =
          let L = back_words rs (back_size_of mode es) in
          let o = entries_end es + 16 * entries_before u ps + 8 * place ps rs p in
          let j = 16 * entries_before u ps + 8 * place ps rs p in
          ap (λ (l : List ℕ). sets l o (bucket_bytes (bucket_of p))) (append_assoc (U ++ tables_with ps rs) L tail)
          ∙ store_in U (tables_with ps rs) (L ++ tail) (bucket_bytes (bucket_of p)) o j (omega (arith, length_up_to_entries mode es)) inside
          ∙ ap (λ (l : List ℕ). U ++ l ++ (L ++ tail)) (tables_more ps rs p some_there)
          ∙ sym (append_assoc (U ++ tables_with ps (rs ++ p ∷ [])) L tail)

  pub step : entry_inserted mode (back_offset mode es) (partial mode es qs ++ tail) (head_size + entries_size qs) (length e.name + 1)
      ≡ partial mode es (qs ++ e ∷ []) ++ tail
  unfolding entry_inserted entry_hash partial B ps rs p U
  step =
      let at = head_size + entries_size qs in
      let L = back_words rs (back_size_of mode es) in
      let F = U ++ tables_with ps (rs ++ p ∷ []) in
      let n : length F ≡ entries_end es + 16 * length es =
      let T = tables_with ps (rs ++ p ∷ []) in
      omega (arith, length-append U T, length_up_to_entries mode es, length_tables_with ps (rs ++ p ∷ []), length_placed head_size es) in
      ap (λ (name : List ℕ). back_stored mode (inserted_by_row B (hash_of name) at) (back_offset mode es) (word B at) at) name_found
      ∙ ap (λ (l : List ℕ). back_stored mode l (back_offset mode es) (word B at) at) with_pair
      ∙ ap (λ (i : ℕ). back_stored mode (F ++ L ++ tail) (back_offset mode es) i at) (id_word e here id_small)
      ∙ linked mode es rs p F tail n id_below
      ∙ ap (λ (l : List Placed). U ++ tables_with ps l ++ back_words l (back_size_of mode es) ++ tail) (sym (placed_more qs e))

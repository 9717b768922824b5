-- The entries partitioned: what the steps leave, from the cleared back array to the pairs of all entries. Assumes
-- nothing.
use Rattle.std.proofs.Common.{◌≡◌, ℕ, zero, suc, ◌+◌, ◌*◌, ◌%◌, ◌^◌, ◌<◌, ◌≤◌, Bool, cond, eqb, List, [], ◌∷◌, ◌++◌, length, get_or, set, replicate, sym}
use Rattle.std.proofs.Common.{refl, ap, ◌∙◌, ap₂, append_assoc, append-nil, mod-eq_of_lt, arith, length-append, length-set, get_or-set_other, get_or-set_same}
use Rattle.std.proofs.Common.{ne_eqb, le-leb}
use native.Mathlib.Decide.{ℕ_discrete}
use lib.ListN.{length-replicate}
use lib.Seq.{sets}
use Rattle.jhash.specs.NameHash.{hash_of}
use Rattle.image.specs.Bytes.{word, cat, range}
use Rattle.image.specs.Tables.{table_of}
use Rattle.image.specs.Image.{Entry, Placed, head_size, entry_bytes, entries_size, placed, count, bucket_of, bucket_bytes}
use Rattle.image.specs.Image.{entries_before, back_words, back_size_of, back_offset, entries_end, image_size, head_words, table_rows}
use Rattle.image.specs.Stored.{between}
use Rattle.image.specs.Steps.EntryLength.{whole_length}
use Rattle.image.specs.declared.Mode.{Mode}
use Rattle.image.proofs.Sizes.{length_placed, placed_append, count_nil, count_append, length-bucket_bytes, length-head_words, length-table_rows, before_suc}
use Rattle.image.proofs.Stores.{sets_whole}
use Rattle.image.proofs.AllOfList.{All}
use Rattle.image.proofs.At.{At, at_same, at_right}
use Rattle.image.proofs.Parts.{placed_in, before_most}
use Rattle.image.proofs.EntryAt.{id_word}
use Rattle.serialize.specs.Steps.Insertion.{entry_hash, back_stored}
use Rattle.serialize.specs.Steps.Partition.{pair_put, advanced, partitioned, partitioned_from, table_offsets_from}
use Rattle.serialize.proofs.HeadRows.{Counts}
use Rattle.serialize.proofs.PartialImage.{up_to_entries, length_up_to_entries, entries_after}
use Rattle.serialize.proofs.InsertStep.{next_of, next_at, placed_more, store_in, linked}
use Rattle.serialize.proofs.InsertStep.{entry_there, length_there, name_there, own_below, id_small, id_below, one_there, name_short, ends_there}
use Rattle.serialize.proofs.TableAreas.{area_with, length_areas, length_area_with, count_own, count_other, areas_more}

-- ---- the entries in an image whose tables are not made yet

pub entries_in : (mode : Mode) (es : List Entry) (rest : List ℕ) → At (up_to_entries mode es ++ rest) head_size (cat entry_bytes es)
unfolding up_to_entries
entries_in mode es rest =
    let H = head_words mode es in
    let R = table_rows (entries_end es) (placed_in es) in
    let n : 0 + length (H ++ R) ≡ head_size =
    omega (arith, length-append H R, length-head_words mode es, length-table_rows (entries_end es) (placed_in es)) in
    at_same n (at_right (H ++ R) (cat entry_bytes es) (record { post = rest; stands = refl }))

-- ---- the first pass: pairs and back array

-- the next place of each table after the entries rs
pub record Places (end : ℕ) (ps rs : List Placed) (places : List ℕ) : Type 0 where
  pub many : length places ≡ 256
  pub each : (t : ℕ) → t < 256 → get_or places t 0 ≡ end + 16 * entries_before t ps + 8 * count t rs

-- where the tables begin, before any entry
module _ (counts : List ℕ) (end : ℕ) (ps : List Placed) (tallies : Counts counts ps) (small : end + 16 * length ps ≤ 4294967295) where
  length_begin : (m t o : ℕ) → length (table_offsets_from counts o t m) ≡ m
  unfolding table_offsets_from
  length_begin zero t o = refl
  length_begin (suc m) t o = ap suc (length_begin m (suc t) (o + 16 * get_or counts t 0))

  begin_at : (m t o i : ℕ) → t + m ≤ 256 → o ≡ end + 16 * entries_before t ps → i < m
      → get_or (table_offsets_from counts o t m) i 0 ≡ (end + 16 * entries_before (t + i) ps) % 4294967296
  unfolding table_offsets_from
  begin_at zero t o i h e l = absurd (omega arith)
  begin_at (suc m) t o zero h e l =
      let z : t ≡ t + 0 = omega arith in
      ap (λ (k : ℕ). k % 4294967296) (e ∙ ap (λ (k : ℕ). end + 16 * entries_before k ps) z)
  begin_at (suc m) t o (suc i) h e l =
      let z : suc t + i ≡ t + suc i = omega arith in
      let c = tallies t (omega arith) in
      begin_at m (suc t) (o + 16 * get_or counts t 0) i (omega arith) (omega (arith, before_suc t ps)) (omega arith)
      ∙ ap (λ (k : ℕ). (end + 16 * entries_before k ps) % 4294967296) z

  pub places_begin : Places end ps [] (sets (replicate 256 0) 0 (table_offsets_from counts end 0 256))
  unfolding entries_before
  places_begin = rw whole (record { many = length_begin 256 0 end; each = each })
    where
      whole : sets (replicate 256 0) 0 (table_offsets_from counts end 0 256) ≡ table_offsets_from counts end 0 256
      whole =
          let R = table_offsets_from counts end 0 256 in
          let zeros : List ℕ = replicate 256 0 in
          ap (λ (l : List ℕ). sets l 0 R) (sym (append-nil zeros))
          ∙ sets_whole R zeros [] (length_begin 256 0 end ∙ sym (length-replicate {A = ℕ} 256 0))
          ∙ append-nil R

      each : (t : ℕ) → t < 256 → get_or (table_offsets_from counts end 0 256) t 0 ≡ end + 16 * entries_before t ps + 8 * count t []
      each t h =
          let z : 0 + t ≡ t = omega arith in
          let none : end ≡ end + 16 * entries_before 0 ps = omega arith in
          begin_at 256 0 end t (omega arith) none h
          ∙ ap (λ (k : ℕ). (end + 16 * entries_before k ps) % 4294967296) z
          ∙ mod-eq_of_lt (omega (arith, before_most ps t h))
          ∙ omega (arith, count_nil t)

-- a front of bytes, tables of the entries es that have the pairs of the entries qs, and the back array of these
unfoldable pub halfway : Mode → List ℕ → List Entry → List ℕ → List Entry → List ℕ → List ℕ
halfway mode F es X qs tail =
    F ++ cat (area_with (placed_in es) X (placed_in qs)) (range 0 256) ++ back_words (placed_in qs) (back_size_of mode es) ++ tail

-- the pairs have their room, whatever stands before them
module _ (mode : Mode) (F : List ℕ) (es : List Entry) (X tail : List ℕ) (front : length F ≡ entries_end es)
    (long : length X ≡ 16 * length (placed_in es)) where
  ps : List Placed
  ps = placed_in es

  few : (qs rest : List Entry) → es ≡ qs ++ rest → (t : ℕ) → count t (placed_in qs) ≤ count t (placed_in es)
  few qs rest split t =
      let c : count t (placed_in es) ≡ count t (placed_in qs) + count t (placed (head_size + entries_size qs) rest) =
      ap (λ (l : List Entry). count t (placed_in l)) split
      ∙ ap (count t) (placed_append head_size qs rest)
      ∙ count_append t (placed_in qs) (placed (head_size + entries_size qs) rest) in
      omega arith

  areas_long : (qs rest : List Entry) → es ≡ qs ++ rest → length (cat (area_with (placed_in es) X (placed_in qs)) (range 0 256)) ≡ 16 * length es
  areas_long qs rest split =
      length_areas (placed_in es) (area_with (placed_in es) X (placed_in qs))
      (λ t h. length_area_with (placed_in es) X long (placed_in qs) t h (few qs rest split t))
      ∙ ap (λ (n : ℕ). 16 * n) (length_placed head_size es)

  module _ (qs rest : List Entry) (e : Entry) (split : es ≡ qs ++ e ∷ rest) (fits : image_size mode es ≤ 4294967295)
      (ids : All (λ (x : Entry). x.id < 2 ^ 32) es) (places : List ℕ) (next : Places (entries_end es) (placed_in es) (placed_in qs) places) where
    B : List ℕ
    B = halfway mode F es X qs tail

    rs : List Placed
    rs = placed_in qs

    p : Placed
    p = next_of qs e

    u : ℕ
    u = table_of (hash_of e.name)

    at : ℕ
    at = head_size + entries_size qs

    place_there : get_or places u 0 ≡ entries_end es + 16 * entries_before u ps + 8 * count u rs
    unfolding u ps rs
    place_there = next.each (table_of (hash_of e.name)) (own_below mode es qs rest e tail split fits ids)

    with_pair : pair_put B (get_or places u 0) (hash_of e.name) at
        ≡ F ++ cat (area_with ps X (rs ++ p ∷ [])) (range 0 256) ++ back_words rs (back_size_of mode es) ++ tail
    unfolding B halfway bucket_bytes at u rs p ps
    with_pair =
        let R = cat (area_with (placed_in es) X (placed_in qs)) (range 0 256) in
        let L = back_words (placed_in qs) (back_size_of mode es) in
        let b = bucket_bytes (bucket_of (next_of qs e)) in
        let v = table_of (hash_of e.name) in
        let j = 16 * entries_before v (placed_in es) + 8 * count v (placed_in qs) in
        let below = own_below mode es qs rest e tail split fits ids in
        let one = one_there mode es qs rest e tail split fits ids in
        let most = before_most (placed_in es) v below in
        let sized = areas_long qs (e ∷ rest) split in
        let inside : get_or places v 0 + 8 ≤ length (F ++ R ++ L ++ tail) =
        omega
        (arith, place_there, length-append (F ++ R ++ L) tail, length-append (F ++ R) L, length-append F R, front, length_placed head_size es) in
        ap (λ (t : Bool). cond t (sets (F ++ R ++ L ++ tail) (get_or places v 0) b) (F ++ R ++ L ++ tail))
        (le-leb (get_or places v 0 + 8) (length (F ++ R ++ L ++ tail)) inside)
        ∙ ap (λ (l : List ℕ). sets l (get_or places v 0) b) (append_assoc (F ++ R) L tail)
        ∙ store_in F R (L ++ tail) b (get_or places v 0) j (omega (arith, place_there, front))
        (omega (arith, length_placed head_size es, length-bucket_bytes (bucket_of (next_of qs e))))
        ∙ ap (λ (l : List ℕ). F ++ l ++ (L ++ tail))
        (areas_more (placed_in es) X long (placed_in qs) (next_of qs e) (λ t h. few qs (e ∷ rest) split t) one below)
        ∙ sym (append_assoc (F ++ cat (area_with (placed_in es) X (placed_in qs ++ next_of qs e ∷ [])) (range 0 256)) L tail)

    pub half_step : partitioned mode (back_offset mode es) places (halfway mode F es X qs tail) (head_size + entries_size qs) e.id (hash_of e.name)
        ≡ halfway mode F es X (qs ++ e ∷ []) tail
    unfolding partitioned B halfway at rs p ps u
    half_step =
        let L = back_words (placed_in qs) (back_size_of mode es) in
        let G = F ++ cat (area_with (placed_in es) X (placed_in qs ++ next_of qs e ∷ [])) (range 0 256) in
        let o = back_offset mode es in
        let size : length G ≡ entries_end es + 16 * length es =
        length-append F (cat (area_with (placed_in es) X (placed_in qs ++ next_of qs e ∷ [])) (range 0 256))
        ∙ ap₂ ◌+◌ front
        (ap (λ (l : List Placed). length (cat (area_with (placed_in es) X l) (range 0 256))) (sym (placed_more qs e))
        ∙ areas_long (qs ++ e ∷ []) rest (split ∙ sym (append_assoc qs (e ∷ []) rest))) in
        ap (λ (l : List ℕ). back_stored mode l o e.id at) with_pair
        ∙ linked mode es (placed_in qs) (next_of qs e) G tail size (id_below mode es qs rest e tail split fits ids)
        ∙ ap (λ (l : List Placed). F ++ cat (area_with (placed_in es) X l) (range 0 256) ++ back_words l (back_size_of mode es) ++ tail)
        (sym (placed_more qs e))

    pub half_places : Places (entries_end es) (placed_in es) (placed_in (qs ++ e ∷ [])) (advanced places (hash_of e.name))
    unfolding advanced u ps rs
    half_places = rw (placed_more qs e) (record { many = length-set places u v ∙ next.many; each = λ t h. its_place t h (ℕ_discrete t u) })
      where
        v : ℕ
        v = (get_or places (table_of (hash_of e.name)) 0 + 8) % 4294967296

        its_place : (t : ℕ) → t < 256 → Dec (t ≡ table_of (hash_of e.name))
            → get_or (set places (table_of (hash_of e.name)) ((get_or places (table_of (hash_of e.name)) 0 + 8) % 4294967296)) t 0
            ≡ entries_end es + 16 * entries_before t (placed_in es) + 8 * count t (placed_in qs ++ next_of qs e ∷ [])
        its_place t h (yes y) =
            let w = table_of (hash_of e.name) in
            let x = get_or places w 0 + 8 in
            let below = own_below mode es qs rest e tail split fits ids in
            let one = one_there mode es qs rest e tail split fits ids in
            let small : x < 4294967296 = omega (arith, place_there, before_most (placed_in es) w below, length_placed head_size es) in
            rw y
            (get_or-set_same places w (x % 4294967296) 0 (omega (arith, next.many))
            ∙ mod-eq_of_lt small
            ∙ omega (arith, place_there, count_own (placed_in es) X long (placed_in qs) (next_of qs e)))
        its_place t h (no z) =
            let w = table_of (hash_of e.name) in
            get_or-set_other places w t ((get_or places w 0 + 8) % 4294967296) 0 z
            ∙ next.each t h
            ∙ ap (λ (k : ℕ). entries_end es + 16 * entries_before t (placed_in es) + 8 * k)
            (sym (count_other (placed_in es) X long (placed_in qs) (next_of qs e) t z))

-- the entries that stand in the front are read and partitioned
module _ (mode : Mode) (es : List Entry) (X tail : List ℕ) (long : length X ≡ 16 * length (placed_in es)) where
  abbrev U : List ℕ
  U = up_to_entries mode es

  module _ (qs rest : List Entry) (e : Entry) (split : es ≡ qs ++ e ∷ rest) (fits : image_size mode es ≤ 4294967295)
      (ids : All (λ (x : Entry). x.id < 2 ^ 32) es) where
    from_here : At (halfway mode U es X qs tail) (head_size + entries_size qs) (cat entry_bytes (e ∷ rest))
    unfolding halfway
    from_here =
        let R = cat (area_with (placed_in es) X (placed_in qs)) (range 0 256) in
        let L = back_words (placed_in qs) (back_size_of mode es) in
        entries_after es (e ∷ rest) qs (rw (append_assoc (U ++ R) L tail, append_assoc U R (L ++ tail)) (entries_in mode es (R ++ (L ++ tail)))) split

    half_length : whole_length (between (halfway mode U es X qs tail) (head_size + entries_size qs) (entries_end es)) ≡ length e.name + 1
    half_length =
        length_there (head_size + entries_size qs) e rest from_here (entries_end es) (ends_there mode es qs rest e tail split fits ids)
        (name_short mode es qs rest e tail split fits ids)

    half_hash : entry_hash (halfway mode U es X qs tail) (head_size + entries_size qs) (length e.name + 1) ≡ hash_of e.name
    unfolding entry_hash
    half_hash = ap hash_of (name_there (head_size + entries_size qs) e rest from_here)

    half_id : word (halfway mode U es X qs tail) (head_size + entries_size qs) ≡ e.id
    half_id = id_word e (entry_there (head_size + entries_size qs) e rest from_here) (id_small mode es qs rest e tail split fits ids)

  pub half_walked : image_size mode es ≤ 4294967295 → All (λ (x : Entry). x.id < 2 ^ 32) es → (rest qs : List Entry) → es ≡ qs ++ rest → (places : List ℕ)
      → Places (entries_end es) (placed_in es) (placed_in qs) places
      → partitioned_from mode (back_offset mode es) (entries_end es) (length rest) (head_size + entries_size qs) places
      (halfway mode (up_to_entries mode es) es X qs tail)
      ≡ halfway mode (up_to_entries mode es) es X es tail
  unfolding partitioned_from
  half_walked fits ids [] qs split places next = ap (λ (l : List Entry). halfway mode U es X l tail) (sym (split ∙ append-nil qs))
  half_walked fits ids (e ∷ rest) qs split places next =
      let at = head_size + entries_size qs in
      let H = halfway mode U es X qs tail in
      let o = back_offset mode es in
      let end = entries_end es in
      let n = length e.name + 1 in
      let h = hash_of e.name in
      let m = length rest in
      let later : ℕ → ℕ → ℕ → List ℕ = λ k i x. partitioned_from mode o end m (at + (8 + k)) (advanced places x) (partitioned mode o places H at i x) in
      ap (λ (k : ℕ). cond (eqb k 0) H (later k (word H at) (entry_hash H at k))) (half_length qs rest e split fits ids)
      ∙ ap (λ (b : Bool). cond b H (later n (word H at) (entry_hash H at n))) (ne_eqb n 0 (λ z. omega arith))
      ∙ ap₂ (λ (i x : ℕ). later n i x) (half_id qs rest e split fits ids) (half_hash qs rest e split fits ids)
      ∙ ap (λ (l : List ℕ). partitioned_from mode o end m (at + (8 + n)) (advanced places h) l)
      (half_step mode U es X tail (length_up_to_entries mode es) long qs rest e split fits ids places next)
      ∙ ap (λ (k : ℕ). partitioned_from mode o end m k (advanced places h) (halfway mode U es X (qs ++ e ∷ []) tail)) (next_at qs e)
      ∙ half_walked fits ids rest (qs ++ e ∷ []) (split ∙ sym (append_assoc qs (e ∷ []) rest)) (advanced places h)
      (half_places mode U es X tail (length_up_to_entries mode es) long qs rest e split fits ids places next)

-- The names of a list hashed, and its entries stored and partitioned one after the other: what holds before each turn. Assumes nothing.
use Prim.Native.Nat.{ℕ, suc, ◌+◌, ◌*◌, ◌^◌, ◌≤◌, ◌<◌}
use native.Mathlib.Omega.{arith}
use native.Mathlib.Numerals.{add-one}
use native.Mathlib.Decide.{ℕ_discrete}
use native.Mathlib.Nat.{mod-lt}
use mathlib.Core.Path.{◌≡◌, refl, sym, ap, ap₂, subst, ◌∙◌}
use mathlib.Core.Bool.{Bool, ◌||◌, or-false, or_assoc}
use mathlib.Core.List.{List, [], ◌∷◌, ◌++◌, append-nil, append_assoc}
use lib.ListN.{length, get_or, set, take, drop, replicate, length-set, length-append, length-drop, length-take, length-replicate}
use lib.ListN.{get_or-replicate, drop_of_length-le}
use lib.Seq.{sets, sets-eq, take_all, take-suc, split_at, get_or-set_same, get_or-set_other, drop-set-lt, drop-drop, drop-cons}
use lib.Dec.{eqb}
use Rattle.jhash.specs.NameHash.{hash_of, hash_or_zero}
use Rattle.jhash.proofs.Outcomes.{hash_or_zero_short}
use Rattle.image.specs.declared.Mode.{Mode}
use Rattle.image.specs.Bytes.{cat, range}
use Rattle.image.specs.Tables.{table_of}
use Rattle.image.specs.Zero.{has_zero}
use Rattle.image.specs.Tally.{raised_counts}
use Rattle.image.specs.Image.{Entry, head_size, entry_bytes, entries_size, placed, count, back_words, back_size_of, back_offset, entries_end, image_size}
use Rattle.image.specs.Image.{head_words, table_rows}
use Rattle.image.proofs.AllOfList.{All}
use Rattle.image.proofs.Lists.{cat_append}
use Rattle.image.proofs.Parts.{placed_in}
use Rattle.image.proofs.Sizes.{entries_size-append, length_entries, length-entry_bytes, length_placed, count_nil, length-head_words, length-table_rows}
use Rattle.image.proofs.Stores.{sets_left, sets_right_at}
use Rattle.image.specs.PackedNames.{names, nth}
use Rattle.image.proofs.NameEnds.{length_names}
use Rattle.serialize.specs.Steps.Partition.{table_offsets_from, partitioned, advanced, EntryPartitioned}
use Rattle.serialize.proofs.PartialImage.{up_to_entries}
use Rattle.serialize.proofs.HeadRows.{Counts}
use Rattle.serialize.proofs.TableAreas.{area_with}
use Rattle.serialize.proofs.Partitioned.{Places, halfway, half_step, half_places}
use Rattle.serialize.proofs.TablesFilled.{filled_to, filled_first, none_parted, places_first}
use Rattle.writer.specs.Put.{entry_of}
use Rattle.lists.proofs.Appended.{count_within, count_same, count_other}
use Rattle.build.specs.Steps.Stores.{list_entries, Hashes, Tallied, HashListPre, HashListPost}
use Rattle.build.proofs.Listed.{length_listed, nth_listed}

-- ---- zero bytes, a turn at a time

pub any_zero_step : (bytes : List ℕ) (i : ℕ) (b x : Bool) → i < length bytes → (b || has_zero (drop i bytes)) ≡ x
    → ((b || eqb (get_or bytes i 0) 0) || has_zero (drop (i + 1) bytes)) ≡ x
unfolding has_zero
any_zero_step bytes i b x h p =
    let e : suc i ≡ i + 1 = omega arith in
    let z = eqb (get_or bytes i 0) 0 in
    or_assoc b z (has_zero (drop (i + 1) bytes))
    ∙ ap (λ (k : ℕ). b || (z || has_zero (drop k bytes))) (sym e)
    ∙ sym (ap (λ (l : List ℕ). b || has_zero l) (drop-cons bytes i 0 h))
    ∙ p

pub any_zero_end : (bytes : List ℕ) (i : ℕ) (b x : Bool) → length bytes ≤ i → (b || has_zero (drop i bytes)) ≡ x → b ≡ x
unfolding has_zero
any_zero_end bytes i b x h p = sym (or-false b) ∙ ap (λ (l : List ℕ). b || has_zero l) (sym (drop_of_length-le bytes {i = i} h)) ∙ p

-- ---- the first entries and the next one

module _ (bytes ends ids : List ℕ) (many : length ends ≤ length ids) where
  abbrev xs : List (List ℕ)
  xs = names bytes ends

  abbrev es : List Entry
  es = list_entries bytes ends ids

  number : length es ≡ length ends
  number = length_listed xs ids (omega (arith, length_names bytes ends, many)) ∙ length_names bytes ends

  module _ (i : ℕ) (below : i < length ends) (name : List ℕ) (named : name ≡ nth (names bytes ends) i) where
    there : get_or es i (entry_of [] 0) ≡ entry_of name (get_or ids i 0)
    there =
        nth_listed xs ids i (entry_of [] 0) (omega (arith, length_names bytes ends, many)) (omega (arith, length_names bytes ends))
        ∙ ap (λ (x : List ℕ). entry_of x (get_or ids i 0)) (sym named)

    pub next_entry : take (i + 1) (list_entries bytes ends ids) ≡ take i (list_entries bytes ends ids) ++ entry_of name (get_or ids i 0) ∷ []
    next_entry = ap (λ (m : ℕ). take m es) (add-one i) ∙ take-suc es i (entry_of [] 0) (omega (arith, number)) ∙ ap (λ (x : Entry). take i es ++ (x ∷ [])) there

    pub split_there : list_entries bytes ends ids
        ≡ take i (list_entries bytes ends ids) ++ entry_of name (get_or ids i 0) ∷ drop (suc i) (list_entries bytes ends ids)
    split_there = split_at es i (entry_of [] 0) (omega (arith, number)) ∙ ap (λ (x : Entry). take i es ++ x ∷ drop (suc i) es) there

-- ---- hashes and counts

pub record HashingTo (bytes ends hashes₀ : List ℕ) (i : ℕ) (hashes counts : List ℕ) : Type 0 where
  pub inside : i ≤ length ends
  pub hashed : Hashes bytes ends hashes i
  pub size : length hashes ≡ length hashes₀
  pub tail : drop (length ends) hashes ≡ drop (length ends) hashes₀
  pub many : length counts ≡ 256
  pub tallies : (ids : List ℕ) → length ends ≤ length ids → Tallied counts (take i (list_entries bytes ends ids))

module _ {bytes ends hashes₀ counts₀ : List ℕ} (pre : HashListPre bytes ends hashes₀ counts₀) where
  pub hashing_start : HashingTo bytes ends hashes₀ 0 hashes₀ counts₀
  unfolding placed
  hashing_start =
      record {
        inside = omega arith;
        hashed = λ j h. absurd (omega arith);
        size = refl;
        tail = refl;
        many = ap length pre.none ∙ length-replicate {A = ℕ} 256 0;
        tallies = λ ids m t h. ap (λ (l : List ℕ). get_or l t 0) pre.none ∙ get_or-replicate 256 t 0 0 h ∙ sym (count_nil t);
      }

  module _ {i : ℕ} {hashes counts : List ℕ} (g : HashingTo bytes ends hashes₀ i hashes counts) where
    pub hashing_end : length ends ≤ i → HashListPost bytes ends hashes₀ hashes counts
    hashing_end h =
        let last : i ≡ length ends = omega (arith, g.inside) in
        record {
          hashed = subst (Hashes bytes ends hashes) last g.hashed;
          rest = g.tail;
          tallies = λ ids m. subst (Tallied counts) (take_all i (list_entries bytes ends ids) (omega (arith, number bytes ends ids m))) (g.tallies ids m);
        }

    module _ (below : i < length ends) {name : List ℕ} (named : name ≡ nth (names bytes ends) i) {h : ℕ} (hash : h ≡ hash_or_zero name) where
      its_hash : h ≡ hash_of name
      its_hash = hash ∙ hash_or_zero_short name (omega (arith, ap length named, pre.short i below))

      -- one more is a word
      pub count_word : get_or counts (table_of h) 0 < 4294967295
      count_word =
          let qs = take i (list_entries bytes ends ends) in
          let few = length-take i (list_entries bytes ends ends) in
          let tallied = g.tallies ends (omega arith) (table_of h) (mod-lt h (omega arith)) in
          omega (arith, tallied, count_within (table_of h) (placed head_size qs), length_placed head_size qs, few, pre.number_word)

      raised : (qs : List Entry) (e : Entry) → h ≡ hash_of e.name → Tallied counts qs → Tallied (raised_counts counts h) (qs ++ e ∷ [])
      unfolding raised_counts
      raised qs e is told t k =
          elim (ℕ_discrete t (table_of h)) [
            | yes z ↦
                ap (get_or (set counts (table_of h) (get_or counts (table_of h) 0 + 1)) t) refl
                ∙ rw z (get_or-set_same counts (table_of h) (get_or counts (table_of h) 0 + 1) 0 (omega (arith, g.many, mod-lt h {m = 256} (omega arith))))
                ∙ ap (λ (x : ℕ). x + 1) (told (table_of h) (mod-lt h (omega arith)))
                ∙ sym (ap (λ (u : ℕ). count u (placed head_size (qs ++ e ∷ []))) z ∙ count_same (table_of h) head_size qs e (ap table_of (sym is)))
            | no z ↦
                get_or-set_other counts (table_of h) t (get_or counts (table_of h) 0 + 1) 0 z
                ∙ told t k
                ∙ sym (count_other t head_size qs e (λ y. z (sym y ∙ ap table_of (sym is))))
          ]

      pub hashing_step : length ends ≤ length hashes₀ → {counts' : List ℕ} → counts' ≡ raised_counts counts h
          → HashingTo bytes ends hashes₀ (i + 1) (set hashes i h) counts'
      unfolding raised_counts
      hashing_step long {counts'} more =
          record {
            inside = omega arith;
            hashed = λ j b. elim (ℕ_discrete j i) [
              | yes z ↦ ap (λ (k : ℕ). get_or (set hashes i h) k 0) z ∙ get_or-set_same hashes i h 0 (omega (arith, g.size)) ∙ its_hash ∙ ap hash_of named
                  ∙ ap (λ (k : ℕ). hash_of (nth (names bytes ends) k)) (sym z)
              | no z ↦ get_or-set_other hashes i j h 0 z ∙ g.hashed j (omega arith)
            ];
            size = length-set hashes i h ∙ g.size;
            tail = drop-set-lt (length ends) hashes i h below ∙ g.tail;
            many = ap length more ∙ length-set counts (table_of h) (get_or counts (table_of h) 0 + 1) ∙ g.many;
            tallies = λ ids m. subst (Tallied counts') (sym (next_entry bytes ends ids m i below name named))
                (subst (λ (c : List ℕ). Tallied c (take i (list_entries bytes ends ids) ++ entry_of name (get_or ids i 0) ∷ [])) (sym more)
                (raised (take i (list_entries bytes ends ids)) (entry_of name (get_or ids i 0)) its_hash (g.tallies ids m)));
          }

-- ---- entries stored in the place that they will have, and partitioned

-- head and rows of the image of es, the first entries, and what stood behind them
unfoldable pub front_with : Mode → List Entry → List ℕ → List Entry → List ℕ
front_with mode es E qs = head_words mode es ++ table_rows (entries_end es) (placed_in es) ++ (cat entry_bytes qs ++ drop (entries_size qs) E)

-- before the turn of the entry behind qs
pub record StoringTo (mode : Mode) (es : List Entry) (E X tail : List ℕ) (qs : List Entry) (buf places : List ℕ) (at : ℕ) : Type 0 where
  pub is : buf ≡ halfway mode (front_with mode es E qs) es X qs tail
  pub next : Places (entries_end es) (placed_in es) (placed_in qs) places
  pub offset : at ≡ head_size + entries_size qs

module _ (mode : Mode) (es : List Entry) (E X tail : List ℕ) (room : length E ≡ entries_size es) (long : length X ≡ 16 * length (placed_in es)) where
  abbrev HR : List ℕ
  HR = head_words mode es ++ table_rows (entries_end es) (placed_in es)

  length-HR : length HR ≡ head_size
  length-HR =
      length-append (head_words mode es) (table_rows (entries_end es) (placed_in es))
      ∙ ap₂ ◌+◌ (length-head_words mode es) (length-table_rows (entries_end es) (placed_in es))

  front_long : (qs rest : List Entry) → es ≡ qs ++ rest → length (front_with mode es E qs) ≡ entries_end es
  unfolding front_with
  front_long qs rest split =
      let C = cat entry_bytes qs in
      let D = drop (entries_size qs) E in
      let sizes : entries_size es ≡ entries_size qs + entries_size rest = ap entries_size split ∙ entries_size-append qs rest in
      omega (arith, length-append HR (C ++ D), length-append C D, length-HR, length_entries qs, length-drop (entries_size qs) E, room, sizes)

  -- none is stored
  pub storing_first : {buf : List ℕ} → buf ≡ HR ++ E ++ X ++ back_words [] (back_size_of mode es) ++ tail → (counts : List ℕ) → Counts counts (placed_in es)
      → image_size mode es ≤ 4294967295 → StoringTo mode es E X tail [] buf (sets (replicate 256 0) 0 (table_offsets_from counts (entries_end es) 0 256)) 2072
  unfolding front_with entries_size cat
  storing_first e counts tallies fits =
      record {
        is = e ∙ none_parted mode es X tail counts long fits tallies (HR ++ E);
        next = places_first mode es X tail counts long fits tallies;
        offset = refl;
      }

  -- all are stored
  front_whole : front_with mode es E es ≡ up_to_entries mode es
  unfolding front_with up_to_entries
  front_whole =
      ap (λ (l : List ℕ). HR ++ (cat entry_bytes es ++ l)) (drop_of_length-le E {i = entries_size es} (omega (arith, room)))
      ∙ ap (λ (l : List ℕ). HR ++ l) (append-nil (cat entry_bytes es))

  pub storing_last : {buf places : List ℕ} {at : ℕ} → StoringTo mode es E X tail es buf places at → buf ≡ filled_to mode es X 0 tail
  storing_last g = g.is ∙ ap (λ (F : List ℕ). halfway mode F es X es tail) front_whole ∙ filled_first mode es X tail long

  module _ (qs rest : List Entry) (e : Entry) (split : es ≡ qs ++ e ∷ rest) (fits : image_size mode es ≤ 4294967295)
      (ids : All (λ (x : Entry). x.id < 2 ^ 32) es) where
    abbrev at : ℕ
    at = head_size + entries_size qs

    abbrev b : List ℕ
    b = entry_bytes e

    fits_there : entries_size qs + length b ≤ length E
    unfolding entries_size
    fits_there =
        let sizes : entries_size es ≡ entries_size qs + entries_size (e ∷ rest) = ap entries_size split ∙ entries_size-append qs (e ∷ rest) in
        omega (arith, room, sizes, length-entry_bytes e)

    front_next : sets (front_with mode es E qs) at b ≡ front_with mode es E (qs ++ e ∷ [])
    unfolding front_with entries_size cat
    front_next =
        let C = cat entry_bytes qs in
        let D = drop (entries_size qs) E in
        let more : entries_size qs + (0 + length b) ≡ entries_size (qs ++ e ∷ []) = omega (arith, entries_size-append qs (e ∷ []), length-entry_bytes e) in
        sets_right_at b HR (C ++ D) (entries_size qs) at (omega (arith, length-HR))
        ∙ ap (λ (l : List ℕ). HR ++ l)
        (sets_right_at b C D 0 (entries_size qs) (omega (arith, length_entries qs))
        ∙ ap (λ (l : List ℕ). C ++ l) (sets-eq b D 0 (omega (arith, length-drop (entries_size qs) E, fits_there)))
        ∙ ap (λ (l : List ℕ). C ++ (b ++ l)) (drop-drop (0 + length b) (entries_size qs) E ∙ ap (λ (k : ℕ). drop k E) more)
        ∙ sym (append_assoc C b (drop (entries_size (qs ++ e ∷ [])) E))
        ∙ ap (λ (l : List ℕ). l ++ drop (entries_size (qs ++ e ∷ [])) E)
        (ap (λ (l : List ℕ). C ++ l) (sym (append-nil b)) ∙ sym (cat_append entry_bytes qs (e ∷ []))))

    -- an entry lies before the tables
    stored : (F : List ℕ) → at + length b ≤ length F → sets (halfway mode F es X qs tail) at b ≡ halfway mode (sets F at b) es X qs tail
    unfolding halfway
    stored F h =
        let R = cat (area_with (placed_in es) X (placed_in qs)) (range 0 256) in
        let L = back_words (placed_in qs) (back_size_of mode es) in
        ap (λ (l : List ℕ). sets l at b) (append_assoc (F ++ R) L tail ∙ append_assoc F R (L ++ tail))
        ∙ sets_left b F (R ++ (L ++ tail)) at h
        ∙ sym (append_assoc (sets F at b ++ R) L tail ∙ append_assoc (sets F at b) R (L ++ tail))

    pub storing_step : {buf places : List ℕ} {k : ℕ} → StoringTo mode es E X tail qs buf places k → {b1 b2 places' : List ℕ} → b1 ≡ sets buf k (entry_bytes e)
        → {l id h : ℕ} → l ≡ back_offset mode es → id ≡ e.id → h ≡ hash_of e.name → EntryPartitioned mode l k id h places b1 places' b2
        → StoringTo mode es E X tail (qs ++ e ∷ []) b2 places' (k + (9 + length e.name))
    unfolding entries_size
    storing_step {buf} {places} {k} g {b1} {b2} e1 {l} {id} {h} el ei eh done =
        let F = front_with mode es E (qs ++ e ∷ []) in
        let o = back_offset mode es in
        let rest-there : es ≡ (qs ++ e ∷ []) ++ rest = split ∙ sym (append_assoc qs (e ∷ []) rest) in
        let front = front_long (qs ++ e ∷ []) rest rest-there in
        let b1-is : b1 ≡ halfway mode F es X qs tail =
        e1
        ∙ ap₂ (λ (m : List ℕ) (j : ℕ). sets m j b) g.is g.offset
        ∙ stored (front_with mode es E qs) (omega (arith, front_long qs (e ∷ rest) split, fits_there, room))
        ∙ ap (λ (m : List ℕ). halfway mode m es X qs tail) front_next in
        record {
          is =
              done.stored
              ∙ ap (λ (m : List ℕ). partitioned mode l places m k id h) b1-is
              ∙ ap₂ (λ (u j : ℕ). partitioned mode u places (halfway mode F es X qs tail) j id h) el g.offset
              ∙ ap₂ (λ (u v : ℕ). partitioned mode o places (halfway mode F es X qs tail) at u v) ei eh
              ∙ half_step mode F es X tail front long qs rest e split fits ids places g.next;
          next = subst (Places (entries_end es) (placed_in es) (placed_in (qs ++ e ∷ []))) (sym (done.moved ∙ ap (advanced places) eh))
              (half_places mode F es X tail front long qs rest e split fits ids places g.next);
          offset = omega (arith, g.offset, entries_size-append qs (e ∷ []));
        }

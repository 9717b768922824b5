-- If no entries of equal name met while the tables were filled, no two entries have equal names. Assumes nothing.
use Rattle.std.proofs.Common.{◌≡◌, ℕ, zero, suc, ◌+◌, ◌-◌, ◌*◌, ◌^◌, ◌<◌, ◌≤◌, true, false, List, [], ◌∷◌, ◌++◌, map, length, take, drop, sym, refl, ap, ◌∙◌}
use Rattle.std.proofs.Common.{subst, ap₂, append_assoc, append-nil, mod-lt, arith, eq-eqb}
use native.Mathlib.Decide.{ℕ_discrete}
use Rattle.jhash.specs.NameHash.{hash_of}
use Rattle.image.specs.Bytes.{same, cat, filter}
use Rattle.image.specs.Tables.{Bucket, table_of}
use Rattle.image.specs.Image.{Entry, Placed, head_size, entry_bytes, entry_size, entries_size, placed, in_table, of_table, count, bucket_of, entries_before}
use Rattle.image.specs.Image.{back_offset, entries_end, image_size}
use Rattle.image.specs.declared.Mode.{Mode}
use Rattle.image.proofs.Equal.{same_true}
use Rattle.image.proofs.Lists.{filter_yes}
use Rattle.image.proofs.Sizes.{length_entries, entries_size-append, placed_append, before_suc}
use Rattle.image.proofs.AllOfList.{All, all_map, all_both, all_filter, all_image}
use Rattle.image.proofs.At.{At}
use Rattle.image.proofs.Parts.{placed_in}
use Rattle.serialize.specs.Steps.Insertion.{entry_hash, entry_inserted}
use Rattle.serialize.specs.Steps.Partition.{pairs_stored, table_filled}
use Rattle.serialize.specs.Steps.Meeting.{name_in, same_names, Pairwise, OtherNames, Apart, Distinct, RowUnmet, UnmetFrom, TablesApart}
use Rattle.serialize.proofs.Choices.{never_true}
use Rattle.serialize.proofs.HeadRows.{Counts}
use Rattle.serialize.proofs.Pairwise.{all_before, pairwise_more, all_tested, pairwise_rest}
use Rattle.serialize.proofs.PartialImage.{up_to_entries, length_up_to_entries, partial, entries_after}
use Rattle.serialize.proofs.EntryAdded.{own_table}
use Rattle.serialize.proofs.InsertStep.{length_there, name_there, next_at, above, length_found, name_found, step, row_apart}
use Rattle.serialize.proofs.TablesFilled.{filled_to, front_filled, table_step, pairs_are}
use Rattle.serialize.proofs.Partitioned.{entries_in}

-- ---- names that are read in the bytes up to the end of the entries

module _ (mode : Mode) (es : List Entry) (fits : entries_end es ≤ 4294967295) where
  entries_up : At (up_to_entries mode es) head_size (cat entry_bytes es)
  entries_up = rw append-nil at (entries_in mode es [])

  name_in_lem : (qs rest : List Entry) (e : Entry) → es ≡ qs ++ e ∷ rest → name_in (up_to_entries mode es) (head_size + entries_size qs) ≡ e.name
  unfolding name_in entries_size
  name_in_lem qs rest e split =
      let U = up_to_entries mode es in
      let at = head_size + entries_size qs in
      let there = entries_after es (e ∷ rest) qs entries_up split in
      let sizes : entries_size es ≡ entries_size qs + entries_size (e ∷ rest) = ap entries_size split ∙ entries_size-append qs (e ∷ rest) in
      let end : length U ≡ at + length (cat entry_bytes (e ∷ rest)) = omega (arith, length_up_to_entries mode es, length_entries (e ∷ rest)) in
      ap (λ (k : ℕ). take (k - 1) (drop (at + 8) U)) (length_there at e rest there (length U) end (omega arith))
      ∙ name_there at e rest there

  pub names_placed : (rest qs : List Entry) → es ≡ qs ++ rest
      → All (λ (p : Placed). name_in (up_to_entries mode es) p.at ≡ p.entry.name) (placed (head_size + entries_size qs) rest)
  unfolding placed
  names_placed [] qs split = tt
  names_placed (e ∷ rest) qs split =
      let o : head_size + entries_size (qs ++ e ∷ []) ≡ head_size + entries_size qs + entry_size e = omega (arith, next_at qs e) in (
        name_in_lem qs rest e split,
        subst (λ (k : ℕ). All (λ (p : Placed). name_in (up_to_entries mode es) p.at ≡ p.entry.name) (placed k rest)) o
            (names_placed rest (qs ++ e ∷ []) (split ∙ sym (append_assoc qs (e ∷ []) rest))),
      )

-- ---- two entries, of which only those of one table and hash were compared

module _ (front : List ℕ) where
  abbrev Named : Placed → Type 0
  Named p = name_in front p.at ≡ p.entry.name

  other : (p q : Placed) → Named p → Named q
      → (table_of (hash_of p.entry.name) ≡ table_of (hash_of q.entry.name) → OtherNames front (bucket_of p) (bucket_of q))
      → same p.entry.name q.entry.name ≡ false
  other p q np nq told =
      never_true (same p.entry.name q.entry.name) (λ e.
      let equal = same_true p.entry.name q.entry.name e in
      sym (ap₂ same np nq) ∙ told (ap (λ (x : List ℕ). table_of (hash_of x)) equal) (ap hash_of equal))

  entries_of : (P : Entry → Type 0) (o : ℕ) (es : List Entry) → All (λ (p : Placed). P p.entry) (placed o es) → All P es
  unfolding placed
  entries_of P o [] all = tt
  entries_of P o (e ∷ es) all = (all.0, entries_of P (o + entry_size e) es all.1)

  pub tables_distinct : (o : ℕ) (es : List Entry) → All Named (placed o es)
      → ((t : ℕ) → t < 256 → Pairwise (OtherNames front) (map bucket_of (of_table t (placed o es)))) → Distinct es
  unfolding placed of_table
  tables_distinct o [] named apart = tt
  tables_distinct o (e ∷ es) named apart =
      let p : Placed = record { entry = e; at = o } in
      let t = own_table p in
      let q = placed (o + entry_size e) es in
      let two : Pairwise (OtherNames front) (map bucket_of (p ∷ filter (in_table t) q)) =
      subst (λ (l : List Placed). Pairwise (OtherNames front) (map bucket_of l)) (filter_yes (in_table t) p q (eq-eqb t t refl))
      (apart t (mod-lt (hash_of e.name) (omega arith))) in
      let told = all_tested (OtherNames front (bucket_of p)) bucket_of (in_table t) q two.0 in
      let each : All (λ (x : Placed). same e.name x.entry.name ≡ false) q =
      all_map (λ x h. other p x named.0 h.0 (λ z. h.1 (eq-eqb (table_of (hash_of x.entry.name)) t (sym z)))) q
      (all_both Named (λ (x : Placed). in_table t x ≡ true → OtherNames front (bucket_of p) (bucket_of x)) q named.1 told) in (
        entries_of (λ (y : Entry). same e.name y.name ≡ false) (o + entry_size e) es each,
        tables_distinct (o + entry_size e) es named.1 (λ s h. pairwise_rest (OtherNames front) bucket_of (in_table s) p q (apart s h)),
      )

-- ---- by tables

module _ (mode : Mode) (es : List Entry) (X tail : List ℕ) (long : length X ≡ 16 * length (placed_in es)) (fits : image_size mode es ≤ 4294967295)
    (counts : List ℕ) (tallies : Counts counts (placed_in es)) where
  abbrev front : List ℕ
  front = up_to_entries mode es

  tables_apart : (m t : ℕ) → t + m ≤ 256
      → TablesApart front counts (entries_end es + 16 * entries_before t (placed_in es)) t m (filled_to mode es X t tail)
      → (s : ℕ) → t ≤ s → s < t + m → Apart front (map bucket_of (of_table s (placed_in es)))
  tables_apart zero t h told s a b = absurd (omega arith)
  tables_apart (suc m) t h told s a b =
      let below : t < 256 = omega arith in
      let ps = placed_in es in
      let o = entries_end es + 16 * entries_before t ps in
      let F = filled_to mode es X t tail in
      let more : o + 16 * count t ps ≡ entries_end es + 16 * entries_before (suc t) ps = omega (arith, before_suc t ps) in
      let Both : ℕ → Type 0 = λ c. Apart front (pairs_stored F o c) × TablesApart front counts (o + 16 * c) (suc t) m (table_filled F o c) in
      let two : Both (count t ps) = subst Both (tallies t below) told in
      elim (ℕ_discrete t s) [
        | yes e ↦ subst (λ (k : ℕ). Apart front (map bucket_of (of_table k ps))) e (subst (Apart front) (pairs_are mode es X tail long fits t below) two.0)
        | no e ↦ tables_apart m (suc t) (omega arith)
            (subst (λ (k : ℕ). TablesApart front counts k (suc t) m (filled_to mode es X (suc t) tail)) more
            (subst (λ (l : List ℕ). TablesApart front counts (o + 16 * count t ps) (suc t) m l) (table_step mode es X tail long fits t below) two.1))
            s (omega (arith, e)) (omega arith)
      ]

  pub by_tables_distinct : TablesApart (take (entries_end es) (filled_to mode es X 0 tail)) counts (entries_end es) 0 256
      (filled_to mode es X 0 tail) → Distinct es
  unfolding entries_before entries_size of_table
  by_tables_distinct told =
      let U = up_to_entries mode es in
      let none : entries_end es ≡ entries_end es + 16 * entries_before 0 (placed_in es) = omega arith in
      let full : (t : ℕ) → All (λ (b : Bucket). b.at ≡ 0 → ⊥) (map bucket_of (of_table t (placed_in es))) = λ t.
      all_image (λ (b : Bucket). b.at ≡ 0 → ⊥) bucket_of (λ q l z. omega arith) (of_table t (placed_in es))
      (all_filter (λ (q : Placed). head_size ≤ q.at) (in_table t) (placed_in es) (above head_size es)) in
      let apart = subst (λ (g : List ℕ). TablesApart g counts (entries_end es) 0 256 (filled_to mode es X 0 tail)) (front_filled mode es X tail long) told in
      tables_distinct U head_size es (names_placed mode es (omega arith) es [] refl)
      (λ t h. tables_apart 256 0 (omega arith) (subst (λ (k : ℕ). TablesApart front counts k 0 256 (filled_to mode es X 0 tail)) none apart) t
      (omega arith) h (full t))

-- ---- one by one

module _ (mode : Mode) (es : List Entry) (tail : List ℕ) (small : image_size mode es ≤ 4294967295) (ids : All (λ (e : Entry). e.id < 2 ^ 32) es) where
  abbrev U : List ℕ
  U = up_to_entries mode es

  pub singly_distinct : (rest qs : List Entry) → es ≡ qs ++ rest → Distinct qs
      → UnmetFrom mode (back_offset mode es) (entries_end es) (length rest) (head_size + entries_size qs) (partial mode es qs ++ tail) → Distinct es
  unfolding entry_hash of_table placed entries_size
  singly_distinct [] qs split two told = subst Distinct (sym (split ∙ append-nil qs)) two
  singly_distinct (e ∷ rest) qs split two told =
      let at = head_size + entries_size qs in
      let B = partial mode es qs ++ tail in
      let o = back_offset mode es in
      let end = entries_end es in
      let n = length e.name + 1 in
      let p : Placed = record { entry = e; at = at } in
      let t = own_table p in
      let Both : ℕ → Type 0 = λ k. RowUnmet B end (entry_hash B at k) at × UnmetFrom mode o end (length rest) (at + (8 + k)) (entry_inserted mode o B at k) in
      let both : Both n = subst Both (length_found mode es qs rest e tail split small ids) told in
      let row : RowUnmet B end (hash_of e.name) at =
      subst (λ (name : List ℕ). RowUnmet B end (hash_of name) at) (name_found mode es qs rest e tail split small ids) both.0 in
      let own = (names_placed mode es (omega arith) (e ∷ rest) qs split).0 in
      let earlier : All (Named U) (placed_in qs) =
      all_before (Named U) (placed_in qs) (placed at (e ∷ rest))
      (subst (All (Named U)) (ap (placed head_size) split ∙ placed_append head_size qs (e ∷ rest)) (names_placed mode es (omega arith) es [] refl)) in
      let told-each = all_tested (λ (x : Bucket). x.hash ≡ hash_of e.name → same_names U at x.at ≡ false) bucket_of (in_table t) (placed_in qs)
      (row_apart mode es qs rest e tail split small ids row) in
      let each : All (λ (x : Placed). same x.entry.name e.name ≡ false) (placed_in qs) =
      all_map (λ x h. other U x p h.0 own (λ z. h.1 (eq-eqb (table_of (hash_of x.entry.name)) t z))) (placed_in qs)
      (all_both (Named U) (λ (x : Placed). in_table t x ≡ true → OtherNames U (bucket_of x) (bucket_of p)) (placed_in qs) earlier told-each) in
      let later =
      subst (λ (k : ℕ). UnmetFrom mode o end (length rest) k (partial mode es (qs ++ e ∷ []) ++ tail)) (next_at qs e)
      (subst (λ (l : List ℕ). UnmetFrom mode o end (length rest) (at + (8 + n)) l) (step mode es qs rest e tail split small ids) both.1) in
      singly_distinct rest (qs ++ e ∷ []) (split ∙ sym (append_assoc qs (e ∷ []) rest))
      (pairwise_more (λ (x y : Entry). same x.name y.name ≡ false) qs e two
      (entries_of U (λ (x : Entry). same x.name e.name ≡ false) head_size qs each))
      later

-- A table matches its entries exactly where it is the filled one: each entry goes into an empty bucket, and stays there. Assumes nothing.
use Prim.Native.Nat.{ℕ, zero, suc, ◌+◌, ◌/◌, ◌≤◌, ◌<◌}
use native.Mathlib.Omega.{arith}
use native.Mathlib.Nat.{mod-lt}
use native.Mathlib.Decide.{dec_lt, ℕ_discrete}
use mathlib.Core.Path.{◌≡◌, refl, sym, ap, ◌∙◌}
use mathlib.Core.Bool.{Bool, true, false, cond}
use mathlib.Core.List.{List, [], ◌∷◌, map}
use lib.ListN.{length, get_or, set, replicate, length-replicate}
use lib.Seq.{get_or-set_same, get_or-set_other}
use lib.Dec.{eqb, ltb}
use borrow.Author.Tests.{lt-ltb, le-ltb, eqb-true, eqb-false}
use Rattle.image.specs.Tables.{Bucket, empty, at_of, start, probe_sequence, first_empty, insert, insert_all, filled, Filled}
use Rattle.image.specs.Steps.Contracts.{hidden}
use Rattle.image.proofs.AllOfList.{All, all_map}
use Rattle.image.proofs.Buckets.{get_or_empties, length-probe_sequence, first_empty_ext}
use Rattle.image.proofs.Sizes.{length_insert}
use Rattle.lookup_laws.proofs.ProbeSequence.{probe_sequence_at, place_of}
use Rattle.serialize.proofs.EntryAdded.{first_empty_below}
use Rattle.canonical.specs.Steps.HiddenBuckets.{bit, used_to, Rising, put_bucket, Stands, TableMatches}
use Rattle.canonical.proofs.Sums.{bit_yes, bit_no, bit_mono, sum_zero, sum_same, sum_more, used_room}
use Rattle.canonical.proofs.Cells as cells

-- the offsets in buckets
abbrev pub bucket_offsets : List Bucket → List ℕ
bucket_offsets bs = map (λ (b : Bucket). b.at) bs

-- a bucket as it was before the put at a: empty if its offset is a or more
abbrev hide : ℕ → Bucket → Bucket
hide a b = cond (ltb b.at a) b empty

hide_shows : (a : ℕ) (b : Bucket) → b.at < a → hide a b ≡ b
hide_shows a b h = rw (lt-ltb b.at a h)

hide_hides : (a : ℕ) (b : Bucket) → a ≤ b.at → hide a b ≡ empty
hide_hides a b h = rw (le-ltb b.at a h)

hide_at : (a : ℕ) (b : Bucket) → (hide a b).at ≡ hidden a b.at
hide_at a b = same_offset (ltb b.at a)
  where
    same_offset : (t : Bool) → (cond t b empty).at ≡ cond t b.at 0
    same_offset true = refl
    same_offset false = refl

-- a bucket whose offset is not from a to c is hidden from both or from none
hide_same : (a c : ℕ) (b : Bucket) → a ≤ c → (a ≤ b.at → c ≤ b.at) → hide a b ≡ hide c b
hide_same a c b le far =
    elim (dec_lt b.at a) [
      | yes h ↦ hide_shows a b h ∙ sym (hide_shows c b (omega arith))
      | no h ↦ let k = far (omega arith) in hide_hides a b (omega arith) ∙ sym (hide_hides c b k)
    ]

-- a search that meets an empty bucket finds one
first_found : (at : ℕ → ℕ) (ks : List ℕ) (i : ℕ) → i < length ks → at (get_or ks i 0) ≡ 0 → at (first_empty at ks) ≡ 0
unfolding first_empty
first_found at [] i h z = absurd (omega arith)
first_found at (k ∷ ks) i h z = found_from (eqb (at k) 0) refl i h z (λ j l y. first_found at ks j l y)
  where
    found_from : (t : Bool) → eqb (at k) 0 ≡ t → (i : ℕ) → i < length (k ∷ ks) → at (get_or (k ∷ ks) i 0) ≡ 0
        → ((j : ℕ) → j < length ks → at (get_or ks j 0) ≡ 0 → at (first_empty at ks) ≡ 0) → at (cond t k (first_empty at ks)) ≡ 0
    found_from true e i h z rest = eqb-true (at k) 0 e
    found_from false e zero h z rest = absurd (eqb-false (at k) 0 e z)
    found_from false e (suc i) h z rest = rest i (omega arith) z

-- a table of n buckets that took m entries, all before offset a
record Inserted (n : ℕ) (table : List Bucket) (m a : ℕ) : Type 0 where
  sized : length table ≡ n
  zeros : (k : ℕ) → at_of table k ≡ 0 → get_or table k empty ≡ empty
  used : used_to (at_of table) n ≡ m
  below : (k : ℕ) → at_of table k < a

-- the finished table, where F took m entries before offset a and bs are those from a on
record Holds (n : ℕ) (slots : ℕ → Bucket) (F bs : List Bucket) (m a : ℕ) : Type 0 where
  was : (k : ℕ) → k < n → get_or F k empty ≡ hide a (slots k)
  zeros : (k : ℕ) → k < n → (slots k).at ≡ 0 → slots k ≡ empty
  used : used_to (λ (k : ℕ). (slots k).at) n ≡ m + length bs
  stand : All (Stands n slots) bs

module _ (n : ℕ) (slots : ℕ → Bucket) where
  abbrev put : Bucket → ℕ
  put b = put_bucket n slots b

  abbrev offset : ℕ → ℕ
  offset k = (slots k).at

  abbrev at : Bucket → ℕ
  at b = b.at

  start_below : (h : ℕ) → 0 < n → start h n < n
  start_below h some = mod-lt (h / 256) some

  -- where the table F is the finished one before the put of x, that put takes x's bucket
  takes : (F : List Bucket) (x : Bucket) → 0 < n → ((k : ℕ) → k < n → get_or F k empty ≡ hide x.at (slots k))
      → first_empty (at_of F) (probe_sequence n n (start x.hash n)) ≡ put x
  takes F x some is =
      first_empty_ext (at_of F) (λ (k : ℕ). hidden x.at (offset k)) n (λ k h. ap at (is k h) ∙ hide_at x.at (slots k)) n (start x.hash n)
      (start_below x.hash some)

  -- ---- a matching table is the filled one

  abbrev own : ℕ → List Bucket → ℕ
  own k bs = cells.own put at offset k bs

  own_most : (k a : ℕ) (bs : List Bucket) → Rising a (bucket_offsets bs) → own k bs ≤ bit a (offset k)
  own_most k a bs r = cells.own_most put at offset k a bs r

  filled_from : (a : ℕ) (F bs : List Bucket) → length F ≡ n → ((k : ℕ) → k < n → get_or F k empty ≡ hide a (slots k)) → Rising a (bucket_offsets bs)
      → All (Stands n slots) bs → ((k : ℕ) → k < n → own k bs ≡ bit a (offset k)) → (k : ℕ) → k < n → slots k ≡ get_or (insert_all n F bs) k empty
  unfolding insert_all insert
  filled_from a F [] sized is r s o k h = sym (is k h ∙ hide_shows a (slots k) below)
    where
      below : offset k < a
      below =
          elim (dec_lt (offset k) a) [
            | yes l ↦ l
            | no l ↦ absurd (omega (arith, o k h, cells.own_none put at offset k, bit_yes a (offset k) (omega arith)))
          ]
  filled_from a F (x ∷ bs) sized is r s o k h =
      filled_from (suc x.at) (insert n F x) bs (length_insert n F x ∙ sized) next r.1 s.1 own_next k h
    where
      holds : offset (put x) ≡ x.at
      holds = ap at s.0.holds

      -- none of the entries that are left is before x
      first : (j : ℕ) → j < n → a ≤ offset j → x.at ≤ offset j
      first j l le =
          let self : x.at ≤ x.at = omega arith in
          elim (dec_lt (offset j) x.at) [
            | yes m ↦ absurd (omega (arith, o j l, own_most j x.at (x ∷ bs) (self, r.1), bit_yes a (offset j) le, bit_no x.at (offset j) m))
            | no m ↦ omega arith
          ]

      before : (j : ℕ) → j < n → get_or F j empty ≡ hide x.at (slots j)
      before j l = is j l ∙ hide_same a x.at (slots j) r.0 (first j l)

      other : (j : ℕ) → j < n → (j ≡ put x → ⊥) → own j bs ≡ bit a (offset j)
      other j l d = sym (cells.own_other put at offset j x bs (λ e. d (sym e))) ∙ o j l

      own_next : (j : ℕ) → j < n → own j bs ≡ bit (suc x.at) (offset j)
      own_next j l =
          let most = own_most j (suc x.at) bs r.1 in
          let le = r.0 in
          elim (ℕ_discrete j (put x)) [
            | yes e ↦ let f : offset j ≡ x.at = ap offset e ∙ holds in omega (arith, bit_no (suc x.at) (offset j) (omega arith))
            | no d ↦ omega (arith, other j l d, bit_mono a (suc x.at) (offset j) (omega arith))
          ]

      next : (j : ℕ) → j < n → get_or (insert n F x) j empty ≡ hide (suc x.at) (slots j)
      next j l =
          ap (λ (p : ℕ). get_or (set F p x) j empty) (takes F x (omega arith) before)
          ∙ elim (ℕ_discrete j (put x)) [
            | yes e ↦
                rw e
                (get_or-set_same F (put x) x empty (rw sized s.0.inside)
                ∙ sym (ap (hide (suc x.at)) s.0.holds ∙ hide_shows (suc x.at) x (omega arith)))
            | no d ↦ get_or-set_other F (put x) j x empty d ∙ before j l ∙ hide_same x.at (suc x.at) (slots j) (omega arith) (later j l d)
          ]
        where
          -- no other bucket has x's offset
          later : (j : ℕ) → j < n → (j ≡ put x → ⊥) → x.at ≤ offset j → suc x.at ≤ offset j
          later j l d le =
              let low = r.0 in
              elim (dec_lt x.at (offset j)) [
                | yes m ↦ m
                | no m ↦
                    absurd (omega (arith, other j l d, own_next j l, bit_yes a (offset j) (omega arith), bit_no (suc x.at) (offset j) (omega arith)))
              ]

  pub matching_filled : (bs : List Bucket) → Rising 1 (bucket_offsets bs) → TableMatches n slots bs → Filled n slots bs
  unfolding filled
  matching_filled bs r m = record {
    each = filled_from 1 (replicate n empty) bs (length-replicate n empty) (λ k h. get_or_empties n k ∙ sym (hidden_all k h)) r m.stand owned;
  }
    where
      owned : (k : ℕ) → k < n → own k bs ≡ bit 1 (offset k)
      owned =
          cells.owned put at offset n bs r (all_map (λ b s. s.inside) bs m.stand)
          (m.used ∙ sym (cells.all_in_cells put at offset bs (all_map (λ b s. ap at s.holds) bs m.stand)))

      hidden_all : (k : ℕ) → k < n → hide 1 (slots k) ≡ empty
      hidden_all k h =
          elim (dec_lt (offset k) 1) [
            | yes l ↦ hide_shows 1 (slots k) l ∙ m.zeros k h (omega arith)
            | no l ↦ hide_hides 1 (slots k) (omega arith)
          ]

  -- ---- the filled table matches

  inserted_none : Inserted n (replicate n empty) 0 1
  inserted_none = record {
    sized = length-replicate n empty;
    zeros = λ k z. get_or_empties n k;
    used = sum_zero (λ (k : ℕ). bit 1 (at_of (replicate n empty) k)) n (λ k. ap (λ (b : Bucket). bit 1 b.at) (get_or_empties n k));
    below = λ k. let e = ap at (get_or_empties n k) in omega arith;
  }

  module _ (F : List Bucket) (m a : ℕ) (x : Bucket) (t : Inserted n F m a) (room : m < n) (pos : 0 < a) (le : a ≤ x.at) where
    slot : ℕ
    slot = first_empty (at_of F) (probe_sequence n n (start x.hash n))

    slot_in : slot < n
    unfolding slot
    slot_in = first_empty_below (at_of F) n n (start x.hash n) (start_below x.hash (omega arith))

    slot_empty : at_of F slot ≡ 0
    unfolding slot
    slot_empty =
        let s = start x.hash n in
        let below = start_below x.hash (omega arith) in
        let (j, h, z) = used_room (at_of F) n (omega (arith, t.used)) in
        let (i, l, e) = place_of n s j below h in
        first_found (at_of F) (probe_sequence n n s) i (rw (length-probe_sequence n n s) l) (ap (at_of F) (probe_sequence_at n n s i below l ∙ e) ∙ z)

    got : get_or (insert n F x) slot empty ≡ x
    unfolding insert slot
    got = get_or-set_same F slot x empty (rw t.sized slot_in)

    kept : (k : ℕ) → (k ≡ slot → ⊥) → get_or (insert n F x) k empty ≡ get_or F k empty
    unfolding insert slot
    kept k d = get_or-set_other F slot k x empty d

    inserted_one : Inserted n (insert n F x) (suc m) (suc x.at)
    inserted_one = record {
      sized = length_insert n F x ∙ t.sized;
      zeros = λ k z. elim (ℕ_discrete k slot) [
        | yes e ↦ absurd (omega (arith, at_slot k e))
        | no d ↦ kept k d ∙ t.zeros k (sym (ap at (kept k d)) ∙ z)
      ];
      used =
          sum_more (λ (k : ℕ). bit 1 (at_of F k)) (λ (k : ℕ). bit 1 (at_of (insert n F x) k)) slot 1 n slot_in
          (omega (arith, bit_yes 1 (at_of (insert n F x) slot) (omega (arith, at_slot slot refl)), bit_no 1 (at_of F slot) (omega (arith, slot_empty))))
          (λ k d. ap (λ (b : Bucket). bit 1 b.at) (sym (kept k d)))
          ∙ (let e : used_to (at_of F) n + 1 ≡ suc m = omega (arith, t.used) in e);
      below = λ k. elim (ℕ_discrete k slot) [
        | yes e ↦ omega (arith, at_slot k e)
        | no d ↦ omega (arith, ap at (kept k d), t.below k)
      ];
    }
      where
        at_slot : (k : ℕ) → k ≡ slot → at_of (insert n F x) k ≡ x.at
        at_slot k e = ap (at_of (insert n F x)) e ∙ ap at got

    -- the finished table holds x in that bucket, and before the put of x it is F
    module _ (is : (k : ℕ) → k < n → get_or (insert n F x) k empty ≡ hide (suc x.at) (slots k)) where
      stays : slots slot ≡ x
      stays =
          let e = sym (is slot slot_in) ∙ got in
          elim (dec_lt (offset slot) (suc x.at)) [
            | yes h ↦ sym (hide_shows (suc x.at) (slots slot) h) ∙ e
            | no h ↦ let z = ap at (sym (hide_hides (suc x.at) (slots slot) (omega arith)) ∙ e) in absurd (omega arith)
          ]

      was : (c : ℕ) → a ≤ c → c ≤ x.at → (k : ℕ) → k < n → get_or F k empty ≡ hide c (slots k)
      was c low high k h =
          elim (ℕ_discrete k slot) [
            | yes e ↦ rw e (t.zeros slot slot_empty ∙ sym (ap (hide c) stays ∙ hide_hides c x high))
            | no d ↦ let same = sym (kept k d) ∙ is k h in same ∙ sym (hide_same c (suc x.at) (slots k) (omega arith) (far same))
          ]
        where
          far : get_or F k empty ≡ hide (suc x.at) (slots k) → c ≤ offset k → suc x.at ≤ offset k
          far same l =
              elim (dec_lt (offset k) (suc x.at)) [
                | yes m ↦ absurd (omega (arith, t.below k, ap at (same ∙ hide_shows (suc x.at) (slots k) m)))
                | no m ↦ omega arith
              ]

  all_hold : (F : List Bucket) (m a : ℕ) (bs : List Bucket) → Inserted n F m a → 0 < a → m + length bs ≤ n → Rising a (bucket_offsets bs)
      → ((k : ℕ) → k < n → slots k ≡ get_or (insert_all n F bs) k empty) → Holds n slots F bs m a
  unfolding insert_all slot
  all_hold F m a [] t pos room r is = record {
    was = λ k h. sym (ap (hide a) (is k h) ∙ hide_shows a (get_or F k empty) (t.below k));
    zeros = λ k h z. is k h ∙ t.zeros k (sym (ap at (is k h)) ∙ z);
    used =
        sum_same (λ (k : ℕ). bit 1 (offset k)) (λ (k : ℕ). bit 1 (at_of F k)) n (λ k h. ap (λ (b : Bucket). bit 1 b.at) (is k h))
        ∙ t.used ∙ (let e : m ≡ m + 0 = omega arith in e);
    stand = tt;
  }
  all_hold F m a (x ∷ bs) t pos room r is =
      let le = r.0 in
      let few : m < n = omega arith in
      let rest = all_hold (insert n F x) (suc m) (suc x.at) bs (inserted_one F m a x t few pos le) (omega arith) (omega arith) r.1 is in
      let self : x.at ≤ x.at = omega arith in
      let place : put x ≡ slot F m a x t few pos le = sym (takes F x (omega arith) (was F m a x t few pos le rest.was x.at le self)) in
      record {
        was = was F m a x t few pos le rest.was a (omega arith) le;
        zeros = rest.zeros;
        used = rest.used ∙ (let e : suc m + length bs ≡ m + suc (length bs) = omega arith in e);
        stand = (
          record {
            inside = rw place (slot_in F m a x t few pos le);
            holds = ap slots place ∙ stays F m a x t few pos le rest.was;
          },
          rest.stand,
        );
      }

  pub filled_matches : (bs : List Bucket) → length bs ≤ n → Rising 1 (bucket_offsets bs) → Filled n slots bs → TableMatches n slots bs
  unfolding filled
  filled_matches bs room r is =
      let h = all_hold (replicate n empty) 0 1 bs inserted_none (omega arith) (omega arith) r is.each in
      record { zeros = h.zeros; used = omega (arith, h.used); stand = h.stand }

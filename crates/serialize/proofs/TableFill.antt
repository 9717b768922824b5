-- One table filled from its pairs: they are copied, its buckets are cleared, and each pair goes in its order into the
-- first empty bucket of its search. Assumes nothing.
use Rattle.std.proofs.Common.{◌≡◌, ℕ, zero, suc, ◌+◌, ◌-◌, ◌*◌, ◌/◌, ◌<◌, ◌≤◌, Bool, true, false, cond, ◌||◌, leb, List, [], ◌∷◌, ◌++◌, length, get_or, take}
use Rattle.std.proofs.Common.{drop, set, replicate, sym, refl, ap, ◌∙◌, subst, ap₂, append-nil, mod-lt, arith, length-append, length-set, length-take-le}
use Rattle.std.proofs.Common.{get_or-set_other, get_or-set_same, le-leb}
use native.Mathlib.Decide.{ℕ_discrete}
use lib.ListN.{length-replicate}
use lib.Seq.{sets, sets-eq, length-sets}
use borrow.Author.Tests.{lt-leb}
use Rattle.image.specs.Bytes.{word, cat}
use Rattle.image.specs.Tables.{Bucket, empty, start, probe_sequence, first_empty, at_of, insert, insert_all, filled, Filled as TableIs}
use Rattle.image.specs.Image.{bucket_bytes}
use Rattle.image.proofs.Bools.{or_false_first, or_false_second}
use Rattle.image.proofs.Between.{take_sets}
use Rattle.image.proofs.Lists.{length_cat}
use Rattle.image.proofs.Sizes.{length-bucket_bytes, length_filled, filled_more}
use Rattle.image.proofs.Stores.{sets_whole, sets_part}
use Rattle.image.proofs.AllOfList.{All, all_append}
use Rattle.image.proofs.Buckets.{filled_all, first_empty_ext}
use Rattle.image.proofs.At.{At, at_whole, at_same, at_equal, at_left, at_right, at_part}
use Rattle.image.specs.Steps.Contracts.{offset_at}
use Rattle.lookup_laws.proofs.SlotSearch.{none_equal}
use Rattle.serialize.specs.Steps.Insertion.{inserted}
use Rattle.serialize.specs.Steps.Meeting.{Pairwise, same_names, OtherNames, Apart, bucket_at, PairInserted, PairsInserted, TableDone}
use Rattle.serialize.specs.Steps.Partition.{pairs_stored, pairs_in, PairsCopied, table_stored, table_filled}
use Rattle.serialize.proofs.Choices.{cond_holds}
use Rattle.serialize.proofs.PartialImage.{zeros_buckets}
use Rattle.serialize.proofs.EntryAdded.{first_empty_below, Words, bucket_read}
use Rattle.serialize.proofs.InsertStep.{store_in}
use Rattle.serialize.proofs.Insertion.{not_met}
use Rattle.serialize.proofs.Pairwise.{all_before, pairwise_more}

-- ---- the copy

abbrev pair_of : ℕ → ℕ → Bucket
pair_of h at = record { hash = h; at = at }

pairs_suc : (copy : List ℕ) (c : ℕ) → pairs_in copy (suc c) ≡ pairs_in copy c ++ (pair_of (get_or copy (2 * c) 0) (get_or copy (2 * c + 1) 0) ∷ [])
unfolding pairs_in
pairs_suc copy c = refl

length_pairs : (copy : List ℕ) (c : ℕ) → length (pairs_in copy c) ≡ c
unfolding pairs_in
length_pairs copy zero = refl
length_pairs copy (suc c) =
    omega (arith, length-append (pairs_in copy c) (pair_of (get_or copy (2 * c) 0) (get_or copy (2 * c + 1) 0) ∷ []), length_pairs copy c)

-- the pairs are in a copy of their words
pub pairs_copied : {copy buf : List ℕ} {o c : ℕ} → PairsCopied copy buf o c → (k : ℕ) → k ≤ c → pairs_in copy k ≡ pairs_stored buf o k
unfolding pairs_in pairs_stored
pairs_copied told zero h = refl
pairs_copied {copy} {buf} {o} told (suc k) h =
    ap (λ (r : List Bucket). r ++ (pair_of (get_or copy (2 * k) 0) (get_or copy (2 * k + 1) 0) ∷ [])) (pairs_copied told k (omega arith))
    ∙ ap₂ (λ (i : ℕ) (j : ℕ). pairs_stored buf o k ++ (pair_of i j ∷ [])) (told.first k (omega arith)) (told.second k (omega arith))

-- a turn of copying
module _ {copy buf : List ℕ} {o i : ℕ} (told : PairsCopied copy buf o i) (room : 2 * (i + 1) ≤ length copy) {h at : ℕ} (eh : h ≡ word buf (o + 8 * i))
    (ea : at ≡ word buf (o + 8 * i + 4)) where
  abbrev after : List ℕ
  after = set (set copy (2 * i) h) (2 * i + 1) at

  kept : (j : ℕ) → (j ≡ 2 * i → ⊥) → (j ≡ 2 * i + 1 → ⊥) → get_or after j 0 ≡ get_or copy j 0
  kept j p q = get_or-set_other (set copy (2 * i) h) (2 * i + 1) j at 0 q ∙ get_or-set_other copy (2 * i) j h 0 p

  pub copy_step : PairsCopied (set (set copy (2 * i) h) (2 * i + 1) at) buf o (i + 1)
  copy_step =
      record {
        first = λ j l. elim (ℕ_discrete j i) [
          | yes e ↦
              rw e
              (get_or-set_other (set copy (2 * i) h) (2 * i + 1) (2 * i) at 0 (λ z. omega arith)
              ∙ get_or-set_same copy (2 * i) h 0 (omega arith)
              ∙ eh)
          | no e ↦ kept (2 * j) (λ z. e (omega arith)) (λ z. omega arith) ∙ told.first j (omega (arith, e))
        ];
        second = λ j l. elim (ℕ_discrete j i) [
          | yes e ↦
              rw e (get_or-set_same (set copy (2 * i) h) (2 * i + 1) at 0 (omega (arith, length-set copy (2 * i) h)) ∙ ea)
          | no e ↦ kept (2 * j + 1) (λ z. omega arith) (λ z. e (omega arith)) ∙ told.second j (omega (arith, e))
        ];
      }

-- ---- bytes stored within a run of bytes

-- stores within the bytes that were stored
sets_within : (l vs us : List ℕ) (o i j : ℕ) → j ≡ o + i → i + length us ≤ length vs → o + length vs ≤ length l
    → sets (sets l o vs) j us ≡ sets l o (sets vs i us)
sets_within l vs us o i j e h r =
    let front : length (take o l) ≡ o = length-take-le o l (omega arith) in
    let n = length-sets vs i us in
    ap (λ (k : List ℕ). sets k j us) (sets-eq vs l o r)
    ∙ store_in (take o l) vs (drop (o + length vs) l) us j i (omega arith) h
    ∙ ap (λ (k : ℕ). take o l ++ sets vs i us ++ drop (o + k) l) (sym n)
    ∙ sym (sets-eq (sets vs i us) l o (omega arith))

stored_at : (l vs : List ℕ) (o : ℕ) → o + length vs ≤ length l → At (sets l o vs) o vs
stored_at l vs o r =
    let front : 0 + length (take o l) ≡ o = omega (arith, length-take-le o l (omega arith)) in
    at_same front
    (at_right (take o l) vs
    (at_left (take o l ++ vs) (drop (o + length vs) l) (at_equal (sets-eq vs l o r) (at_whole (sets l o vs)))))

module _ (buf T-buf : List ℕ) (T : List Bucket) (o n : ℕ) (long : length T ≡ n) (inside : o + 8 * n ≤ length buf) (some : 0 < n)
    (small : (k : ℕ) → Words (get_or T k empty)) (is : T-buf ≡ sets buf o (cat bucket_bytes T)) where
  size : length (cat bucket_bytes T) ≡ 8 * n
  size = length_cat bucket_bytes 8 length-bucket_bytes T ∙ ap (λ (k : ℕ). 8 * k) long

  -- the buckets that stand there
  pub buckets_are : (k : ℕ) → k < n → bucket_at T-buf o k ≡ get_or T k empty
  buckets_are k h =
      let there = stored_at buf (cat bucket_bytes T) o (omega (arith, size)) in
      ap (λ (l : List ℕ). bucket_at l o k) is
      ∙ bucket_read o k (get_or T k empty) (at_part bucket_bytes 8 length-bucket_bytes o T k empty there (rw long h)) (small k)

  pub area_step : (h at : ℕ) (buf' : List ℕ) → buf' ≡ inserted T-buf o n h at
      → buf' ≡ sets buf o (cat bucket_bytes (insert n T (record { hash = h; at = at })))
  unfolding inserted insert bucket_bytes
  area_step h at buf' e =
      let s = start h n in
      let below : s < n = mod-lt (h / 256) some in
      let j = first_empty (at_of T) (probe_sequence n n s) in
      let jn : j < n = first_empty_below (at_of T) n n s below in
      let b = pair_of h at in
      let seen : (k : ℕ) → k < n → offset_at T-buf o k ≡ at_of T k = λ k l. ap (λ (x : Bucket). x.at) (buckets_are k l) in
      e
      ∙ ap (λ (k : ℕ). sets T-buf (o + 8 * k) (bucket_bytes b)) (first_empty_ext (offset_at T-buf o) (at_of T) n seen n s below)
      ∙ ap (λ (l : List ℕ). sets l (o + 8 * j) (bucket_bytes b)) is
      ∙ sets_within buf (cat bucket_bytes T) (bucket_bytes b) o (8 * j) (o + 8 * j) refl (omega (arith, size, length-bucket_bytes b)) (omega (arith, size))
      ∙ ap (sets buf o) (sets_part bucket_bytes 8 length-bucket_bytes T j b (rw long jn))

-- ---- a table from its pairs

-- i of the pairs are in the table of c entries at o
pub record Filled (buf₀ pairs : List ℕ) (o c i : ℕ) (buf : List ℕ) : Type 0 where
  pub few : i ≤ c
  pub long : length buf ≡ length buf₀
  pub is : buf ≡ table_stored buf₀ o c (pairs_in pairs i)
  pub small : All Words (pairs_in pairs i)

-- the same, and if no entries of equal name met, the pairs are apart
pub record Filling (buf₀ pairs : List ℕ) (end o c i : ℕ) (buf : List ℕ) (met : Bool) : Type 0 where
  pub table : Filled buf₀ pairs o c i buf
  pub apart : met ≡ false → Apart (take end buf₀) (pairs_in pairs i)

-- the table of c entries at o in cleared bytes
module _ (base : List ℕ) (o c : ℕ) (inside : o + 16 * c ≤ length base) (buf₀ : List ℕ) (e : buf₀ ≡ sets base o (replicate (o + 16 * c - o) 0)) where
  zeros : List ℕ
  zeros = replicate (o + 16 * c - o) 0

  length_zeros : length zeros ≡ 16 * c
  unfolding zeros
  length_zeros = omega (arith, length-replicate {A = ℕ} (o + 16 * c - o) 0)

  over : (vs : List ℕ) → length vs ≡ 16 * c → sets buf₀ o vs ≡ sets base o vs
  unfolding zeros
  over vs h =
      let n = length_zeros in
      let z : o ≡ o + 0 = omega arith in
      ap (λ (l : List ℕ). sets l o vs) e
      ∙ sets_within base zeros vs o 0 o z (omega arith) (omega arith)
      ∙ ap (λ (l : List ℕ). sets base o (sets l 0 vs)) (sym (append-nil zeros))
      ∙ ap (sets base o) (sets_whole vs zeros [] (h ∙ sym n) ∙ append-nil vs)

  pub fill_start : (pairs : List ℕ) → Filled buf₀ pairs o c 0 buf₀
  unfolding pairs_in filled insert_all zeros
  fill_start pairs =
      let T : List Bucket = replicate (2 * c) empty in
      let n : length (cat bucket_bytes T) ≡ 16 * c =
      omega (arith, length_cat bucket_bytes 8 length-bucket_bytes T, length-replicate (2 * c) empty) in
      let none : cat bucket_bytes T ≡ zeros =
      zeros_buckets (2 * c) ∙ ap (λ (k : ℕ). replicate k 0) (n ∙ sym length_zeros ∙ length-replicate (o + 16 * c - o) 0) in
      record {
        few = omega arith;
        long = refl;
        is = e ∙ ap (sets base o) (sym none) ∙ sym (over (cat bucket_bytes T) n);
        small = tt;
      }

  pub fill_end : {pairs : List ℕ} {i : ℕ} {buf : List ℕ} → Filled buf₀ pairs o c i buf → c ≤ i → buf ≡ table_stored base o c (pairs_in pairs c)
  fill_end {pairs} {i} f l =
      let k : i ≡ c = omega (arith, f.few) in
      let T = filled (2 * c) (pairs_in pairs c) in
      let n : length (cat bucket_bytes T) ≡ 16 * c =
      omega (arith, length_cat bucket_bytes 8 length-bucket_bytes T, length_filled (2 * c) (pairs_in pairs c)) in
      f.is ∙ ap (λ (j : ℕ). table_stored buf₀ o c (pairs_in pairs j)) k ∙ over (cat bucket_bytes T) n

  pub filling_start : (end : ℕ) (pairs : List ℕ) → Filling buf₀ pairs end o c 0 buf₀ false
  unfolding pairs_in
  filling_start end pairs = record { table = fill_start pairs; apart = λ z full. tt }

  pub filling_end : {end : ℕ} → end ≤ o → {pairs : List ℕ} {i : ℕ} {buf : List ℕ} {met : Bool} → Filling buf₀ pairs end o c i buf met → c ≤ i
      → (stop : Bool) → PairsInserted stop base end o c pairs buf met
  unfolding zeros
  filling_end {end} behind {pairs} {i} f l stop =
      let k : i ≡ c = omega (arith, f.table.few) in
      record {
        leaves = λ _. fill_end f.table l;
        apart = λ z. subst (λ (g : List ℕ). Apart g (pairs_in pairs c)) (ap (take end) e ∙ take_sets zeros base end o behind)
            (subst (λ (j : ℕ). Apart (take end buf₀) (pairs_in pairs j)) k (f.apart z));
      }

module _ {buf₀ pairs : List ℕ} {o c i : ℕ} {buf : List ℕ} (f : Filled buf₀ pairs o c i buf) (inside : o + 16 * c ≤ length buf₀) (l : i < c)
    (h at : ℕ) (eh : h ≡ get_or pairs (2 * i) 0) (ea : at ≡ get_or pairs (2 * i + 1) 0) where
  abbrev n : ℕ
  n = 2 * c

  abbrev P : List Bucket
  P = pairs_in pairs i

  abbrev T : List Bucket
  T = filled n P

  more : P ++ (pair_of h at ∷ []) ≡ pairs_in pairs (i + 1)
  more =
      let s : suc i ≡ i + 1 = omega arith in
      ap₂ (λ (v : ℕ) (w : ℕ). P ++ (pair_of v w ∷ [])) eh ea ∙ sym (pairs_suc pairs i) ∙ ap (pairs_in pairs) s

  words : (k : ℕ) → Words (get_or T k empty)
  words = filled_all Words n P (omega arith, omega arith) f.small

  module _ {end : ℕ} {buf' : List ℕ} {met : Bool} (done : PairInserted buf end o (2 * c) h at buf' met) where
    pub fill_step : length buf' ≡ length buf → Filled buf₀ pairs o c (i + 1) buf'
    fill_step sized =
        let b = pair_of h at in
        record {
          few = omega arith;
          long = sized ∙ f.long;
          is =
              area_step buf₀ buf T o n (length_filled n P) (omega arith) (omega arith) words f.is h at buf' done.stored
              ∙ ap (λ (r : List Bucket). sets buf₀ o (cat bucket_bytes r)) (sym (filled_more n P b) ∙ ap (filled n) more);
          small = rw (← more) (all_append Words P (b ∷ []) f.small ((done.hash_word, done.offset_word), tt));
        }

    -- a pair whose search met no entry of equal name
    pub apart_step : end ≤ o → met ≡ false → Apart (take end buf₀) P → Apart (take end buf₀) (pairs_in pairs (i + 1))
    apart_step behind z apart full =
        let b = pair_of h at in
        let front : take end buf ≡ take end buf₀ = ap (take end) f.is ∙ take_sets (cat bucket_bytes T) buf₀ end o behind in
        let fulls : All (λ (q : Bucket). q.at ≡ 0 → ⊥) P = all_before (λ (q : Bucket). q.at ≡ 0 → ⊥) P (b ∷ []) (rw (← more) at full) in
        let table : TableIs n (bucket_at buf o) P =
        record { each = buckets_are buf₀ buf T o n (length_filled n P) (omega arith) (omega arith) words f.is } in
        let other : All (λ (x : Bucket). x.hash ≡ h → same_names (take end buf) at x.at ≡ false) P =
        none_equal table (omega arith) h (same_names (take end buf) at) (omega (arith, length_pairs pairs i)) fulls (done.unmet z) in
        subst (λ (bs : List Bucket). Pairwise (OtherNames (take end buf₀)) bs) more
        (pairwise_more (OtherNames (take end buf₀)) P b (apart fulls)
        (subst (λ (g : List ℕ). All (λ (x : Bucket). x.hash ≡ h → same_names g at x.at ≡ false) P) front other))

pub filling_step : {buf₀ pairs : List ℕ} {end o c i : ℕ} {buf buf' : List ℕ} {met one : Bool} → Filling buf₀ pairs end o c i buf met → end ≤ o
    → o + 16 * c ≤ length buf₀ → i < c → (h at : ℕ) → h ≡ get_or pairs (2 * i) 0 → at ≡ get_or pairs (2 * i + 1) 0 → length buf' ≡ length buf
    → PairInserted buf end o (2 * c) h at buf' one → Filling buf₀ pairs end o c (i + 1) buf' (met || one)
filling_step {met = met} {one = one} f behind inside l h at eh ea sized done =
    record {
      table = fill_step f.table inside l h at eh ea done sized;
      apart = λ z. apart_step f.table inside l h at eh ea done behind (or_false_second met one z) (f.apart (or_false_first met one z));
    }

-- ---- the table, as the code goes

module _ {stop : Bool} (buf : List ℕ) (end o c : ℕ) where
  -- without entries
  pub table_none : c ≡ 0 → TableDone stop buf end o c buf false
  unfolding table_filled pairs_stored filled insert_all cat
  table_none z =
      rw z (record { leaves = λ _. cond_holds (λ (l : List ℕ). buf ≡ l) (leb (o + 16 * 0) (length buf)) refl refl; apart = λ e full. tt })

  -- not in the buffer
  pub table_left : length buf < o + 16 * c → TableDone stop buf end o c buf true
  unfolding table_filled
  table_left h = record { leaves = λ _. rw (lt-leb (o + 16 * c) (length buf) h); apart = not_met }

  pub table_filled_lem : o + 16 * c ≤ length buf → {pairs buf' : List ℕ} {met : Bool} → PairsCopied pairs buf o c
      → PairsInserted stop buf end o c pairs buf' met → TableDone stop buf end o c buf' met
  unfolding table_filled
  table_filled_lem h copied done =
      let l = pairs_copied copied c (omega arith) in
      record {
        leaves = λ on.
            done.leaves on ∙ ap (table_stored buf o c) l
            ∙ sym (ap (λ (t : Bool). cond t (table_stored buf o c (pairs_stored buf o c)) buf) (le-leb (o + 16 * c) (length buf) h));
        apart = λ z. subst (Apart (take end buf)) l (done.apart z);
      }

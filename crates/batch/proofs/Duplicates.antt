-- Duplicates: hashes, the slots that hold names, and the equal names found. Assumes nothing.
use Prim.Native.Nat.{ℕ, suc, ◌+◌, ◌-◌, ◌≤◌, ◌<◌}
use native.Mathlib.Omega.{arith}
use native.Mathlib.Numerals.{add-one}
use native.Mathlib.Decide.{ℕ_discrete}
use mathlib.Core.Path.{◌≡◌, refl, sym, ap, subst, ◌∙◌}
use mathlib.Core.Bool.{Bool, true, false}
use mathlib.Core.List.{List, [], ◌∷◌, ◌++◌, map, map-append, append-nil}
use lib.ListN.{length, get_or, set, take, length-set, length-map, length-append, length-take}
use lib.Seq.{get_or-set_same, get_or-set_other, take-suc, take-set-le, take-length}
use Rattle.image.specs.Bytes.{same}
use Rattle.image.specs.Tables.{Bucket, empty, start, probe_sequence, first_empty, insert_all, filled}
use Rattle.image.proofs.AllOfList.{All, all_map, all_image, all_append, all_middle}
use Rattle.image.proofs.Bools.{false_not_true}
use Rattle.image.proofs.Buckets.{get_or_empties, filled_all}
use Rattle.image.proofs.Equal.{same_true, same_self}
use Rattle.image.proofs.Sizes.{length_filled}
use Rattle.lookup_laws.specs.Steps.HasMatch.{has_match}
use Rattle.lookup_laws.proofs.TableContents.{NotEmpty}
use Rattle.batch.specs.RoundNames.{different_from, different, nth}
use Rattle.batch.specs.Steps.Slots.{bucket_of_number, round_slot, SlotsHold}
use Rattle.batch.specs.Steps.HashedNames.{hash_or_zero, Hashes}
use Rattle.batch.specs.Steps.Duplicates.{IfZero, Listed, EqualBefore, FoundOrInserted, Deduplicated}
use Rattle.batch.proofs.IndexLists.{listed_old, listed_new, each_step, rising_step, taken_all, taken_rising, taken_listed}
use Rattle.batch.proofs.Different.{seen_before, not_seen_before, different_next}
use Rattle.lookup_laws.proofs.SlotSearch.{none_empty, none_equal, filled_next}

-- ---- hashes

-- the first i hashes are stored
abbrev pub HashesTo : List (List ℕ) → ℕ → List ℕ → Type 0
HashesTo xs i hashes = (j : ℕ) → j < i → get_or hashes j 0 ≡ hash_or_zero (nth xs j)

pub hashes_step : (xs : List (List ℕ)) (hashes : List ℕ) (i v : ℕ) → i < length hashes → HashesTo xs i hashes → v ≡ hash_or_zero (nth xs i)
    → HashesTo xs (i + 1) (set hashes i v)
hashes_step xs hashes i v h k e j l =
    elim (ℕ_discrete j i) [
      | yes p ↦ ap (λ (m : ℕ). get_or (set hashes i v) m 0) p ∙ get_or-set_same hashes i v 0 h ∙ e ∙ ap (λ (m : ℕ). hash_or_zero (nth xs m)) (sym p)
      | no p ↦ get_or-set_other hashes i j v 0 p ∙ k j (omega arith)
    ]

-- another hash, another name
pub other_hash : (xs : List (List ℕ)) (hashes : List ℕ) → Hashes xs hashes → (j i : ℕ) → j < length xs → i < length xs
    → (get_or hashes j 0 ≡ get_or hashes i 0 → ⊥) → nth xs j ≡ nth xs i → ⊥
other_hash xs hashes ks j i p q other e = other (ks j p ∙ ap hash_or_zero e ∙ sym (ks i q))

-- ---- slots

none_filled : (n k : ℕ) → get_or (filled n []) k empty ≡ empty
unfolding filled insert_all
none_filled n k = get_or_empties n k

pub slots_empty : (xs : List (List ℕ)) (hashes slots : List ℕ) → length slots ≡ 4096 → ((k : ℕ) → k < 4096 → get_or slots k 0 ≡ 0)
    → SlotsHold xs hashes slots 0
slots_empty xs hashes slots size clear =
    record {
      held = [];
      size = size;
      filled_with = record { each = λ k l. ap (bucket_of_number hashes) (clear k l) ∙ sym (none_filled 4096 k) };
      few = omega arith;
      below = tt;
      covers = λ y none j l. absurd (omega arith);
    }

all_before : {A : Type 0} (P : A → Type 0) (xs ys : List A) → All P (xs ++ ys) → All P xs
all_before P [] ys all = tt
all_before P (x ∷ xs) ys all = (all.0, all_before P xs ys all.1)

-- the hash of a name, from its number
pub hash_of_number : (hashes : List ℕ) (u : ℕ) → get_or (0 ∷ hashes) (u + 1) 0 ≡ get_or hashes u 0
hash_of_number hashes u = ap (λ (q : ℕ). get_or (0 ∷ hashes) q 0) (add-one u)

-- the i-th name: does the name with a number equal it?
abbrev pub equal_to : List (List ℕ) → ℕ → ℕ → Bool
equal_to xs i q = same (nth xs (q - 1)) (nth xs i)

module _ {xs : List (List ℕ)} {hashes slots : List ℕ} {i : ℕ} (ks : Hashes xs hashes) (inside : i < length xs) (few : length xs ≤ 512)
    (s : SlotsHold xs hashes slots i) where
  abbrev h : ℕ
  h = get_or hashes i 0

  abbrev v : ℕ → Bool
  v = equal_to xs i

  abbrev bucket : ℕ → Bucket
  bucket u = bucket_of_number hashes (u + 1)

  abbrev bs : List Bucket
  bs = map bucket s.held

  occupied : All NotEmpty bs
  occupied = all_image NotEmpty bucket (λ u l z. omega arith) s.held s.below

  fit : length bs ≤ i
  fit = omega (arith, length-map s.held bucket, s.few)

  -- a slot has the number of a name before the i-th
  pub slot_below : (k : ℕ) → k < 4096 → get_or slots k 0 ≤ i
  slot_below k l =
      subst (λ (b : Bucket). b.at ≤ i) (sym (s.filled_with.each k l))
      (filled_all (λ (b : Bucket). b.at ≤ i) 4096 bs (omega arith) (all_image (λ (b : Bucket). b.at ≤ i) bucket (λ u l. omega arith) s.held s.below) k)

  pub some_empty : All (λ (k : ℕ). NotEmpty (round_slot hashes slots k)) (probe_sequence 4096 4096 (start h 4096)) → ⊥
  some_empty all = omega (arith, fit, none_empty s.filled_with (omega (arith, fit)) occupied h all)

  pub found_equal : (q : ℕ) → 0 < q → q ≤ i → equal_to xs i q ≡ true → FoundOrInserted xs hashes slots i q
  found_equal q some low is =
      let e = same_true (nth xs (q - 1)) (nth xs i) is in
      record {
        equal = record { below = low; there = λ p. e; none = λ z. absurd (omega arith) };
        holds =
            record {
              held = s.held;
              size = s.size;
              filled_with = s.filled_with;
              few = omega (arith, s.few);
              below = all_map (λ u l. omega arith) s.held s.below;
              covers = λ y none j l z. elim (ℕ_discrete j i) [
                | yes p ↦ s.covers y none (q - 1) (omega arith) (e ∙ ap (nth xs) (sym p) ∙ z)
                | no p ↦ s.covers y none j (omega arith) z
              ];
            };
      }

  -- what the search says of the buckets, said of the names
  differ : (us : List ℕ) → All (λ (u : ℕ). u < i) us → All (λ (b : Bucket). b.hash ≡ h → v b.at ≡ false) (map bucket us)
      → All (λ (u : ℕ). nth xs u ≡ nth xs i → ⊥) us
  differ [] low others = tt
  differ (u ∷ us) low others = (
    λ e.
        let back : u + 1 - 1 ≡ u = omega arith in
        let is : v (u + 1) ≡ true = ap (λ (n : ℕ). same (nth xs n) (nth xs i)) back ∙ ap (λ (x : List ℕ). same x (nth xs i)) e ∙ same_self (nth xs i) in
        false_not_true (sym (others.0 (hash_of_number hashes u ∙ ks u (omega (arith, low.0)) ∙ ap hash_or_zero e ∙ sym (ks i inside))) ∙ is),
    differ us low.1 others.1,
  )

  module _ (k : ℕ) (here : k < 4096) (first : k ≡ first_empty (λ (j : ℕ). (round_slot hashes slots j).at) (probe_sequence 4096 4096 (start h 4096))) where
    stored : (j : ℕ) → j < 4096 → round_slot hashes (set slots k (i + 1)) j ≡ get_or (filled 4096 (map bucket (s.held ++ (i ∷ [])))) j empty
    stored j l =
        let more : filled 4096 (map bucket (s.held ++ (i ∷ []))) ≡ set (filled 4096 bs) k (bucket i) =
        ap (filled 4096) (map-append bucket s.held (i ∷ []))
        ∙ filled_next s.filled_with (omega arith) h (bucket i) (hash_of_number hashes i) k first in
        elim (ℕ_discrete j k) [
          | yes e ↦
              ap (round_slot hashes (set slots k (i + 1))) e
              ∙ ap (bucket_of_number hashes) (get_or-set_same slots k (i + 1) 0 (omega (arith, s.size)))
              ∙ sym (get_or-set_same (filled 4096 bs) k (bucket i) empty (omega (arith, length_filled 4096 bs)))
              ∙ ap (λ (n : ℕ). get_or (set (filled 4096 bs) k (bucket i)) n empty) (sym e)
          | no e ↦
              ap (bucket_of_number hashes) (get_or-set_other slots k j (i + 1) 0 e)
              ∙ s.filled_with.each j l
              ∙ sym (get_or-set_other (filled 4096 bs) k j (bucket i) empty e)
        ]
        ∙ ap (λ (t : List Bucket). get_or t j empty) (sym more)

    pub inserted_here : has_match (round_slot hashes slots) h (equal_to xs i) (probe_sequence 4096 4096 (start h 4096)) ≡ false
        → FoundOrInserted xs hashes (set slots k (i + 1)) i 0
    inserted_here none =
        let others = differ s.held s.below (none_equal s.filled_with (omega arith) h v (omega (arith, fit)) occupied none) in
        record {
          equal = record { below = omega arith; there = λ p. absurd (omega arith); none = λ z j l e. s.covers (nth xs i) others j l e };
          holds =
              record {
                held = s.held ++ (i ∷ []);
                size = length-set slots k (i + 1) ∙ s.size;
                filled_with = record { each = stored };
                few = omega (arith, length-append s.held (i ∷ []), s.few);
                below = all_append (λ (u : ℕ). u < i + 1) s.held (i ∷ []) (all_map (λ u l. omega arith) s.held s.below) (omega arith, tt);
                covers = λ y all j l z. elim (ℕ_discrete j i) [
                  | yes p ↦ all_middle (λ (u : ℕ). nth xs u ≡ y → ⊥) s.held [] i all (ap (nth xs) (sym p) ∙ z)
                  | no p ↦ s.covers y (all_before (λ (u : ℕ). nth xs u ≡ y → ⊥) s.held (i ∷ []) all) j (omega arith) z
                ];
              };
        }

-- ---- the equal names found

pub deduplicated_none : (xs : List (List ℕ)) (equals list : List ℕ) → Deduplicated xs equals list 0 0
unfolding different different_from
deduplicated_none xs equals list =
    record {
      equal = λ j h. absurd (omega arith);
      count = omega arith;
      capacity = omega arith;
      below = λ x h. absurd (omega arith);
      only_unique = λ x h. absurd (omega arith);
      rising = λ x y h k. absurd (omega arith);
      listed = λ j h. absurd (omega arith);
      listed_names = refl;
      all_unique = λ h j k. absurd (omega arith);
    }

-- one name more, whose equal one before it has the number q

module _ {xs : List (List ℕ)} {equals list : List ℕ} {i m q r : ℕ} (inside : i < length xs) (room : i < length equals) (room' : m < length list)
    (new : EqualBefore xs i q) (one : IfZero q 1 r) (old : Deduplicated xs equals list i m) where
  -- what holds of the names before it, and of it
  each : (P : ℕ → ℕ → Type 0) → ((j : ℕ) → j < i → P j (get_or equals j 0)) → P i q → (j : ℕ) → j < i + 1 → P j (get_or (set equals i q) j 0)
  each P before this j h =
      elim (ℕ_discrete j i) [
        | yes e ↦ subst (λ (k : ℕ). P k (get_or (set equals i q) k 0)) (sym e) (subst (P i) (sym (get_or-set_same equals i q 0 room)) this)
        | no e ↦ subst (P j) (sym (get_or-set_other equals i j q 0 e)) (before j (omega arith))
      ]

  small : r ≤ 1
  small = elim (ℕ_discrete q 0) [ yes z ↦ omega (arith, one.own z) | no z ↦ omega (arith, one.none (omega arith)) ]

  zero : 0 < r → q ≡ 0
  zero h = elim (ℕ_discrete q 0) [ yes z ↦ z | no z ↦ absurd (omega (arith, one.none (omega arith))) ]

  -- the names listed before it, and then with it where it is new
  front : map (nth xs) (take m (set list m i)) ≡ different (take i xs)
  front = ap (map (nth xs)) (take-set-le m list m i (omega arith)) ∙ old.listed_names

  names_step : map (nth xs) (take (m + r) (set list m i)) ≡ different (take (i + 1) xs)
  names_step =
      elim (ℕ_discrete q 0) [
        | yes z ↦
            (let e : m + r ≡ suc m = omega (arith, one.own z) in
            ap (λ (k : ℕ). map (nth xs) (take k (set list m i))) e
            ∙ ap (map (nth xs)) (take-suc (set list m i) m 0 (omega (arith, length-set list m i)))
            ∙ map-append (nth xs) (take m (set list m i)) (get_or (set list m i) m 0 ∷ [])
            ∙ ap (λ (v : ℕ). map (nth xs) (take m (set list m i)) ++ nth xs v ∷ []) (get_or-set_same list m i 0 room')
            ∙ ap (λ (l : List (List ℕ)). l ++ nth xs i ∷ []) front
            ∙ sym (different_next xs i false inside (not_seen_before new z)))
        | no z ↦
            (let e : m + r ≡ m = omega (arith, one.none (omega arith)) in
            ap (λ (k : ℕ). map (nth xs) (take k (set list m i))) e
            ∙ front
            ∙ sym (append-nil (different (take i xs)))
            ∙ sym (different_next xs i true inside (seen_before new inside (omega arith))))
      ]

  pub deduplicated_step : Deduplicated xs (set equals i q) (set list m i) (i + 1) (m + r)
  deduplicated_step =
      record {
        equal = each (EqualBefore xs) old.equal new;
        count = omega (arith, small, old.count);
        capacity = omega (arith, small, length-set list m i);
        below = each_step (λ (v : ℕ). v < i + 1) list m (m + r) i room' (omega (arith, small)) (λ z h. omega (arith, old.below z h)) (λ h. omega arith);
        only_unique = each_step (λ (v : ℕ). get_or (set equals i q) v 0 ≡ 0) list m (m + r) i room' (omega (arith, small))
            (λ z h. get_or-set_other equals i (get_or list z 0) q 0 (λ e. omega (arith, old.below z h)) ∙ old.only_unique z h)
            (λ h. get_or-set_same equals i q 0 room ∙ zero (omega arith));
        rising = rising_step list m (m + r) i room' (omega (arith, small)) old.below old.rising;
        listed = each (λ (j v : ℕ). v ≡ 0 → Listed (set list m i) (m + r) j)
            (λ j h u. listed_old list m (m + r) i j (omega arith) (old.listed j h u))
            (λ u. listed_new list m (m + r) i room' (omega (arith, one.own u)));
        listed_names = names_step;
        all_unique = λ h. each (λ (j v : ℕ). v ≡ 0) (old.all_unique (omega (arith, small))) (zero (omega (arith, old.count)));
      }

-- the list of the unique names as far as it is filled
pub deduplicated_taken : {xs : List (List ℕ)} {equals list : List ℕ} {n r : ℕ} → Deduplicated xs equals list n r
    → Deduplicated xs equals (take r list) n (length (take r list))
deduplicated_taken {xs} {equals} {list} {n} {r} old =
    record {
      equal = old.equal;
      count = omega (arith, old.count, length-take r list);
      capacity = omega arith;
      below = taken_all (λ (v : ℕ). v < n) list r old.below;
      only_unique = taken_all (λ (v : ℕ). get_or equals v 0 ≡ 0) list r old.only_unique;
      rising = taken_rising list r old.rising;
      listed = λ i h u. taken_listed list r i old.capacity (old.listed i h u);
      listed_names = ap (map (nth xs)) (take-length (take r list)) ∙ old.listed_names;
      all_unique = λ h. old.all_unique (omega (arith, length-take r list));
    }

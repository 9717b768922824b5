-- What is proved of a round, as specs/Theorems/Theorem states it. Assumes nothing.
use Prim.Native.Nat.{ℕ, zero, suc, ◌+◌, ◌*◌, ◌-◌, ◌/◌, ◌≤◌, ◌<◌}
use native.Mathlib.Omega.{arith}
use mathlib.Core.Path.{◌≡◌, refl, sym, ap, ◌∙◌}
use mathlib.Core.Bool.{Bool, false, cond, ◌||◌}
use mathlib.Core.List.{List, [], ◌∷◌, ◌++◌, append_assoc}
use borrow.Author.Tests.{le-ltb}
use lib.Dec.{ltb}
use lib.ListN.{length, get_or, take, drop, length-append}
use lib.Seq.{take_at, drop_at, drop-drop}
use Rattle.jhash.specs.Outcome.{value, refusal}
use Rattle.jhash.proofs.ValueOrRefusal.{no_value, same_value}
use Rattle.image.proofs.Bools.{chose_second}
use Rattle.image.specs.Bytes.{cat}
use Rattle.image.specs.Stored.{between}
use Rattle.image.proofs.Lists.{length_cat}
use Rattle.reader.specs.Lookup.{lookup}
use Rattle.reader.specs.Naming.{naming}
use Rattle.batch.specs.RoundNames.{names_from, names, invalid_ends, packed_bytes, ends_from, nth}
use Rattle.batch.specs.Round.{answer_words, round_words, round_buckets, round_outcome, after_round}
use Rattle.batch.specs.NameRound.{place_words, name_words, name_refusal, after_names}
use Rattle.batch.specs.Theorems.Theorem.{place_at, RoundAccepted, RoundHolds}
use Rattle.image.proofs.NameEnds.{length_names}
use Rattle.batch.proofs.AnswerPlaces.{length_words}
use Rattle.batch.proofs.RoundAnswers.{left}
use Rattle.batch.proofs.PlaceWords.{length_place, names_left}
use Rattle.batch.proofs.Different.{once_each, not_above, all_different}

-- ---- names packed, and read back

first_name_lem : (pre x rest : List ℕ) (s : ℕ) → length pre ≡ s → between (pre ++ (x ++ rest)) s (s + length x) ≡ x
first_name_lem pre x rest s e =
    let d : s + length x - s ≡ length x = omega arith in
    ap (λ (l : List ℕ). take (s + length x - s) l) (drop_at pre (x ++ rest) s e)
    ∙ take_at x rest (s + length x - s) (sym d)

back_from : (xs : List (List ℕ)) (pre : List ℕ) (s : ℕ) → length pre ≡ s → names_from (pre ++ packed_bytes xs) s (ends_from s xs) ≡ xs
unfolding names_from packed_bytes ends_from
back_from [] pre s e = refl
back_from (x ∷ xs) pre s e =
    ap (λ (y : List ℕ). y ∷ names_from (pre ++ (x ++ packed_bytes xs)) (s + length x) (ends_from (s + length x) xs))
    (first_name_lem pre x (packed_bytes xs) s e)
    ∙ ap (λ (l : List ℕ). x ∷ names_from l (s + length x) (ends_from (s + length x) xs)) (sym (append_assoc pre x (packed_bytes xs)))
    ∙ ap (λ (l : List (List ℕ)). x ∷ l) (back_from xs (pre ++ x) (s + length x) (length-append pre x ∙ ap (λ (k : ℕ). k + length x) e))

valid_from : (xs : List (List ℕ)) (size s : ℕ) → s + length (packed_bytes xs) ≤ size → invalid_ends size s (ends_from s xs) ≡ false
unfolding invalid_ends packed_bytes ends_from
valid_from [] size s h = refl
valid_from (x ∷ xs) size s h =
    let k = length-append x (packed_bytes xs) in
    ap (λ (t : Bool). (t || ltb size (s + length x)) || invalid_ends size (s + length x) (ends_from (s + length x) xs))
    (le-ltb (s + length x) s (omega arith))
    ∙ ap (λ (t : Bool). t || invalid_ends size (s + length x) (ends_from (s + length x) xs)) (le-ltb size (s + length x) (omega arith))
    ∙ valid_from xs size (s + length x) (omega arith)

-- ---- a round that is accepted

given_count : (t b : Bool) (v n : ℕ) → cond t (refusal 14) (cond b (refusal 15) (value v)) ≡ value n → n ≡ v
given_count t b v n e =
    let valid = chose_second t (refusal 14) (cond b (refusal 15) (value v)) (value n) (no_value 14 n) e in
    let room = chose_second b (refusal 15) (value v) (value n) (no_value 15 n) valid.1 in
    sym (same_value v n room.1)

module _ (image bytes ends answers : List ℕ) (a : RoundAccepted image bytes ends answers) where
  count_is : a.count ≡ round_buckets image (names bytes ends)
  unfolding round_outcome
  count_is =
      given_count (ltb 512 (length ends) || invalid_ends (length bytes) 0 ends) (ltb (length answers / 4) (length ends))
      (round_buckets image (names bytes ends)) a.count a.given

  after_is : after_round image bytes ends answers ≡ round_words image (names bytes ends) ++ drop (4 * length (names bytes ends)) answers
  after_is = sym (left image bytes ends answers (value a.count) (sym a.given))

-- the i-th of parts of four words
part_at : {A : Type 0} (d : A) (f : A → List ℕ) → ((x : A) → length (f x) ≡ 4) → (xs : List A) (rest : List ℕ) (i : ℕ) → i < length xs
    → place_at (cat f xs ++ rest) i ≡ f (get_or xs i d)
unfolding cat
part_at d f four [] rest i h = absurd (omega arith)
part_at d f four (x ∷ xs) rest zero h =
    let z : 4 * 0 ≡ 0 = omega arith in
    ap (λ (k : ℕ). take 4 (drop k ((f x ++ cat f xs) ++ rest))) z
    ∙ ap (take 4) (append_assoc (f x) (cat f xs) rest)
    ∙ take_at (f x) (cat f xs ++ rest) 4 (four x)
part_at d f four (x ∷ xs) rest (suc i) h =
    let e : 4 * suc i ≡ 4 + 4 * i = omega arith in
    let k : i < length xs = omega arith in
    ap (λ (j : ℕ). take 4 (drop j ((f x ++ cat f xs) ++ rest))) e
    ∙ ap (λ (l : List ℕ). take 4 (drop (4 + 4 * i) l)) (append_assoc (f x) (cat f xs) rest)
    ∙ ap (take 4) (sym (drop-drop (4 * i) 4 (f x ++ (cat f xs ++ rest))))
    ∙ ap (λ (l : List ℕ). take 4 (drop (4 * i) l)) (drop_at (f x) (cat f xs ++ rest) 4 (four x))
    ∙ part_at d f four xs rest i k

abbrev words_of : List ℕ → List ℕ → List ℕ
words_of image x = answer_words (lookup image x)

single : (image bytes ends answers : List ℕ) → RoundAccepted image bytes ends answers → (i : ℕ) → i < length ends
    → place_at (after_round image bytes ends answers) i ≡ answer_words (lookup image (nth (names bytes ends) i))
unfolding round_words
single image bytes ends answers a i h =
    ap (λ (l : List ℕ). place_at l i) (after_is image bytes ends answers a)
    ∙ part_at [] (words_of image) (λ x. length_words (lookup image x)) (names bytes ends) (drop (4 * length (names bytes ends)) answers) i
    (omega (arith, length_names bytes ends))

past_kept : (image bytes ends answers : List ℕ) → RoundAccepted image bytes ends answers
    → drop (4 * length ends) (after_round image bytes ends answers) ≡ drop (4 * length ends) answers
unfolding round_words
past_kept image bytes ends answers a =
    let e = length_names bytes ends in
    ap (drop (4 * length ends)) (after_is image bytes ends answers a)
    ∙ drop_at (round_words image (names bytes ends)) (drop (4 * length (names bytes ends)) answers) (4 * length ends)
    (length_cat (words_of image) 4 (λ x. length_words (lookup image x)) (names bytes ends) ∙ ap (λ (k : ℕ). 4 * k) e)
    ∙ ap (λ (k : ℕ). drop (4 * k) answers) e

-- ---- ids in and names out

abbrev place_of : List ℕ → ℕ → List ℕ
place_of image id = place_words (naming image id)

module _ (image ids answers : List ℕ) (taken : name_refusal ids (length answers / 4) ≡ 0) where
  names_after : after_names image ids answers ≡ cat (place_of image) ids ++ drop (4 * length ids) answers
  unfolding after_names name_words
  names_after = ap (λ (t : Bool). cond t answers (cat (place_of image) ids ++ drop (4 * length ids) answers)) (ap (ltb 0) taken ∙ le-ltb 0 0 (omega arith))

  named : (i : ℕ) → i < length ids → place_at (after_names image ids answers) i ≡ place_words (naming image (get_or ids i 0))
  named i h =
      ap (λ (l : List ℕ). place_at l i) names_after
      ∙ part_at 0 (place_of image) (λ id. length_place (naming image id)) ids (drop (4 * length ids) answers) i h

  names_past_kept : drop (4 * length ids) (after_names image ids answers) ≡ drop (4 * length ids) answers
  names_past_kept =
      ap (drop (4 * length ids)) names_after
      ∙ drop_at (cat (place_of image) ids) (drop (4 * length ids) answers) (4 * length ids)
      (length_cat (place_of image) 4 (λ id. length_place (naming image id)) ids)

pub round_holds : RoundHolds
unfolding names
round_holds =
    record {
      reads_back = λ xs. back_from xs [] 0 refl;
      ends_valid = λ xs. valid_from xs (length (packed_bytes xs)) 0 (omega arith);
      single = single;
      order_free = λ image bytes ends answers bytes' ends' answers' a a' i j h k e.
          single image bytes ends answers a i h ∙ ap (words_of image) e ∙ sym (single image bytes' ends' answers' a' j k);
      counted = count_is;
      once_each = once_each;
      not_above = not_above;
      all_different = all_different;
      past_kept = past_kept;
      refused_kept = λ image bytes ends answers k e. sym (left image bytes ends answers (refusal k) (sym e));
      named = named;
      names_past_kept = names_past_kept;
      names_refused_kept = λ image ids answers h. sym (names_left image ids answers (name_refusal ids (length answers / 4)) refl h);
    }

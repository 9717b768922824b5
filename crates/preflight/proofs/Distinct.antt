-- The different ids of a round, and the ids of a sheet that are not in it. Assumes nothing.
use Prim.Native.Nat.{ℕ, suc, ◌+◌, ◌-◌, ◌/◌, ◌≤◌, ◌<◌}
use native.Mathlib.Omega.{arith}
use native.Mathlib.Numerals.{add-one}
use mathlib.Core.Path.{◌≡◌, refl, sym, ap, ◌∙◌}
use mathlib.Core.Logic.{inl, inr}
use mathlib.Core.Bool.{Bool, true, false, cond, not}
use mathlib.Core.List.{List, [], ◌∷◌, ◌++◌}
use lib.Dec.{eqb}
use lib.ListN.{length, get_or, take, drop, drop_of_length-le, length-drop}
use lib.Seq.{drop-cons, take_all}
use borrow.Author.Tests.{eq-eqb, ne_eqb, eqb-true, eqb-false}
use Rattle.image.proofs.Bools.{false_not_true}
use Rattle.jhash.specs.Outcome.{Outcome, value, refusal}
use Rattle.reader.specs.Slices.{Slice}
use Rattle.sheet.specs.Format.{Lists}
use Rattle.sheet.specs.SheetReading as sheet
use Rattle.sheet.specs.SheetReading.{ids_in, read_lists}
use Rattle.sheet.specs.declared.Sheet.{Sheet}
use Rattle.sheet.specs.declared.Which.TheVariants.{References, Walls}
use Rattle.sheet.proofs.CountsAndIds.{length_ids}
use Rattle.preflight.specs.Ids.{is_id, occurs, passing, count}
use Rattle.preflight.specs.Counts.{absent, unsighted_in}
use Rattle.preflight.specs.OnSheet.{of_sheet}
use Rattle.preflight.specs.Steps.Distinct.{distinct}
use Rattle.preflight.specs.Theorems.Asked.{In}
use Rattle.preflight.specs.Answers.Verdict.{Yes}
use Rattle.preflight.proofs.Members.{passing_append, none_counted}
use Rattle.preflight.proofs.Tallies.{OneOf, one_so, one_not, others}
use Rattle.preflight.proofs.Alone.{sheet_forth}

-- ---- the loop: the first i places are counted
pub record DistinctInv (round : List ℕ) (seen i : ℕ) : Type 0 where
  pub is : seen + distinct (drop i round) ≡ distinct round
  pub most : seen ≤ i

one_more : (t : Bool) (k : ℕ) → cond (not t) 1 0 + k ≡ cond t k (suc k)
one_more true k = omega arith
one_more false k = omega arith

module _ (round : List ℕ) where
  pub distinct_starts : DistinctInv round 0 0
  distinct_starts = record { is = omega arith; most = omega arith }

  pub distinct_on : (seen i r : ℕ) → DistinctInv round seen i → i < length round
      → OneOf (absent (take (length round - (i + 1)) (drop (i + 1) round)) (get_or round i 0)) r
      → DistinctInv round (seen + r) (i + 1)
  unfolding distinct
  distinct_on seen i r v h o =
      let t = counted in
      record { is = omega (arith, v.is, t); most = omega (arith, v.most, o.most) }
    where
      rest : take (length round - (i + 1)) (drop (i + 1) round) ≡ drop (i + 1) round
      rest = take_all (length round - (i + 1)) (drop (i + 1) round) (simp length-drop (omega arith))

      counted : r + distinct (drop (i + 1) round) ≡ distinct (drop i round)
      counted =
          ap (λ (k : ℕ). k + distinct (drop (i + 1) round)) (o.is ∙ ap (λ (l : List ℕ). cond (absent l (get_or round i 0)) 1 0) rest)
          ∙ ap (λ (k : ℕ). cond (absent (drop k round) (get_or round i 0)) 1 0 + distinct (drop k round)) (add-one i)
          ∙ one_more (occurs (get_or round i 0) (drop (suc i) round)) (distinct (drop (suc i) round))
          ∙ sym (ap distinct (drop-cons round i 0 h))

  -- by whether the id follows once more
  pub distinct_yes : (seen after i : ℕ) → DistinctInv round seen i → i < length round
      → occurs (get_or round i 0) (take (length round - (i + 1)) (drop (i + 1) round)) ≡ false → after ≡ seen + 1 → DistinctInv round after (i + 1)
  distinct_yes seen after i v h t e =
      let n = distinct_on seen i 1 v h (one_so _ (ap not t)) in
      record { is = omega (arith, n.is, e); most = omega (arith, n.most, e) }

  pub distinct_no : (seen after i : ℕ) → DistinctInv round seen i → i < length round
      → occurs (get_or round i 0) (take (length round - (i + 1)) (drop (i + 1) round)) ≡ true → after ≡ seen → DistinctInv round after (i + 1)
  distinct_no seen after i v h t e =
      let n = distinct_on seen i 0 v h (one_not _ (ap not t)) in
      record { is = omega (arith, n.is, e); most = omega (arith, n.most, e) }

  pub distinct_ends : (seen i : ℕ) → DistinctInv round seen i → length round ≤ i → seen ≡ distinct round
  unfolding distinct
  distinct_ends seen i v h =
      let e : distinct (drop i round) ≡ 0 = simp (drop_of_length-le round h) in
      omega (arith, v.is, e)

-- ---- tests that agree, and tests of which one holds at most
pub passing_alike : (p q : ℕ → Bool) → ((y : ℕ) → p y ≡ q y) → (xs : List ℕ) → passing p xs ≡ passing q xs
passing_alike p q h xs = λ i. passing (λ (y : ℕ). h y i) xs

either : (ℕ → Bool) → (ℕ → Bool) → ℕ → Bool
either p q y = cond (p y) true (q y)

passing_either : (p q : ℕ → Bool) → ((y : ℕ) → p y ≡ true → q y ≡ false) → (xs : List ℕ)
    → passing (either p q) xs ≡ passing p xs + passing q xs
unfolding passing either
passing_either p q h [] = refl
passing_either p q h (x ∷ xs) = by_first (p x) refl (q x) refl (passing_either p q h xs)
  where
    by_first : (s : Bool) → p x ≡ s → (t : Bool) → q x ≡ t → passing (either p q) xs ≡ passing p xs + passing q xs
        → cond (cond s true t) (suc (passing (either p q) xs)) (passing (either p q) xs)
        ≡ cond s (suc (passing p xs)) (passing p xs) + cond t (suc (passing q xs)) (passing q xs)
    by_first true e true f ih = absurd (false_not_true (sym (h x e) ∙ f))
    by_first true e false f ih = omega (arith, ih)
    by_first false e true f ih = omega (arith, ih)
    by_first false e false f ih = ih

-- ---- ids that are each once in a list are as many as their different ones
none_pass : (xs : List ℕ) → passing (λ (y : ℕ). occurs y []) xs ≡ 0
unfolding passing occurs
none_pass [] = refl
none_pass (x ∷ xs) = none_pass xs

eqb_turned : (x y : ℕ) → eqb x y ≡ eqb y x
eqb_turned x y = by_test (eqb x y) refl
  where
    by_test : (t : Bool) → eqb x y ≡ t → t ≡ eqb y x
    by_test true e = sym (eq-eqb y x (sym (eqb-true x y e)))
    by_test false e = sym (ne_eqb y x (λ f. eqb-false x y e (sym f)))

pub sighted_so : (round xs : List ℕ) → ((i : ℕ) → In i round → count i xs ≡ 1) → passing (λ (y : ℕ). occurs y round) xs ≡ distinct round
unfolding distinct occurs either
sighted_so [] xs h = none_pass xs
sighted_so (x ∷ rest) xs h = by_first (occurs x rest) refl (sighted_so rest xs (λ i m. h i (inr m)))
  where
    split : passing (λ (y : ℕ). occurs y (x ∷ rest)) xs ≡ passing (either (eqb x) (λ (y : ℕ). occurs y rest)) xs
    split = refl

    again : occurs x rest ≡ true → (y : ℕ) → either (eqb x) (λ (z : ℕ). occurs z rest) y ≡ occurs y rest
    again e y = by_test (eqb x y) refl
      where
        by_test : (t : Bool) → eqb x y ≡ t → cond t true (occurs y rest) ≡ occurs y rest
        by_test true f = sym (ap (λ (z : ℕ). occurs z rest) (sym (eqb-true x y f)) ∙ e)
        by_test false f = refl

    once : passing (eqb x) xs ≡ 1
    once = passing_alike (eqb x) (is_id x) (eqb_turned x) xs ∙ h x (inl refl)

    by_first : (t : Bool) → occurs x rest ≡ t → passing (λ (y : ℕ). occurs y rest) xs ≡ distinct rest
        → passing (λ (y : ℕ). occurs y (x ∷ rest)) xs ≡ cond t (distinct rest) (suc (distinct rest))
    by_first true e ih = split ∙ passing_alike _ _ (again e) xs ∙ ih
    by_first false e ih =
        let s = split in
        let t = passing_either (eqb x) (λ (y : ℕ). occurs y rest) (λ y f. ap (λ (z : ℕ). occurs z rest) (sym (eqb-true x y f)) ∙ e) xs in
        let o = once in
        omega (arith, s, t, o, ih)

-- ---- what is not sighted
module _ (lists : Lists) (round : List ℕ) (once : (i : ℕ) → In i round → count i (lists.references ++ lists.walls) ≡ 1) where
  all_but : passing (absent round) lists.references + passing (absent round) lists.walls + distinct round
      ≡ length lists.references + length lists.walls
  all_but =
      let s = sighted_so round (lists.references ++ lists.walls) once in
      let a = passing_append (λ (y : ℕ). occurs y round) lists.references lists.walls in
      let r = others (λ (y : ℕ). occurs y round) lists.references in
      let w = others (λ (y : ℕ). occurs y round) lists.walls in
      omega (arith, s, a, r, w)

-- the sections of a sheet that reads are its lists
module _ (file : Slice) where
  no_lists : {P : Type 0} (k : ℕ) (l : Lists) → ◌≡◌ {A = Outcome Lists} (refusal k) (value l) → P
  no_lists k l e = let z : ◌≡◌ {A = ℕ} 0 1 = cc in absurd (omega arith)

  same_lists : (l m : Lists) → ◌≡◌ {A = Outcome Lists} (value l) (value m) → l ≡ m
  same_lists l m e = cc

  sections_are : (x : Outcome Sheet) (l : Lists) → sheet.and_then x (λ (s : Sheet). value (sheet.lists_of file.bytes s)) ≡ value l
      → (ids_in (sheet.section_or_empty file References x).bytes ≡ l.references) × (ids_in (sheet.section_or_empty file Walls x).bytes ≡ l.walls)
  sections_are (value s) l e =
      let f = same_lists (sheet.lists_of file.bytes s) l e in
      (ap (λ (m : Lists). m.references) f, ap (λ (m : Lists). m.walls) f)
  sections_are (refusal k) l e = no_lists k l e

  ids_of : (l : Lists) → read_lists file.bytes ≡ value l
      → (ids_in (sheet.section_part file References).bytes ≡ l.references) × (ids_in (sheet.section_part file Walls).bytes ≡ l.walls)
  unfolding sheet.read_lists
  ids_of l e = sections_are (sheet.read_sheet file.bytes) l e

part_length : (part xs : List ℕ) → ids_in part ≡ xs → length part / 4 ≡ length xs
part_length part xs e = sym (length_ids (length part / 4) part) ∙ ap length e

-- where each id of the round is a reference or a wall prism, once, all of these but the different ids of the round
pub record AllBut (file round : List ℕ) (m n d : ℕ) : Type 0 where
  pub enough : d ≤ m + n
  pub is : m + n - d ≡ unsighted_in (read_lists file) round

pub unsighted_so : (file : Slice) (round : List ℕ) (a b : Slice) (d : ℕ) → of_sheet (read_lists file.bytes) round ≡ Yes
    → a ≡ sheet.section_part file References → b ≡ sheet.section_part file Walls → d ≡ distinct round
    → AllBut file.bytes round (length a.bytes / 4) (length b.bytes / 4) d
unsighted_so file round a b d listed ea eb ed =
    let o = sheet_forth file.bytes round listed in
    let l = o.lists in
    let t = ids_of file l o.reads in
    let m = part_length a.bytes l.references (ap (λ (x : Slice). ids_in x.bytes) ea ∙ t.0) in
    let n = part_length b.bytes l.walls (ap (λ (x : Slice). ids_in x.bytes) eb ∙ t.1) in
    let all = all_but l round (λ i p. once_there i (l.references ++ l.walls) l.retired (o.once i p) (o.in_use i p)) in
    let u : unsighted_in (read_lists file.bytes) round ≡ passing (absent round) l.references + passing (absent round) l.walls =
    ap (λ (x : Outcome Lists). unsighted_in x round) o.reads in
    record { enough = omega (arith, m, n, all, ed); is = omega (arith, m, n, all, ed, u) }
  where
    once_there : (i : ℕ) (xs ys : List ℕ) → count i (xs ++ ys) ≡ 1 → ¬ In i ys → count i xs ≡ 1
    once_there i xs ys e n =
        let c = passing_append (is_id i) xs ys in
        let z = none_counted i ys n in
        omega (arith, c, z, e)

-- How many ids of a list pass a test, from the place i on. Assumes nothing.
use Prim.Native.Nat.{ℕ, suc, ◌+◌, ◌-◌, ◌/◌, ◌≤◌, ◌<◌}
use native.Mathlib.Omega.{arith}
use native.Mathlib.Numerals.{add-one}
use mathlib.Core.Path.{◌≡◌, refl, sym, ap, ◌∙◌}
use mathlib.Core.Bool.{Bool, true, false, cond, not}
use mathlib.Core.List.{List, [], ◌∷◌}
use lib.Dec.{eqb}
use borrow.Author.Tests.{eq-eqb, ne_eqb}
use lib.ListN.{length, get_or, drop, drop_of_length-le}
use lib.Seq.{drop-cons}
use Rattle.sheet.specs.SheetReading.{ids_in}
use Rattle.sheet.proofs.CountsAndIds.{length_ids}
use Rattle.preflight.specs.Ids.{passing, count}
use Rattle.preflight.specs.OnSheet.{off_sheet}
use Rattle.preflight.specs.Steps.Contracts.{Tallied, PartTallied}

-- 1 where it is so, else 0
pub record OneOf (t : Bool) (r : ℕ) : Type 0 where
  pub is : r ≡ cond t 1 0
  pub most : r ≤ 1

pub one_so : (t : Bool) → t ≡ true → OneOf t 1
one_so t e = record { is = sym (ap (λ (b : Bool). cond b 1 0) e); most = omega arith }

pub one_not : (t : Bool) → t ≡ false → OneOf t 0
one_not t e = record { is = sym (ap (λ (b : Bool). cond b 1 0) e); most = omega arith }

one_more : (t : Bool) (k : ℕ) → cond t 1 0 + k ≡ cond t (suc k) k
one_more true k = omega arith
one_more false k = omega arith

-- the first i ids are counted
pub record TallyInv (test : ℕ → Bool) (xs : List ℕ) (seen i : ℕ) : Type 0 where
  pub is : seen + passing test (drop i xs) ≡ passing test xs
  pub most : seen ≤ i
  pub inside : i ≤ length xs

module _ (test : ℕ → Bool) (xs : List ℕ) where
  turn : (i r : ℕ) → i < length xs → r ≡ cond (test (get_or xs i 0)) 1 0 → r + passing test (drop (i + 1) xs) ≡ passing test (drop i xs)
  unfolding passing
  turn i r h f =
      ap (λ (k : ℕ). k + passing test (drop (i + 1) xs)) f
      ∙ ap (λ (k : ℕ). cond (test (get_or xs i 0)) 1 0 + passing test (drop k xs)) (add-one i)
      ∙ one_more (test (get_or xs i 0)) (passing test (drop (suc i) xs))
      ∙ sym (ap (passing test) (drop-cons xs i 0 h))

  pub tally_starts : TallyInv test xs 0 0
  tally_starts = record { is = omega arith; most = omega arith; inside = omega arith }

  pub tallies_on : (seen i r : ℕ) → TallyInv test xs seen i → i < length xs → OneOf (test (get_or xs i 0)) r → TallyInv test xs (seen + r) (i + 1)
  tallies_on seen i r v h o =
      let t = turn i r h o.is in
      record { is = omega (arith, v.is, t); most = omega (arith, v.most, o.most); inside = omega (arith, h) }

  -- by the test's two answers
  pub tally_yes : (seen after i : ℕ) → TallyInv test xs seen i → i < length xs → test (get_or xs i 0) ≡ true → after ≡ seen + 1
      → TallyInv test xs after (i + 1)
  tally_yes seen after i v h t e =
      let n = tallies_on seen i 1 v h (one_so _ t) in
      record { is = omega (arith, n.is, e); most = omega (arith, n.most, e); inside = n.inside }

  pub tally_no : (seen after i : ℕ) → TallyInv test xs seen i → i < length xs → test (get_or xs i 0) ≡ false → after ≡ seen
      → TallyInv test xs after (i + 1)
  tally_no seen after i v h t e =
      let n = tallies_on seen i 0 v h (one_not _ t) in
      record { is = omega (arith, n.is, e); most = omega (arith, n.most, e); inside = n.inside }

  pub tallied : (seen i : ℕ) → TallyInv test xs seen i → length xs ≤ i → Tallied test xs seen
  unfolding passing
  tallied seen i v h =
      let e : passing test (drop i xs) ≡ 0 = simp (drop_of_length-le xs h) in
      record { is = omega (arith, v.is, e); most = omega (arith, v.most, v.inside) }

-- the ids that do not pass are the others
pub others : (test : ℕ → Bool) (xs : List ℕ) → passing test xs + passing (λ (x : ℕ). not (test x)) xs ≡ length xs
unfolding passing
others test [] = refl
others test (x ∷ xs) = by_test (test x) (passing test xs) (passing (λ (y : ℕ). not (test y)) xs) (others test xs)
  where
    by_test : (t : Bool) (m n : ℕ) → m + n ≡ length xs → cond t (suc m) m + cond (not t) (suc n) n ≡ suc (length xs)
    by_test true m n e = omega (arith, e)
    by_test false m n e = omega (arith, e)

pub added_so : (test : ℕ → Bool) (xs : List ℕ) (r : ℕ) → Tallied test xs r → length xs - r ≡ passing (λ (x : ℕ). not (test x)) xs
added_so test xs r t = let o = others test xs in omega (arith, o, t.is)

-- ---- the ids of a part of a sheet
abbrev pub PartInv : (ℕ → Bool) → List ℕ → ℕ → ℕ → Type 0
PartInv test part seen i = TallyInv test (ids_in part) seen i

module _ (test : ℕ → Bool) (part : List ℕ) where
  pub part_yes : (seen after i x : ℕ) → PartInv test part seen i → i < length part / 4 → x ≡ get_or (ids_in part) i 0 → test x ≡ true → after ≡ seen + 1
      → PartInv test part after (i + 1)
  part_yes seen after i x v h e t f =
      let l = length_ids (length part / 4) part in
      tally_yes test (ids_in part) seen after i v (omega (arith, l, h)) (ap test (sym e) ∙ t) f

  pub part_no : (seen after i x : ℕ) → PartInv test part seen i → i < length part / 4 → x ≡ get_or (ids_in part) i 0 → test x ≡ false → after ≡ seen
      → PartInv test part after (i + 1)
  part_no seen after i x v h e t f =
      let l = length_ids (length part / 4) part in
      tally_no test (ids_in part) seen after i v (omega (arith, l, h)) (ap test (sym e) ∙ t) f

  pub part_tallied : (seen i : ℕ) → PartInv test part seen i → length part / 4 ≤ i → PartTallied test part seen
  part_tallied seen i v h =
      let l = length_ids (length part / 4) part in
      let t = tallied test (ids_in part) seen i v (omega (arith, l, h)) in
      record { is = t.is; most = omega (arith, t.most, l) }

-- ---- once, as a reference or a wall prism
module _ (references walls retired : List ℕ) (id a b : ℕ) (e : a ≡ count id references) (f : b ≡ count id walls) where
  by_count : (t : Bool) → eqb (a + b) 1 ≡ t → cond t (not (eqb (count id retired) 0)) true ≡ off_sheet references walls retired id
  unfolding off_sheet
  by_count t g = λ i. cond (sym (sym (λ j. eqb (e j + f j) 1) ∙ g) i) (not (eqb (count id retired) 0)) true

  pub not_once : ¬ (a + b ≡ 1) → true ≡ off_sheet references walls retired id
  not_once h = by_count false (ne_eqb (a + b) 1 h)

  pub once : (c : ℕ) → a + b ≡ 1 → c ≡ count id retired → not (eqb c 0) ≡ off_sheet references walls retired id
  once c h g = ap (λ (k : ℕ). not (eqb k 0)) g ∙ by_count true (eq-eqb (a + b) 1 h)

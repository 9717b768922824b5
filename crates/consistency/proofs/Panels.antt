-- The panel's reading, and the check of both readings, step by step. Assumes nothing.
use Prim.Native.Nat.{ℕ, zero, suc, ◌+◌, ◌-◌, ◌≤◌}
use Rattle.std.proofs.Common.{add-one}
use Rattle.std.specs.List.{list_all, range_with_len}
use native.Mathlib.Omega.{arith}
use mathlib.Core.Path.{◌≡◌, refl, sym, ap, ◌∙◌, subst}
use mathlib.Core.Bool.{Bool, true, false, not, ◌&&◌}
use mathlib.Core.List.{List, []}
use lib.Dec.{eqb}
use borrow.Author.Tests.{eq-eqb, ne_eqb}
use lib.ListN.{length, take, drop, length-take, length-drop}
use lib.Seq.{take-take}
use Rattle.image.specs.Bytes.{same, all}
use Rattle.image.specs.Head.{back_size_at}
use Rattle.image.specs.Zero.{has_zero, before_zero}
use Rattle.image.proofs.AllOfRange.{all_true}
use Rattle.image.proofs.Zeros.{before_front, before_short, before_free, before_longest, before_all, before_less, readings_same}
use Rattle.reader.specs.Naming.{Naming, place, unnamed, no_back, naming}
use Rattle.consistency.specs.Panel.{cut_at_zero, panel, reading, agree_on, readings_agree}
use Rattle.consistency.specs.Theorems.PanelReads.{LongestFront, PanelReads}
use Rattle.reader.specs.IdWalk.{upper_hint}
use Rattle.reader.proofs.Namings.{named, never}

module _ (image : List ℕ) (id : ℕ) where
  -- an id that has a name
  module _ (s n : ℕ) (e : place s n ≡ naming image id) where
    pub panel_named : (k : ℕ) → k ≡ length (before_zero (take n (drop s image))) → place s k ≡ panel image id
    unfolding panel
    panel_named k h = ap (place s) h ∙ ap (cut_at_zero image) e

    pub agree_named : (z : Bool) → z ≡ has_zero (take n (drop s image)) → not z ≡ agree_on image id
    unfolding panel
    agree_named z h =
        let name = take n (drop s image) in
        let k = length (before_zero name) in
        let short : k ≤ n = omega (arith, before_short name, length-take n (drop s image)) in
        let front : before_zero name ≡ take k (drop s image) = before_front name ∙ take-take k n (drop s image) short in
        ap not h
        ∙ sym (readings_same name)
        ∙ ap (λ (l : List ℕ). same l name) front
        ∙ ap (λ (x : Naming). same (reading image (cut_at_zero image x)) (reading image x)) e

    -- they agree exactly where the panel's is as long as the name
    name_long : s + n ≤ length image → length (take n (drop s image)) ≡ n
    name_long inside = omega (arith, length-take n (drop s image), length-drop s image)

    module _ (inside : s + n ≤ length image) (r : ℕ) (er : r ≡ length (before_zero (take n (drop s image)))) where
      pub agree_sized : eqb r n ≡ agree_on image id
      agree_sized = sized_by_zero (has_zero (take n (drop s image))) refl
        where
          sized_by_zero : (z : Bool) → has_zero (take n (drop s image)) ≡ z → eqb r n ≡ agree_on image id
          sized_by_zero true q =
              let less = before_less (take n (drop s image)) q in
              let long = name_long inside in
              ne_eqb r n (λ h. omega arith) ∙ agree_named true (sym q)
          sized_by_zero false q = eq-eqb r n (er ∙ before_all (take n (drop s image)) q ∙ name_long inside) ∙ agree_named false (sym q)

  -- one that has none
  pub panel_unnamed : unnamed ≡ naming image id → unnamed ≡ panel image id
  unfolding panel
  panel_unnamed e = ap (cut_at_zero image) e

  pub agree_unnamed : unnamed ≡ naming image id → true ≡ agree_on image id
  unfolding panel same
  agree_unnamed e = ap (λ (x : Naming). same (reading image (cut_at_zero image x)) (reading image x)) e

-- ---- the longest front without a zero byte

longest_front : (name : List ℕ) → LongestFront name (before_zero name)
longest_front name = record { is_front = before_front name; zero_free = before_free name; longest = before_longest name }

pub panel_reads : PanelReads
unfolding panel before_zero
panel_reads = record { shown = shown }
  where
    cut : (image : List ℕ) (x : Naming) → LongestFront (reading image x) (reading image (cut_at_zero image x))
    cut image (place s n) =
        let name = take n (drop s image) in
        let k = length (before_zero name) in
        let short : k ≤ n = omega (arith, before_short name, length-take n (drop s image)) in
        let front : before_zero name ≡ take k (drop s image) = before_front name ∙ take-take k n (drop s image) short in
        subst (λ (l : List ℕ). LongestFront name l) front (longest_front name)
    cut image unnamed = longest_front []

    shown : (image : List ℕ) (id : ℕ) → LongestFront (reading image (naming image id)) (reading image (panel image id))
    shown image id = cut image (naming image id)

-- ---- the returned part

pub panel_inside : (image : List ℕ) (id s n : ℕ) → panel image id ≡ place s n → s + n ≤ length image
unfolding panel
panel_inside image id s n e = inside_by_naming (naming image id) refl e
  where
    inside_by_naming : (x : Naming) → naming image id ≡ x → cut_at_zero image x ≡ place s n → s + n ≤ length image
    inside_by_naming (place s' n') p q =
        let inside = (named image id s' n' p).inside in
        let cut = before_short (take n' (drop s' image)) in
        let took = length-take n' (drop s' image) in
        let same_start : s' ≡ s = cc in
        let same_length : length (before_zero (take n' (drop s' image))) ≡ n = cc in
        omega arith
    inside_by_naming unnamed p q = never s n q

-- ---- the check, id by id

-- where no back array can be read, no id has a name, and the readings agree
pub agree_without : (image : List ℕ) → no_back image ≡ true → readings_agree image ≡ true
unfolding readings_agree naming
agree_without image h = all_true (agree_on image) 0 (back_size_at image) (λ i p. sym (agree_unnamed image (0 + i) (rw h refl)))

-- what the hint at id 0 leaves to look at
pub agree_hinted : (image : List ℕ) (n : ℕ) → n ≡ upper_hint image 0 → all (agree_on image) 0 n ≡ readings_agree image
unfolding upper_hint all readings_agree
agree_hinted image n e = agree_by_array (no_back image) refl
  where
    none : no_back image ≡ true → n ≡ 0
    none h = e ∙ rw h refl

    some : no_back image ≡ false → n ≡ back_size_at image
    some h = let z : back_size_at image - 0 ≡ back_size_at image = omega arith in e ∙ rw h z

    empty : all (agree_on image) 0 0 ≡ true
    empty = refl

    full : all (agree_on image) 0 (back_size_at image) ≡ readings_agree image
    full = refl

    agree_by_array : (b : Bool) → no_back image ≡ b → all (agree_on image) 0 n ≡ readings_agree image
    agree_by_array true h = ap (all (agree_on image) 0) (none h) ∙ empty ∙ sym (agree_without image h)
    agree_by_array false h = ap (all (agree_on image) 0) (some h) ∙ full

-- a chain's test of the numbers from t on
pub all_of_range : (test : ℕ → Bool) (m t : ℕ) → list_all test (range_with_len t m) ≡ all test t m
unfolding all
all_of_range test zero t = refl
all_of_range test (suc m) t =
    ap (λ (b : Bool). test t && b) (all_of_range test m (t + 1) ∙ ap (λ (k : ℕ). all test k m) (add-one t))

-- Naming: what is known where the back array can be read, and where a name has its place. Assumes nothing.
use Rattle.std.proofs.Common.{◌≡◌, ℕ, ◌+◌, ◌-◌, ◌*◌, ◌<◌, ◌≤◌, Bool, true, false, cond, ◌||◌, eqb, ltb, leb, List, length, sym, ap, ◌∙◌, arith, ltb-false}
use Rattle.std.proofs.Common.{leb-false}
use Rattle.image.specs.Bytes.{word}
use Rattle.image.proofs.Bools.{or_false_first, or_false_second, chose_second}
use Rattle.image.specs.Head.{back_size_at, back_offset_at, back_past_end}
use Rattle.image.specs.Stored.{broken}
use Rattle.reader.specs.Naming.{place, unnamed, no_back, naming_at, naming}
use Rattle.reader.specs.IdWalk.{upper_hint}
use Rattle.image.proofs.Unbroken.{unbroken}

-- a back array that can be read lies in the image
pub record Back (image : List ℕ) : Type 0 where
  pub head : 2072 ≤ length image
  pub array : back_offset_at image + 4 * back_size_at image ≤ length image

pub back : (image : List ℕ) → no_back image ≡ false → Back image
back image e =
    let short = ltb (length image) 2072 in
    let none = eqb (back_offset_at image) 0 in
    record {
      head = ltb-false (length image) 2072 (or_false_first short none (or_false_first (short || none) (back_past_end image) e));
      array = ltb-false (length image) (back_offset_at image + 4 * back_size_at image) (or_false_second (short || none) (back_past_end image) e);
    }

-- the entry's offset, read by way of the back offset o
pub back_word : (image : List ℕ) (id o at : ℕ) → o ≡ back_offset_at image → at ≡ word image (o + 4 * id) → at ≡ word image (back_offset_at image + 4 * id)
back_word image id o at e f = f ∙ ap (λ (k : ℕ). word image (k + 4 * id)) e

-- naming by its four tests, for an entry at `at`
module _ (image : List ℕ) (id at : ℕ) where
  naming_at_lem : at ≡ word image (back_offset_at image + 4 * id)
      → cond (no_back image) unnamed (cond (leb (back_size_at image) id) unnamed (naming_at image at)) ≡ naming image id
  unfolding naming
  naming_at_lem e = ap (λ (k : ℕ). cond (no_back image) unnamed (cond (leb (back_size_at image) id) unnamed (naming_at image k))) e

  pub naming_by : (b l z x : Bool) → at ≡ word image (back_offset_at image + 4 * id)
      → no_back image ≡ b → leb (back_size_at image) id ≡ l → eqb at 0 ≡ z → broken image at ≡ x
      → cond b unnamed (cond l unnamed (cond (z || x) unnamed (place (at + 8) (word image (at + 4) - 1)))) ≡ naming image id
  unfolding naming_at
  naming_by b l z x e eb el ez ex =
      sym (λ i. cond (eb i) unnamed (cond (el i) unnamed (cond (ez i || ex i) unnamed (place (at + 8) (word image (at + 4) - 1))))) ∙ naming_at_lem e

-- a place is that of a name in the image, of an id below back size
pub record HasPlace (image : List ℕ) (id s n : ℕ) : Type 0 where
  pub array : no_back image ≡ false
  pub below : id < back_size_at image
  pub inside : s + n ≤ length image

pub never : {P : Type 0} (s n : ℕ) → unnamed ≡ place s n → P
never s n e = let z : ◌≡◌ {A = ℕ} 0 1 = cc in absurd (omega arith)

pub named : (image : List ℕ) (id s n : ℕ) → naming image id ≡ place s n → HasPlace image id s n
unfolding naming naming_at
named image id s n e =
    let at = word image (back_offset_at image + 4 * id) in
    let behind = leb (back_size_at image) id in
    let array = chose_second (no_back image) unnamed (cond behind unnamed (naming_at image at)) (place s n) (never s n) e in
    let below = chose_second behind unnamed (naming_at image at) (place s n) (never s n) array.1 in
    let entry = place (at + 8) (word image (at + 4) - 1) in
    let there = chose_second (eqb at 0 || broken image at) unnamed entry (place s n) (never s n) below.1 in
    let w = unbroken image at (or_false_second (eqb at 0) (broken image at) there.0) in
    let es : at + 8 ≡ s = cc there.1 in
    let en : word image (at + 4) - 1 ≡ n = cc there.1 in
    record { array = array.0; below = leb-false (back_size_at image) id below.0; inside = omega (arith, w.name) }

-- the upper hint, for a back size w
pub hint_none : (image : List ℕ) (n : ℕ) → no_back image ≡ true → 0 ≡ upper_hint image n
unfolding upper_hint
hint_none image n e = sym (ap (λ (t : Bool). cond t 0 (back_size_at image - n)) e)

pub hint_back : (image : List ℕ) (n w r : ℕ) → no_back image ≡ false → w ≡ back_size_at image → r ≡ w - n → r ≡ upper_hint image n
unfolding upper_hint
hint_back image n w r e f g = g ∙ ap (λ (k : ℕ). k - n) f ∙ sym (ap (λ (t : Bool). cond t 0 (back_size_at image - n)) e)

-- Names by their ends: where each begins and ends. Assumes nothing.
use Rattle.std.proofs.Common.{◌≡◌, ℕ, zero, suc, ◌+◌, ◌-◌, ◌<◌, ◌≤◌, Bool, false, cond, ◌||◌, ltb, List, [], ◌∷◌, length, get_or, drop, sym, refl, ap, ◌∙◌}
use Rattle.std.proofs.Common.{add-one, arith, drop_of_length-le, drop-cons, ltb-false, ne_eqb}
use native.Mathlib.Decide.{dec_lt}
use mathlib.Core.Bool.{or_assoc, or-false}
use Rattle.image.proofs.Bools.{or_false_first, or_false_second}
use Rattle.image.specs.Stored.{between}
use Rattle.image.specs.PackedNames.{names_from, names, invalid_ends}
use Rattle.image.specs.PackedNames.{begin_of, nth}

-- where the i-th name begins, the first at s
abbrev begins : ℕ → List ℕ → ℕ → ℕ
begins s ends zero = s
begins s ends (suc i) = get_or ends i 0

nth_from : (bytes : List ℕ) (s : ℕ) (ends : List ℕ) (i : ℕ) → i < length ends
    → nth (names_from bytes s ends) i ≡ between bytes (begins s ends i) (get_or ends i 0)
unfolding names_from
nth_from bytes s [] i h = absurd (omega arith)
nth_from bytes s (e ∷ es) zero h = refl
nth_from bytes s (e ∷ es) (suc zero) h = let k : 0 < length es = omega arith in nth_from bytes e es 0 k
nth_from bytes s (e ∷ es) (suc (suc i)) h = let k : suc i < length es = omega arith in nth_from bytes e es (suc i) k

length_from : (bytes : List ℕ) (s : ℕ) (ends : List ℕ) → length (names_from bytes s ends) ≡ length ends
unfolding names_from
length_from bytes s [] = refl
length_from bytes s (e ∷ es) = ap suc (length_from bytes e es)

pub length_names : (bytes ends : List ℕ) → length (names bytes ends) ≡ length ends
unfolding names
length_names bytes ends = length_from bytes 0 ends

begins_of : (ends : List ℕ) (i : ℕ) → begins 0 ends i ≡ begin_of ends i
begins_of ends zero = refl
begins_of ends (suc i) =
    let e : suc i - 1 ≡ i = omega arith in
    ap (λ (k : ℕ). get_or ends k 0) (sym e)
    ∙ sym (ap (λ (t : Bool). cond t 0 (get_or ends (suc i - 1) 0)) (ne_eqb (suc i) 0 (λ z. omega arith)))

pub nth_name : (bytes ends : List ℕ) (i : ℕ) → i < length ends → nth (names bytes ends) i ≡ between bytes (begin_of ends i) (get_or ends i 0)
unfolding names
nth_name bytes ends i h = nth_from bytes 0 ends i h ∙ ap (λ (s : ℕ). between bytes s (get_or ends i 0)) (begins_of ends i)

-- ends that neither fall nor pass the bytes
pub record Placed (size s e : ℕ) : Type 0 where
  pub rises : s ≤ e
  pub inside : e ≤ size

placed_from : (size s : ℕ) (ends : List ℕ) (i : ℕ) → invalid_ends size s ends ≡ false → i < length ends → Placed size (begins s ends i) (get_or ends i 0)
unfolding invalid_ends
placed_from size s [] i f h = absurd (omega arith)
placed_from size s (e ∷ es) zero f h =
    let two = or_false_first (ltb e s || ltb size e) (invalid_ends size e es) f in
    record { rises = ltb-false e s (or_false_first (ltb e s) (ltb size e) two); inside = ltb-false size e (or_false_second (ltb e s) (ltb size e) two) }
placed_from size s (e ∷ es) (suc zero) f h =
    let k : 0 < length es = omega arith in
    placed_from size e es 0 (or_false_second (ltb e s || ltb size e) (invalid_ends size e es) f) k
placed_from size s (e ∷ es) (suc (suc i)) f h =
    let k : suc i < length es = omega arith in
    placed_from size e es (suc i) (or_false_second (ltb e s || ltb size e) (invalid_ends size e es) f) k

pub placed : (size : ℕ) (ends : List ℕ) (i : ℕ) → invalid_ends size 0 ends ≡ false → i < length ends → Placed size (begin_of ends i) (get_or ends i 0)
placed size ends i f h =
    let p = placed_from size 0 ends i f h in
    let e = begins_of ends i in
    record { rises = omega (arith, p.rises); inside = p.inside }

-- the test of the ends, a turn at a time
pub invalid_ends_step : (size s : ℕ) (ends : List ℕ) (i : ℕ) (b x : Bool) → i < length ends → (b || invalid_ends size s (drop i ends)) ≡ x
    → (((b || ltb (get_or ends i 0) s) || ltb size (get_or ends i 0)) || invalid_ends size (get_or ends i 0) (drop (i + 1) ends)) ≡ x
unfolding invalid_ends
invalid_ends_step size s ends i b x h p =
    let e : suc i ≡ i + 1 = omega arith in
    let end = get_or ends i 0 in
    let rest = invalid_ends size end (drop (i + 1) ends) in
    ap (λ (t : Bool). t || rest) (or_assoc b (ltb end s) (ltb size end))
    ∙ or_assoc b (ltb end s || ltb size end) rest
    ∙ ap (λ (k : ℕ). b || ((ltb end s || ltb size end) || invalid_ends size end (drop k ends))) (sym e)
    ∙ sym (ap (λ (l : List ℕ). b || invalid_ends size s l) (drop-cons ends i 0 h))
    ∙ p

pub invalid_ends_none : (size s : ℕ) (ends : List ℕ) (i : ℕ) (b x : Bool) → length ends ≤ i → (b || invalid_ends size s (drop i ends)) ≡ x → b ≡ x
unfolding invalid_ends
invalid_ends_none size s ends i b x h p =
    sym (or-false b) ∙ ap (λ (l : List ℕ). b || invalid_ends size s l) (sym (drop_of_length-le ends {i = i} h)) ∙ p

-- ---- where names begin

pub begin_later : (ends : List ℕ) (i : ℕ) → (i ≡ 0 → ⊥) → begin_of ends i ≡ get_or ends (i - 1) 0
begin_later ends i h = ap (λ (b : Bool). cond b 0 (get_or ends (i - 1) 0)) (ne_eqb i 0 h)

-- a name begins where the one before ends
pub begin_next : (ends : List ℕ) (i : ℕ) → begin_of ends (i + 1) ≡ get_or ends i 0
begin_next ends i =
    let e : i + 1 - 1 ≡ i = omega arith in
    begin_later ends (i + 1) (λ z. omega arith) ∙ ap (λ (k : ℕ). get_or ends k 0) e

pub begins_rise : (size : ℕ) (ends : List ℕ) → invalid_ends size 0 ends ≡ false → (m i : ℕ) → i ≤ m → m ≤ length ends → begin_of ends i ≤ begin_of ends m
begins_rise size ends good zero i h k = let z : i ≡ 0 = omega arith in omega (arith, ap (begin_of ends) z)
begins_rise size ends good (suc m) i h k =
    elim (dec_lt m i) [
      | yes l ↦ (let z : i ≡ suc m = omega arith in omega (arith, ap (begin_of ends) z))
      | no l ↦
          (let before = begins_rise size ends good m i (omega arith) (omega arith) in
          omega (arith, before, (placed size ends m good (omega arith)).rises, begin_next ends m, ap (begin_of ends) (add-one m)))
    ]

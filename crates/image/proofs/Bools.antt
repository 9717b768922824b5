-- Truth values that are joined, and choices by them. Assumes nothing.
use Rattle.std.proofs.Common.{◌≡◌, ℕ, Bool, true, false, cond, ◌&&◌, ◌||◌, sym, refl, ◌∙◌, arith}

pub false_not_true : false ≡ true → ⊥
false_not_true z = let y : ◌≡◌ {A = ℕ} 0 1 = cc in omega arith

pub and_first : (a b : Bool) → (a && b) ≡ true → a ≡ true
and_first true b h = refl
and_first false b h = absurd (false_not_true h)

pub and_second : (a b : Bool) → (a && b) ≡ true → b ≡ true
and_second true b h = h
and_second false b h = absurd (false_not_true h)

pub and_both : (a b : Bool) → a ≡ true → b ≡ true → (a && b) ≡ true
and_both a b p q = cc

pub or_false_first : (a b : Bool) → (a || b) ≡ false → a ≡ false
or_false_first true b h = h
or_false_first false b h = refl

pub or_false_second : (a b : Bool) → (a || b) ≡ false → b ≡ false
or_false_second true b h = let z : true ≡ false = h in absurd (false_not_true (sym z))
or_false_second false b h = h

-- one of two holds, and it is not the second
pub or_true_first : (a b : Bool) → (a || b) ≡ true → b ≡ false → a ≡ true
or_true_first true b h no_second = refl
or_true_first false b h no_second = absurd (false_not_true (sym no_second ∙ h))

-- three tests in a row: the first or the second fails, or the third decides
pub and3_first_fails : (a b c : Bool) → a ≡ false → false ≡ (a && b && c)
and3_first_fails a b c p = rw p

pub and3_second_fails : (a b c : Bool) → a ≡ true → b ≡ false → false ≡ (a && b && c)
and3_second_fails a b c p q = rw (p, q)

pub and3_third : (a b c x : Bool) → a ≡ true → b ≡ true → x ≡ c → x ≡ (a && b && c)
and3_third a b c x p q r = rw (p, q) r

-- ---- a choice, the other way round: an answer that one branch never gives says how the test came out, and is the other branch

module _ {A : Type 0} where
  pub chose_first : (t : Bool) (x y z : A) → (y ≡ z → ⊥) → cond t x y ≡ z → (t ≡ true) × (x ≡ z)
  chose_first true x y z never e = (refl, e)
  chose_first false x y z never e = absurd (never e)

  pub chose_second : (t : Bool) (x y z : A) → (x ≡ z → ⊥) → cond t x y ≡ z → (t ≡ false) × (y ≡ z)
  chose_second true x y z never e = absurd (never e)
  chose_second false x y z never e = (refl, e)
